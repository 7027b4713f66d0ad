use Rattle.std.proofs.Common.{rules}
use Rattle.aes.specs.KeyExpansion.{aes256}
use Rattle.aes.proofs.CipherLaws.{batch_done}
use Rattle.aes.proofs.cipher.Aes256.encrypt.Goals as goal

pub loop-done-preserved : goal.loop-done-preserved
loop-done-preserved c =
    let l = c.loop-done in
    batch_done (aes256 c.args.self.now.key) c.args.blocks.now l.blocks c.copy_from_slice.new.self _
    c.encrypt_eight-batch.result c.copy_from_slice-in-loop-done.new.self l.done c.min-count.result
    (search rules) l.invariant c.copy_from_slice.ensures.after c.encrypt_eight-batch.ensures c.copy_from_slice-in-loop-done.ensures.after
