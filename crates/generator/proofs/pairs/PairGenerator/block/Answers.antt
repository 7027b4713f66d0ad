use Rattle.generator.proofs.PairLaws.{pair_answered}
use Rattle.generator.proofs.pairs.PairGenerator.block.Goals as goal

pub returns-clause-value : goal.returns-clause-value
returns-clause-value g c =
    let left = c.args.self.now.left in
    let right = c.args.self.now.right in
    pair_answered (g.A.Generator.meaning left) (g.B.Generator.meaning right) c.args.nonce.now.0 c.args.index c.in-Ok-Ok.left c.in-Ok-Ok.right c.add.result
    (g.met.A.Generator.sound left) (g.met.B.Generator.sound right) c.twelve_bytes.ensures (rw c.in-Ok-Ok.is-0 at c.block-left.ensures.value)
    (rw c.in-Ok-Ok.is-1 at c.block-right.ensures.value) c.add.ensures
