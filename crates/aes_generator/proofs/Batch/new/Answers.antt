use Rattle.std.proofs.Common.{rules, arith, length-set, ◌∙◌, refl}
use Rattle.units.proofs.FillLaws.{filled_more, filled_none}
use Rattle.aes_generator.proofs.AesGeneratorLaws.{all_right, counter_from}
use Rattle.aes_generator.proofs.Batch.new.Goals as goal

pub loop-i-init : goal.loop-i-init
loop-i-init c = (refl, filled_none (counter_from c.args.nonce.now.0 c.args.first))

pub loop-i-preserved : goal.loop-i-preserved
loop-i-preserved c =
    let l = c.loop-i in (
      length-set l.counters l.i _ ∙ l.invariant.0,
      filled_more (counter_from c.args.nonce.now.0 c.args.first) l.counters l.i c.counter_block.result (omega (arith, l.invariant.0)) l.invariant.1 (search rules),
    )

pub returns-clause-right : goal.returns-clause-right
returns-clause-right c =
    let l = c.loop-i in
    all_right c.args.aes.now.key c.args.nonce.now.0 c.args.first l.i l.counters c.encrypt_eight.result l.invariant.0 (search rules) l.invariant.1 c.encrypt_eight.ensures
