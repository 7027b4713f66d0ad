use Rattle.std.proofs.Common.{rules}
use Rattle.generator.proofs.SameLaws.{Same-trans}
use Rattle.aes_generator.specs.AesGenerator.{aes_meaning}
use Rattle.bench.proofs.TurnLaws.{encrypted_more}
use Rattle.bench.proofs.messages.bench_nea5.Goals as goal

pub loop-turn-preserved : goal.loop-turn-preserved
loop-turn-preserved c =
    let l = c.loop-turn in
    let key = c.args.key.now in
    let p = c.parameters-parameters.result in
    let m = aes_meaning l.generator.aes.key in
    let answered = rw (c.bit_string.ensures.bits, c.bit_string.ensures.bytes) at c.nea5.ensures.outcome in
    record {
      same = Same-trans (aes_meaning key) m (aes_meaning c.nea5.new.generator.aes.key) l.invariant.same c.nea5.ensures.same;
      work = search rules;
      output =
          encrypted_more c.laws.ensures.calls key l.generator.aes.key _ _ _ _ _ _ _ _ _ _ l.invariant.same l.invariant.work
          c.parameters-parameters.ensures l.invariant.output answered;
    }
