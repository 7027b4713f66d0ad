use Rattle.std.proofs.Common.{◌≡◌, length, rules}
use Rattle.generator.proofs.SameLaws.{Same-trans}
use Rattle.aes_generator.specs.AesGenerator.{aes_meaning}
use Rattle.bench.specs.Turns.{tag_size}
use Rattle.bench.proofs.TurnLaws.{opened_more}
use Rattle.bench.proofs.messages.bench_nca5_open.Goals as goal

pub loop-preserved : goal.loop-preserved
loop-preserved c =
    let l = c.loop in
    let key = c.args.key.now in
    let p = c.parameters-parameters.result in
    let t = c.tag_size-size.result in
    let m = aes_meaning l.generator.aes.key in
    let size : t ≡ tag_size (length c.args.tag.now) = search rules in
    let answered =
    rw (c.bit_string.ensures.bits, c.bit_string.ensures.bytes, c.bit_string-in-loop.ensures.bits, c.bit_string-in-loop.ensures.bytes)
    at c.nca5_open.ensures.outcome
    in
    record {
      same = Same-trans (aes_meaning key) m (aes_meaning c.nca5_open.new.generator.aes.key) l.invariant.same c.nca5_open.ensures.same;
      work = search rules;
      message =
          opened_more c.laws.ensures.calls key l.generator.aes.key _ l.counter _ _ _ _ _ _ _ _ c.args.message.now _ _ _ l.invariant.same l.invariant.work
          c.parameters-parameters.ensures size l.invariant.message answered;
    }
