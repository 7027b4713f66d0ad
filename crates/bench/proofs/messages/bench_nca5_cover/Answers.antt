use Rattle.std.proofs.Common.{◌≡◌, ◌+◌, length, ap, rules}
use Rattle.generator.proofs.SameLaws.{Same-trans}
use Rattle.aes_generator.specs.AesGenerator.{aes_meaning}
use Rattle.cover.specs.Combined.{Covering, covering}
use Rattle.bench.specs.Turns.{covered_turns, tag_size}
use Rattle.bench.proofs.TurnLaws.{covered_more}
use Rattle.bench.proofs.messages.bench_nca5_cover.Goals as goal

pub loop-preserved : goal.loop-preserved
loop-preserved c =
    let l = c.loop in
    let key = c.args.key.now in
    let p = c.parameters-parameters.result in
    let t = c.tag_size-size.result in
    let m = aes_meaning l.generator.aes.key in
    let size : t ≡ tag_size (length c.args.tag.now) = search rules in
    let answered =
    rw (c.bit_string.ensures.bits, c.bit_string.ensures.bytes, c.bit_string-in-loop.ensures.bits, c.bit_string-in-loop.ensures.bytes)
    at c.nca5_cover.ensures.outcome
    in
    let before = c.args.ciphertext.now in
    let before_tag = c.args.tag.now in
    let more : covering c.nca5_cover.result c.nca5_cover.new.ciphertext c.nca5_cover.new.tag
    ≡ covered_turns (l.counter + 1) key c.args.count c.args.aad_bits c.args.aad.now c.args.bits c.args.message.now before before_tag =
    covered_more c.laws.ensures.calls key l.generator.aes.key _ l.counter _ _ _ _ _ _ _ before before_tag _ _ _ _ _ l.invariant.same l.invariant.work
    c.parameters-parameters.ensures size l.invariant.ciphertext l.invariant.tag answered
    in
    record {
      same = Same-trans (aes_meaning key) m (aes_meaning c.nca5_cover.new.generator.aes.key) l.invariant.same c.nca5_cover.ensures.same;
      work = search rules;
      ciphertext = ap (λ (x : Covering). x.ciphertext) more;
      tag = ap (λ (x : Covering). x.tag) more;
    }
