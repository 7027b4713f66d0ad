use Rattle.std.proofs.Common.{◌≡◌, ◌≤◌, None, length, ◌∙◌, rules, arith, length-take-le}
use Rattle.std.proofs.lemmas.Bool.Decides.{nat_tests}
use Rattle.cover.specs.Combined.{too_short_for}
use Rattle.link.specs.Seals.{SealCall, seal_refusal, sealed_parts}
use Rattle.link.specs.Settings.{parameters}
use Rattle.link.proofs.SealLaws.{sealed_over, written_ok}
use Rattle.link.proofs.sending.Sender.seal.Goals as goal

pub returns-clause-outcome : goal.returns-clause-outcome
unfolding sealed_parts
returns-clause-outcome g c =
    let m = g.G.Generator.meaning c.args.self.now.generator in
    let s = c.args.self.now.settings.terms in
    let next = c.args.self.now.next in
    let call : SealCall =
    record {
      work = length c.args.work.now;
      aad_bits = c.args.aad.bits.0;
      aad = c.args.aad.bytes.now;
      bits = c.args.message.bits.0;
      message = c.args.message.bytes.now;
      buffer = c.args.frame.now;
    }
    in
    let total = c.frame_length-total.result.0 in
    let done = written_ok _ _ _ c.write.new.frame c.in_ok-write.ensures.outcome in
    let far : too_short_for m (parameters s next) s.tag_size call.bits ≡ None = done.0 in
    let accepted : seal_refusal m s next call ≡ None = search rules in
    let room : total ≤ length call.buffer = grind (arith, nat_tests) in
    let long = c.write.auto.frame ∙ length-take-le total call.buffer room in
    let whole = sealed_over m s next call total c.write.new.frame accepted done.1 long in
    search rules
