use Rattle.std.proofs.Common.{◌≡◌, ◌≤◌, ◌∙◌, rules}
use Rattle.units.specs.Lengths.{begun}
use Rattle.cover.specs.Keystream.{covered}
use Rattle.cover.proofs.StreamLaws.{covered_same}
use Rattle.cover.proofs.encryption.nea5.Goals as goal

pub returns-clause-outcome : goal.returns-clause-outcome
returns-clause-outcome g c =
    let m = g.G.Generator.meaning c.args.generator.now in
    let n = c.in_ok-nonce.nonce.0 in
    let bits = c.args.input.bits.0 in
    let far : begun bits ≤ m.reach n = search rules in
    let out : c.cover.new.out ≡ covered m n bits c.args.input.bytes.now =
    c.cover.ensures.out ∙ covered_same m (g.G.Generator.meaning c.refuse_short.new.generator) n bits c.args.input.bytes.now c.refuse_short.ensures.same c.in_ok-nonce.ensures.twelve far
    in
    search rules
