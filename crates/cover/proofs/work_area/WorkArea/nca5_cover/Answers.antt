use Rattle.std.proofs.Common.{◌≡◌, length, ap, ◌∙◌, rules}
use Rattle.generator.specs.Generators.{Same}
use Rattle.generator.proofs.SameLaws.{Same-trans}
use Rattle.cover.specs.Keystream.{covered}
use Rattle.cover.specs.Tags.{tag_under}
use Rattle.cover.proofs.CallLaws.{reaches}
use Rattle.cover.proofs.StreamLaws.{covered_same}
use Rattle.cover.proofs.TagLaws.{tag_same}
use Rattle.cover.proofs.work_area.WorkArea.nca5_cover.Goals as goal

pub returns-clause-outcome : goal.returns-clause-outcome
returns-clause-outcome g c =
    let mean = g.G.Generator.meaning in
    let m = mean c.args.generator.now in
    let tested = mean c.refuse_short-2.new.generator in
    let covering = mean c.cover.new.generator in
    let keys = c.in_ok-keys.keys.0 in
    let stream = c.in_ok-stream.stream.0 in
    let bits = c.args.message.bits.0 in
    let message = c.args.message.bytes.now in
    let aad = c.args.aad.bytes.now in
    let size = length c.args.tag.now in
    let keys_is = c.in_ok-keys.ensures.twelve in
    let stream_is = c.in_ok-stream.ensures.twelve in
    let known =
    reaches m (mean c.refuse_short.new.generator) tested keys stream bits stream_is
    c.refuse_short.ensures.same
    c.refuse_short-2.ensures.same
    (search rules)
    (search rules)
    in
    let all : Same m covering = Same-trans m tested covering known.same c.cover.ensures.same in
    let out : c.cover.new.out ≡ covered m stream bits message =
    c.cover.ensures.out ∙ covered_same m tested stream bits message known.same stream_is known.far
    in
    let made : c.copy_to.new.tag ≡ tag_under m keys size c.args.aad.bits.0 aad bits (covered m stream bits message) =
    c.copy_to.ensures
    ∙ tag_same m covering keys size c.args.aad.bits.0 aad bits c.cover.new.out _ all keys_is known.enough c.put_tag.ensures.tag
    ∙ ap (tag_under m keys size c.args.aad.bits.0 aad bits) out
    in
    let size_is : size ≡ c.args.tag_size = search rules in
    search rules
