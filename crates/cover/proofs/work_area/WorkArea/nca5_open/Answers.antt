use Rattle.std.proofs.Common.{◌≡◌, length, ap, ◌∙◌, rules}
use Rattle.units.specs.Strings.{same}
use Rattle.generator.proofs.SameLaws.{Same-trans}
use Rattle.cover.specs.Keystream.{covered}
use Rattle.cover.proofs.CallLaws.{reaches}
use Rattle.cover.proofs.StreamLaws.{covered_same}
use Rattle.cover.proofs.TagLaws.{tag_same}
use Rattle.cover.proofs.work_area.WorkArea.nca5_open.Goals as goal

pub returns-in_err-refuse_if-5-clause-outcome : goal.returns-in_err-refuse_if-5-clause-outcome
returns-in_err-refuse_if-5-clause-outcome g c =
    let mean = g.G.Generator.meaning in
    let m = mean c.args.generator.now in
    let tested = mean c.refuse_short-2.new.generator in
    let keys = c.in_ok-keys.keys.0 in
    let bits = c.args.ciphertext.bits.0 in
    let tag = c.args.tag.now in
    let known =
    reaches m (mean c.refuse_short.new.generator) tested keys c.in_ok-stream.stream.0 bits c.in_ok-stream.ensures.twelve
    c.refuse_short.ensures.same
    c.refuse_short-2.ensures.same
    (search rules)
    (search rules)
    in
    let made =
    tag_same m tested keys (length tag) c.args.aad.bits.0 c.args.aad.bytes.now bits c.args.ciphertext.bytes.now _ known.same c.in_ok-keys.ensures.twelve known.enough c.put_tag.ensures.tag
    in
    let judged = c.begins_with-right.ensures ∙ ap (same tag) made in
    let size_is : length tag ≡ c.args.tag_size = search rules in
    search rules

pub returns-clause-outcome : goal.returns-clause-outcome
returns-clause-outcome g c =
    let mean = g.G.Generator.meaning in
    let m = mean c.args.generator.now in
    let tested = mean c.refuse_short-2.new.generator in
    let tagged = mean c.put_tag.new.generator in
    let keys = c.in_ok-keys.keys.0 in
    let stream = c.in_ok-stream.stream.0 in
    let bits = c.args.ciphertext.bits.0 in
    let ciphertext = c.args.ciphertext.bytes.now in
    let tag = c.args.tag.now in
    let known =
    reaches m (mean c.refuse_short.new.generator) tested keys stream bits c.in_ok-stream.ensures.twelve
    c.refuse_short.ensures.same
    c.refuse_short-2.ensures.same
    (search rules)
    (search rules)
    in
    let made =
    tag_same m tested keys (length tag) c.args.aad.bits.0 c.args.aad.bytes.now bits ciphertext _ known.same c.in_ok-keys.ensures.twelve known.enough c.put_tag.ensures.tag
    in
    let judged = c.begins_with-right.ensures ∙ ap (same tag) made in
    let all = Same-trans m tested tagged known.same c.put_tag.ensures.same in
    let out : c.cover.new.out ≡ covered m stream bits ciphertext =
    c.cover.ensures.out ∙ covered_same m tagged stream bits ciphertext all c.in_ok-stream.ensures.twelve known.far
    in
    let size_is : length tag ≡ c.args.tag_size = search rules in
    search rules
