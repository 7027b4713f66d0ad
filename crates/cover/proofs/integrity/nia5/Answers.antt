use Rattle.std.proofs.Common.{◌≡◌, ◌≤◌, [], length, ◌∙◌, rules}
use Rattle.cover.specs.Tags.{tag_under}
use Rattle.cover.proofs.TagLaws.{tag_same}
use Rattle.cover.proofs.integrity.nia5.Goals as goal

pub returns-clause-outcome : goal.returns-clause-outcome
returns-clause-outcome g c =
    let m = g.G.Generator.meaning c.args.generator.now in
    let n = c.in_ok-nonce.nonce.0 in
    let text = c.args.text.bytes.now in
    let bits = c.args.text.bits.0 in
    let enough : 3 ≤ m.reach n = search rules in
    let made : c.copy_to.new.tag ≡ tag_under m n (length c.args.tag.now) bits text 0 [] =
    c.copy_to.ensures
    ∙ tag_same m (g.G.Generator.meaning c.refuse_short.new.generator) n (length c.args.tag.now) bits text 0 [] _
    c.refuse_short.ensures.same c.in_ok-nonce.ensures.twelve enough c.put_tag.ensures.tag
    in
    let size : length c.args.tag.now ≡ c.args.tag_size = search rules in
    search rules
