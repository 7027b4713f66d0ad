use Rattle.std.proofs.Common.{◌≡◌, length, take, arith, length-take-le}
use Rattle.units.specs.Lengths.{filled}
use Rattle.cover.specs.Answers.{outcome, written}
use Rattle.frames.specs.Frames.{view}
use Rattle.link.specs.Opens.{opened_message, tag_refusal}
use Rattle.link.proofs.OpenLaws.{tests_left, written_over}
use Rattle.link.proofs.receiving.uncover.Goals as goal

pub returns-clause-outcome : goal.returns-clause-outcome
unfolding filled
returns-clause-outcome g c =
    let m = g.G.Generator.meaning c.args.generator.now in
    let s = c.args.terms.now in
    let p = view c.args.parts.now in
    let n = c.bytes-end.result.0 in
    let front = take n c.args.message.now in
    let room : length front ≡ filled p.bits = omega (arith, length-take-le n c.args.message.now) in
    let r = c.requires in
    let tests = tests_left m s p (length c.args.area.now.bytes.now) front r.lawful r.fits r.link r.spare r.work room in
    let answer : outcome c.nca5_open.result c.nca5_open.new.message ≡ written (tag_refusal m s p) front (opened_message m s p) = cc in
    written_over n _ _ _ _ _ (omega arith) answer
