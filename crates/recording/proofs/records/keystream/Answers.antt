use Rattle.std.proofs.Common.{◌≡◌, ◌≤◌, drop, arith, drop-drop, ap, ◌∙◌}
use Rattle.std.proofs.lemmas.Grind.{common_steps}
use Rattle.std.proofs.lemmas.Map.Keys.{le_from_is_le}
use Rattle.units.specs.Strings.{two_at}
use Rattle.recording.proofs.RecordLaws.{keystream_cut}
use Rattle.recording.proofs.records.keystream.Goals as goal

pub returns : goal.returns
unfolding two_at
returns c =
    let xs = c.args.bytes.now in
    let n = c.from-count.result in
    let rest : c.in_ok-count.rest.now ≡ drop 14 xs = c.in_ok-count.ensures.cases.1 ∙ ap (drop 2) c.in_ok-nonce.ensures.cases.1 ∙ drop-drop 2 12 xs in
    let count : n ≡ two_at xs 12 = grind (arith, common_steps) in
    let range = rw c.if-not-contains.false at c.contains.ensures.cases in
    let few : 1 ≤ n = omega (arith, le_from_is_le c.new.result.start n range.0) in
    let most : n ≤ 1024 = omega (arith, le_from_is_le n c.new.result.end range.1) in
    let found = keystream_cut xs c.in_ok-count.rest.now n rest count few most c.in_ok-body.ensures.cases.0 in
    cc (c.in_ok-nonce.ensures.cases.0, c.in_ok-body.ensures.cases.1, c.in_ok-body.ensures.cases.2)
