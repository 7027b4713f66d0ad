use Rattle.std.proofs.Common.{◌≡◌, ◌%◌, length, ap, refl, arith, true-eqb, false-eqb}
use Rattle.hexadecimal.proofs.HexLaws.{decoded_odd, pairs_start}
use Rattle.hexadecimal.proofs.read.Goals as goal

pub returns-then-not-is_empty-clause-text : goal.returns-then-not-is_empty-clause-text
returns-then-not-is_empty-clause-text c = λ _.
    let some = false-eqb (length c.as_chunks.result.1.now) 0 c.if-not-is_empty.ensures in
    let same = ap length c.as_bytes.ensures.value in
    decoded_odd c.args.text.now (omega (arith, c.as_chunks.ensures.back_len))

pub loop-high-init : goal.loop-high-init
loop-high-init c =
    let none = true-eqb (length c.as_chunks.result.1.now) 0 c.if-not-is_empty.ensures in
    let same = ap length c.as_bytes.ensures.value in
    let even : length c.args.text.now % 2 ≡ 0 = omega (arith, c.as_chunks.ensures.back_len) in
    rw (c.new-bytes.ensures.items, c.as_chunks.ensures.front, c.as_bytes.ensures.value) (pairs_start c.args.text.now _ refl even)
