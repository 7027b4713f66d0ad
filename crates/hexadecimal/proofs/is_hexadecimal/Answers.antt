use Rattle.std.proofs.Common.{rules, tests, ◌≡◌, ◌%◌, is_some, length, ap, ◌∙◌, arith, true-eqb, false-eqb}
use Rattle.std.proofs.lemmas.Iterator.{YieldsList-from_slice}
use Rattle.std.proofs.lemmas.Iterator.Search.{all_from_yields_List}
use Rattle.hexadecimal.proofs.HexLaws.{decoded_odd, pair_byte, paired_some, pairs-decoded}
use Rattle.hexadecimal.proofs.is_hexadecimal.Goals as goal

pub returns-then-is_empty : goal.returns-then-is_empty
returns-then-is_empty c =
    let pairs = c.as_chunks.result.0.now in
    let none = true-eqb (length c.as_chunks.result.1.now) 0 c.if-is_empty.ensures in
    let same = ap length c.as_bytes.ensures.value in
    let even : length c.args.text.now % 2 ≡ 0 = omega (arith, c.as_chunks.ensures.back_len) in
    all_from_yields_List (λ p. is_some (pair_byte p)) _ _ _ c.all.ensures.ran (YieldsList-from_slice pairs cc) (λ x b q k. search (rules, tests))
    ∙ paired_some pairs
    ∙ rw (c.as_chunks.ensures.front, c.as_bytes.ensures.value) (ap is_some (pairs-decoded c.args.text.now even))

pub returns-else-is_empty : goal.returns-else-is_empty
returns-else-is_empty c =
    let some = false-eqb (length c.as_chunks.result.1.now) 0 c.if-is_empty.ensures in
    let same = ap length c.as_bytes.ensures.value in
    rw (decoded_odd c.args.text.now (omega (arith, c.as_chunks.ensures.back_len))) c.if-is_empty.false
