-- The tag.
use Rattle.std.proofs.Common.{◌≡◌, ℕ, min, List, ◌++◌, length, take, drop, sym, ap, ◌∙◌, ap₂, arith, length-take}
use Rattle.std.proofs.Math.Nat.{min_comm}
use Rattle.std.specs.Simd.Lanes.{digits_l}
use Rattle.units.specs.Sums.{◌⊕◌, sums}
use Rattle.std.proofs.lemmas.List.{drop_min, take_min}
use Rattle.units.proofs.SumLaws.{take-sums, terms}
use Rattle.polynomials.specs.Field.{FieldStands, pdot}
use Rattle.field.specs.Blocks.{block_bytes}
use Rattle.field.specs.Folds.{fold}
use Rattle.field.specs.Tags.{TagLong, TagStands, lengths, tag, whole_tag}
use Rattle.field.proofs.BlockLaws.{length_digits, sums-digits}
use Rattle.field.proofs.FoldLaws.{fold_stands}

-- what is added to both falls out of their sum
both_added : (x y l : ℕ) → (x ⊕ l) ⊕ (y ⊕ l) ≡ x ⊕ y
both_added x y l = simp terms

pub tag_stands : FieldStands → TagStands
unfolding tag whole_tag block_bytes
tag_stands f h q p t aad_bits bits a a' c c' la lc oa oa' oc oc' =
    let x : ℕ = fold h (fold h 0 aad_bits a) bits c in
    let y : ℕ = fold h (fold h 0 aad_bits a') bits c' in
    let l = lengths bits aad_bits in
    let v = whole_tag h q p aad_bits a bits c in
    let w = whole_tag h q p aad_bits a' bits c' in
    let folds : x ⊕ y ≡ fold h (fold h 0 aad_bits (sums a a')) bits (sums c c') =
    sym ((fold_stands f).additive h (fold h 0 aad_bits a) (fold h 0 aad_bits a') bits c c' lc oc oc')
    ∙ ap (λ (u : ℕ). fold h u bits (sums c c')) (sym ((fold_stands f).additive h 0 0 aad_bits a a' la oa oa'))
    in
    sym (take-sums t (digits_l 256 16 v) (digits_l 256 16 w))
    ∙ ap (take t)
    (sums-digits 16 v w
    ∙ ap (digits_l 256 16)
    (both_added (pdot (x ⊕ l) q) (pdot (y ⊕ l) q) p
    ∙ sym (f.additive_left (x ⊕ l) (y ⊕ l) q)
    ∙ ap (λ (u : ℕ). pdot u q) (both_added x y l ∙ folds)))

pub tag_long : TagLong
unfolding tag block_bytes
tag_long h q p t aad_bits bits aad ciphertext room =
    let v = whole_tag h q p aad_bits aad bits ciphertext in
    length-take t (digits_l 256 16 v) ∙ ap (min t) (length_digits 16 v) ∙ omega arith

-- as many bytes as there is room for, at most sixteen
pub tag_written : (size h q p aad_bits bits : ℕ) (aad ciphertext out : List ℕ) → size ≡ min (length out) 16 → take size (block_bytes (whole_tag h q p aad_bits aad bits ciphertext)) ++ drop size out ≡ tag h q p (length out) aad_bits aad bits ciphertext ++ drop 16 out
unfolding tag block_bytes
tag_written size h q p aad_bits bits aad ciphertext out e =
    let whole = digits_l 256 16 (whole_tag h q p aad_bits aad bits ciphertext) in
    let size_is : size ≡ min (length out) (length whole) = omega (arith, length_digits 16 (whole_tag h q p aad_bits aad bits ciphertext)) in
    ap₂ (λ (before after : List ℕ). before ++ after)
    (ap (λ (n : ℕ). take n whole) size_is ∙ take_min (length out) whole)
    (ap (λ (n : ℕ). drop n out) (e ∙ min_comm (length out) 16) ∙ drop_min 16 out)
