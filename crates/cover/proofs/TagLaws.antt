-- Comparing tags.
use Rattle.std.proofs.Common.{Decides, ◌≡◌, ℕ, zero, suc, ◌+◌, ◌<◌, ◌≤◌, List, [], ◌∷◌, length, take, drop, get_or, sym, refl, ap, ◌∙◌, ap₂, arith, ◌==◌, add-one}
use Rattle.std.specs.Int.Bits.{bit_or, xor_self, xor_zero_r}
use Rattle.std.specs.List.{fold}
use Rattle.std.proofs.lemmas.Bool.Decides.{Decides-eqb, same_from_decides}
use Rattle.std.proofs.lemmas.List.{take_all, take-take}
use Rattle.units.specs.Strings.{same, united}
use Rattle.units.specs.Sums.{◌⊕◌, sums}
use Rattle.units.proofs.StringLaws.{same_tells, united_none}
use Rattle.units.proofs.SumLaws.{xor_cancel}
use Rattle.field.specs.Blocks.{block_bytes, polynomial}
use Rattle.field.specs.Tags.{tag, whole_tag}
use Rattle.generator.specs.Generators.{IsNonce, Meaning, Same}
use Rattle.cover.specs.Tags.{key_h, key_p, key_q, tag_under}
use Rattle.cover.specs.WorkArea.{slot}

-- the bits in which the first n bytes of two byte strings differ
unfoldable pub difference : ℕ → List ℕ → List ℕ → ℕ
difference n xs ys = united (sums (take n xs) ys)

pub difference_none : (xs ys : List ℕ) → 0 ≡ difference 0 xs ys
unfolding difference
difference_none xs ys = refl

-- one byte more
pub difference_more :
    (n : ℕ) (xs ys : List ℕ)
    → n < length xs
    → n < length ys
    → bit_or (difference n xs ys) (get_or xs n 0 ⊕ get_or ys n 0) ≡ difference (n + 1) xs ys
unfolding difference
difference_more n xs ys h k = rw add-one (more 0 n xs ys h k)
  where
    more : (d n : ℕ) (xs ys : List ℕ)
        → n < length xs
        → n < length ys
        → bit_or (fold bit_or d (sums (take n xs) ys)) (get_or xs n 0 ⊕ get_or ys n 0) ≡ fold bit_or d (sums (take (suc n) xs) ys)
    more d n [] ys h k = absurd (omega arith)
    more d n (x ∷ xs) [] h k = absurd (omega arith)
    more d zero (x ∷ xs) (y ∷ ys) h k = refl
    more d (suc n) (x ∷ xs) (y ∷ ys) h k = more (bit_or d (x ⊕ y)) n xs ys (omega arith) (omega arith)

-- there are no such bits exactly where the one begins with the other
pub difference_tells :
    (n : ℕ) (xs ys : List ℕ)
    → n ≡ length xs
    → length xs ≤ length ys
    → (difference n xs ys == 0) ≡ same xs (take (length xs) ys)
unfolding difference
difference_tells n xs ys e h =
    ap (λ (l : List ℕ). united (sums l ys) == 0) (take_all n xs (omega arith))
    ∙ same_from_decides (united (sums xs ys) == 0) (same xs (take (length xs) ys)) none_is (same_tells xs (take (length xs) ys))
  where
    alike : (xs ys : List ℕ) → length xs ≤ length ys → ((k : ℕ) → get_or (sums xs ys) k 0 ≡ 0) → xs ≡ take (length xs) ys
    alike [] ys h z = refl
    alike (x ∷ xs) [] h z = absurd (omega arith)
    alike (x ∷ xs) (y ∷ ys) h z =
        ap₂ (λ (b : ℕ) (l : List ℕ). b ∷ l)
        (sym (xor_zero_r x) ∙ ap (λ (b : ℕ). x ⊕ b) (sym (z 0)) ∙ xor_cancel x y)
        (alike xs ys (omega arith) (λ k. z (suc k)))

    zeros : (xs ys : List ℕ) → xs ≡ take (length xs) ys → (k : ℕ) → get_or (sums xs ys) k 0 ≡ 0
    zeros [] ys e k = refl
    zeros (x ∷ xs) [] e k = refl
    zeros (x ∷ xs) (y ∷ ys) e zero = ap (λ (b : ℕ). x ⊕ b) (sym (ap (λ (l : List ℕ). get_or l 0 0) e)) ∙ xor_self x
    zeros (x ∷ xs) (y ∷ ys) e (suc k) = zeros xs ys (ap (drop 1) e) k

    none_is : Decides (united (sums xs ys) == 0) (xs ≡ take (length xs) ys)
    none_is =
        let test = Decides-eqb (united (sums xs ys)) 0 in
        let none = united_none (sums xs ys) in
        (λ t. alike xs ys h (none.0 (test.0 t)), λ s. test.1 (none.1 (zeros xs ys s)))

-- as many bytes from a place on as a block has at most
pub slot_begins : (n at : ℕ) (xs : List ℕ) → n ≤ 16 → take n (drop at xs) ≡ take n (slot xs at)
unfolding slot
slot_begins n at xs h = sym (take-take n 16 (drop at xs) h)

-- generators that mean the same make the same tags: what is made with the one is the tag of the other
pub tag_same : (m m' : Meaning) (n : List ℕ) (t aad_bits : ℕ) (aad : List ℕ) (bits : ℕ) (ciphertext whole : List ℕ) → Same m m' → IsNonce n → 3 ≤ m.reach n
    → whole ≡ block_bytes (whole_tag (key_h m' n) (key_q m' n) (key_p m' n) aad_bits aad bits ciphertext)
    → take t whole ≡ tag_under m n t aad_bits aad bits ciphertext
unfolding tag_under tag
tag_same m m' n t aad_bits aad bits ciphertext whole s is r e =
    let h : key_h m' n ≡ key_h m n = ap polynomial (s.block n 0 is (omega arith)) in
    let q : key_q m' n ≡ key_q m n = ap polynomial (s.block n 1 is (omega arith)) in
    let p : key_p m' n ≡ key_p m n = ap polynomial (s.block n 2 is (omega arith)) in
    cc
