-- The places of a work area, and the blocks in them.
use Rattle.std.proofs.Common.{◌≡◌, ℕ, zero, suc, ◌+◌, ◌-◌, ◌*◌, ◌/◌, ◌%◌, ◌<◌, ◌≤◌, List, [], ◌∷◌, ◌++◌, length, take, drop, set, get_or, sym, refl, ap, ◌∙◌, ap₂, arith, length-append, length-drop, length-take}
use Rattle.std.specs.Simd.Lanes.{digits_l}
use Rattle.std.proofs.lemmas.List.{drop_at, take_all, take_more, take_more_set, drop-append-le, take-append-le, take-take, take_at}
use Rattle.std.proofs.lemmas.Slice.{between_is}
use Rattle.units.specs.Strings.{Octets}
use Rattle.units.specs.Sums.{◌⊕◌, sums}
use Rattle.units.proofs.SumLaws.{length-sums}
use Rattle.field.specs.Blocks.{block_bytes, polynomial}
use Rattle.cover.specs.WorkArea.{slot}

-- bytes read as a polynomial and written again
digits_back : (n : ℕ) (xs : List ℕ) → length xs ≡ n → Octets xs → digits_l 256 n (polynomial xs) ≡ xs
digits_back zero [] e o = refl
digits_back zero (x ∷ xs) e o = absurd (omega arith)
digits_back (suc n) [] e o = absurd (omega arith)
digits_back (suc n) (x ∷ xs) e o =
    let byte : x < 256 = o 0 in
    let low : (x + 256 * polynomial xs) % 256 ≡ x = omega arith in
    let rest : (x + 256 * polynomial xs) / 256 ≡ polynomial xs = omega arith in
    ap₂ (λ (b : ℕ) (l : List ℕ). b ∷ l) low (ap (digits_l 256 n) rest ∙ digits_back n xs (omega arith) (λ k. o (suc k)))

pub block_back : (xs : List ℕ) → length xs ≡ 16 → Octets xs → block_bytes (polynomial xs) ≡ xs
unfolding block_bytes
block_back xs = digits_back 16 xs

-- one byte more of a sum
pub sums_more :
    (xs ys old : List ℕ) (i : ℕ)
    → i < length xs
    → length xs ≤ length ys
    → length old ≡ length xs
    → take i old ≡ take i (sums xs ys)
    → take (i + 1) (set old i (get_or xs i 0 ⊕ get_or ys i 0)) ≡ take (i + 1) (sums xs ys)
sums_more xs ys old i h k e b =
    take_more_set old i (get_or xs i 0 ⊕ get_or ys i 0) (omega arith)
    ∙ ap (λ (l : List ℕ). l ++ (get_or xs i 0 ⊕ get_or ys i 0) ∷ []) b
    ∙ ap (λ (b : ℕ). take i (sums xs ys) ++ b ∷ []) (sym (each i xs ys h (omega arith)))
    ∙ sym (take_more (sums xs ys) i 0 (omega (arith, length-sums xs ys k)))
  where
    each : (i : ℕ) (xs ys : List ℕ) → i < length xs → i < length ys → get_or (sums xs ys) i 0 ≡ get_or xs i 0 ⊕ get_or ys i 0
    each i [] ys h k = absurd (omega arith)
    each i (x ∷ xs) [] h k = absurd (omega arith)
    each zero (x ∷ xs) (y ∷ ys) h k = refl
    each (suc i) (x ∷ xs) (y ∷ ys) h k = each i xs ys (omega arith) (omega arith)

-- all bytes of it
pub sums_whole :
    (xs ys sum : List ℕ) (i : ℕ)
    → length xs ≤ i
    → length xs ≤ length ys
    → length sum ≡ length xs
    → take i sum ≡ take i (sums xs ys)
    → sum ≡ sums xs ys
sums_whole xs ys sum i n h e b = sym (take_all i sum (omega arith)) ∙ b ∙ take_all i (sums xs ys) (omega (arith, length-sums xs ys h))

-- ---- places

-- the last place of an area
pub slot_last : (xs : List ℕ) → length xs ≡ 64 → drop 48 xs ≡ slot xs 48
unfolding slot
slot_last xs h = sym (take_all 16 (drop 48 xs) (omega (arith, length-drop 48 xs)))

-- after a write of sixteen bytes from `at` on, the rest being what it was
module _ (xs ys rest : List ℕ) (at : ℕ) (room : at + 16 ≤ length xs) (long : length ys ≡ 16) where
  pub length-put : length rest ≡ length xs - (at + 16) → length (take at xs ++ (ys ++ rest)) ≡ length xs
  length-put r = omega (arith, length-append (take at xs) (ys ++ rest), length-append ys rest, length-take at xs)

  pub slot_here : slot (take at xs ++ (ys ++ rest)) at ≡ ys
  unfolding slot
  slot_here = ap (take 16) (drop_at (take at xs) (ys ++ rest) at (omega (arith, length-take at xs))) ∙ take_at ys rest 16 long

  -- a place before
  pub slot_before : (i : ℕ) → i + 16 ≤ at → slot (take at xs ++ (ys ++ rest)) i ≡ slot xs i
  unfolding slot
  slot_before i h =
      let front : i ≤ length (take at xs) = omega (arith, length-take at xs) in
      let enough : 16 ≤ length (drop i (take at xs)) = omega (arith, length-drop i (take at xs), length-take at xs) in
      ap (take 16) (drop-append-le i (take at xs) (ys ++ rest) front)
      ∙ take-append-le 16 (drop i (take at xs)) (ys ++ rest) enough
      ∙ ap (take 16) (sym (between_is xs i at))
      ∙ take-take 16 (at - i) (drop i xs) (omega arith)
