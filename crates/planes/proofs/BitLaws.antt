-- Bits of numbers and lanes of vectors.
use Rattle.std.proofs.Common.{◌≡◌, ℕ, ◌+◌, ◌-◌, ◌*◌, ◌/◌, ◌%◌, ◌^◌, ◌<◌, ◌≤◌, ◌==◌, true, List, length, get_or, sym, ap, ◌∙◌, arith, pow_pos}
use Rattle.std.specs.Int.{bit_at}
use Rattle.std.specs.Simd.Lanes.{zip2}
use Rattle.std.proofs.lemmas.Bool.{agree_below, agree_below_at, eqb-true}
use Rattle.std.proofs.lemmas.Nat.{div-add-mod', xor_mod, xor_shr}
use Rattle.std.proofs.lemmas.Nat.Bits.{bit_at-zero, bit_at_cat_high, bit_at_cat_low}
use Rattle.std.proofs.lemmas.Simd.{get_or-zip2, length-zip2}
use Rattle.units.specs.Sums.{◌⊕◌}

-- ---- computed tests

-- two functions that agree at each number below n; at a written-out n the test computes
pub same_below : (f g : ℕ → ℕ) (n : ℕ) → agree_below (λ k. f k == g k) (λ _. true) n ≡ true → (k : ℕ) → k < n → f k ≡ g k
same_below f g n h k l = eqb-true (f k) (g k) (agree_below_at (λ k. f k == g k) (λ _. true) n k h l)

-- ---- bits of a number

pub bit_at_sum : (a b k : ℕ) → bit_at (a ⊕ b) k ≡ bit_at a k ⊕ bit_at b k
bit_at_sum a b k = ap (λ (n : ℕ). n % 2) (xor_shr a b k) ∙ xor_mod (a / 2 ^ k) (b / 2 ^ k) 1

-- what is cut off above leaves the bits below
pub bit_at-mod : (a w k : ℕ) → k < w → bit_at (a % 2 ^ w) k ≡ bit_at a k
bit_at-mod a w k h = sym (bit_at_cat_low (a / 2 ^ w) w (a % 2 ^ w) k h) ∙ ap (λ (n : ℕ). bit_at n k) (div-add-mod' a (2 ^ w))

pub shl_low : (a n k : ℕ) → k < n → bit_at (a * 2 ^ n) k ≡ 0
shl_low a n k h = ap (λ (m : ℕ). bit_at m k) (let e : a * 2 ^ n ≡ a * 2 ^ n + 0 = omega arith in e) ∙ bit_at_cat_low a n 0 k h ∙ bit_at-zero k

pub shl_high : (a n k : ℕ) → n ≤ k → bit_at (a * 2 ^ n) k ≡ bit_at a (k - n)
shl_high a n k h =
    ap (λ (m : ℕ). bit_at m k) (let e : a * 2 ^ n ≡ a * 2 ^ n + 0 = omega arith in e) ∙ bit_at_cat_high a n 0 k (pow_pos n) h

-- ---- shifts of a lane

abbrev pub shr : ℕ → ℕ → ℕ
shr x y = x / 2 ^ y

abbrev pub shl : ℕ → ℕ → ℕ
shl x y = x * 2 ^ y % 2 ^ 32

-- ---- vectors of four lanes

-- a lane of what is computed lane by lane from two vectors, and how many lanes it has
pub lane :
    (f : ℕ → ℕ → ℕ) (xs ys : List ℕ) (row : ℕ) → row < 4 → length xs ≡ 4 → length ys ≡ 4
    → get_or (zip2 f xs ys) row 0 ≡ f (get_or xs row 0) (get_or ys row 0)
lane f xs ys row h l m = get_or-zip2 f xs ys row 0 0 0 (omega arith) (omega arith)

pub four_lanes : (f : ℕ → ℕ → ℕ) (xs ys : List ℕ) → length xs ≡ 4 → length ys ≡ 4 → length (zip2 f xs ys) ≡ 4
four_lanes f xs ys l m = length-zip2 f xs ys (l ∙ sym m) ∙ l
