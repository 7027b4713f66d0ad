-- Single bits of a number that is shifted, or in which one bit is set.
use Rattle.std.proofs.Common.{◌≡◌, ℕ, ◌+◌, ◌-◌, ◌*◌, ◌/◌, ◌%◌, ◌^◌, ◌<◌, ◌≤◌, ◌≢◌, bit_or, sym, ap, ◌∙◌, mul_assoc, pow-add, arith}
use Rattle.std.proofs.Math.Nat.{mul-mod_left}
use Rattle.std.specs.Int.{bit_at}
use Rattle.std.proofs.lemmas.Nat.{pow_pos, shr_split}
use Rattle.std.proofs.lemmas.Nat.Bits.{bit_at-lt, bit_at-zero, bit_at_or, bit_at-pow_same, bit_at-pow_other, bit_at_cat_low, bit_at_cat_high}

-- a remainder by a power of two keeps the bits below it
pub bit_at-mod : (x n k : ℕ) → k < n → bit_at (x % 2 ^ n) k ≡ bit_at x k
bit_at-mod x n k h =
    sym (bit_at_cat_low (x / 2 ^ n) n (x % 2 ^ n) k h) ∙ ap (λ (y : ℕ). bit_at y k) (shr_split x n)

pub bit_at_shl_low : (x d k : ℕ) → k < d → bit_at (x * 2 ^ d) k ≡ 0
bit_at_shl_low x d k h =
    let e : x * 2 ^ d ≡ x * 2 ^ d + 0 = omega arith in
    ap (λ (y : ℕ). bit_at y k) e ∙ bit_at_cat_low x d 0 k h ∙ bit_at-zero k

pub bit_at_shl_high : (x d k : ℕ) → d ≤ k → bit_at (x * 2 ^ d) k ≡ bit_at x (k - d)
bit_at_shl_high x d k h =
    let e : x * 2 ^ d ≡ x * 2 ^ d + 0 = omega arith in
    ap (λ (y : ℕ). bit_at y k) e ∙ bit_at_cat_high x d 0 k (pow_pos d) h

pub bit_at_set : (x j : ℕ) → bit_at (bit_or x (2 ^ j)) j ≡ 1
bit_at_set x j = omega (arith, bit_at_or x (2 ^ j) j, bit_at-pow_same j, bit_at-lt x j)

pub bit_at_others : (x j k : ℕ) → k ≢ j → bit_at (bit_or x (2 ^ j)) k ≡ bit_at x k
bit_at_others x j k h = omega (arith, bit_at_or x (2 ^ j) k, bit_at-pow_other j k h)

-- a shift by 64 or more leaves none of 64 bits
pub shl_out : (x n : ℕ) → 64 ≤ n → x * 2 ^ n % 2 ^ 64 ≡ 0
shl_out x n h =
    let e : n ≡ n - 64 + 64 = omega arith in
    let split = ap (λ (k : ℕ). x * 2 ^ k) e ∙ ap (λ (y : ℕ). x * y) (pow-add 2 (n - 64) 64) in
    let whole : x * 2 ^ n ≡ x * 2 ^ (n - 64) * 2 ^ 64 = split ∙ sym (mul_assoc x (2 ^ (n - 64)) (2 ^ 64)) in
    ap (λ (y : ℕ). y % 2 ^ 64) whole ∙ mul-mod_left (x * 2 ^ (n - 64)) (2 ^ 64)
