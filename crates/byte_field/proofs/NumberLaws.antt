-- Numbers, from their bits.
use Rattle.std.proofs.Common.{◌≡◌, ℕ, zero, suc, ◌+◌, ◌*◌, ◌/◌, ◌^◌, ◌<◌, List, [], ◌∷◌, length, get_or, map, ap, ◌∙◌, pow-suc, lit<, arith}
use Rattle.std.proofs.lemmas.Nat.Bits.{bit_at_lowest, bit_at-suc, bit_at-zero}
use Rattle.std.specs.Int.{bit_at}
use Rattle.std.specs.Simd.Lanes.{number_l}

-- the bits are those that f gives
module _ {A : Type 0} (f : A → ℕ) (each : (a : A) → f a < 2) where
  pub number_bit : (xs : List A) (j : ℕ) → bit_at (number_l 2 (map f xs)) j ≡ get_or (map f xs) j 0
  number_bit [] j = bit_at-zero j
  number_bit (x ∷ xs) zero = let low = each x in bit_at_lowest (f x + 2 * number_l 2 (map f xs)) ∙ omega arith
  number_bit (x ∷ xs) (suc j) =
      let low = each x in
      let rest : (f x + 2 * number_l 2 (map f xs)) / 2 ≡ number_l 2 (map f xs) = omega arith in
      bit_at-suc (f x + 2 * number_l 2 (map f xs)) j ∙ ap (λ (n : ℕ). bit_at n j) rest ∙ number_bit xs j

  pub number_lt : (xs : List A) → number_l 2 (map f xs) < 2 ^ length xs
  number_lt [] = lit< tt
  number_lt (x ∷ xs) =
      let low = each x in
      let rest = number_lt xs in
      omega (arith, pow-suc 2 (length xs))
