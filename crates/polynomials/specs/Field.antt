-- The field of the polynomials below x^128, modulo the modulus, with `pdot` as its product.
use Rattle.std.specs.Prelude.{◌≡◌, ℕ, ◌+◌, ◌*◌, ◌^◌, ◌<◌}
use Rattle.units.specs.Sums.{◌⊕◌}
use Rattle.polynomials.specs.Polynomials.{product, remainder, Congruent}

-- x^-128: x^127 + x^124 + x^121 + x^114 + 1
abbrev pub inverse : ℕ
inverse = 2 ^ 127 + 2 ^ 124 + 2 ^ 121 + 2 ^ 114 + 1

-- a * b * x^-128
unfoldable pub pdot : ℕ → ℕ → ℕ
pdot a b = remainder (product (product a b) inverse)

-- r is the polynomial below x^128 that, times x^128, is a * b up to a multiple of the modulus, and there is no other
pub record Quotient (a b r : ℕ) : Type 0 where
  pub below : r < 2 ^ 128
  pub congruent : Congruent (product a b) (r * 2 ^ 128)
  pub only : (s : ℕ) → s < 2 ^ 128 → Congruent (product a b) (s * 2 ^ 128) → s ≡ r

-- the remainder of x^128: x^127 + x^126 + x^121 + 1, which is the one of pdot
abbrev pub one : ℕ
one = 2 ^ 127 + 2 ^ 126 + 2 ^ 121 + 1

-- the laws of the field's product
pub record FieldStands : Type 0 where
  pub inverse_is : remainder (product inverse (2 ^ 128)) ≡ 1
  pub below : (a b : ℕ) → pdot a b < 2 ^ 128
  pub additive_left : (a b c : ℕ) → pdot (a ⊕ b) c ≡ pdot a c ⊕ pdot b c
  pub additive_right : (a b c : ℕ) → pdot a (b ⊕ c) ≡ pdot a b ⊕ pdot a c
  pub commutative : (a b : ℕ) → pdot a b ≡ pdot b a
  pub associative : (a b c : ℕ) → pdot (pdot a b) c ≡ pdot a (pdot b c)
  pub one_is : (a : ℕ) → a < 2 ^ 128 → pdot a one ≡ a
