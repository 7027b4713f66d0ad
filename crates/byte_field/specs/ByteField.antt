-- The field of the bytes, in the order of FIPS 197 (2023), section 4. Bit k of a byte is the coefficient of x^k.
use Rattle.std.specs.Prelude.{◌≡◌, ℕ, zero, suc, ◌*◌, ◌/◌, ◌%◌, ◌^◌, ◌<◌}
use Rattle.units.specs.Sums.{◌⊕◌}
use Rattle.polynomials.specs.Polynomials.{digitwise, product}

-- Addition (4.1) is `◌⊕◌`.

-- m(x), the modulus of 4.2: x^8 + x^4 + x^3 + x + 1
abbrev pub modulus : ℕ
modulus = 0x11B

-- XTIMES, x times a byte (4.2): one place up, and where x^8 then stands, the modulus is taken away
unfoldable pub xtime : ℕ → ℕ
xtime b = b * 2 ⊕ b / 2 ^ 7 % 2 * modulus

-- the product of two bytes (4.2): (a * x + c) * b = c * b + x * (a * b)
unfoldable pub mul : ℕ → ℕ → ℕ
mul a b = digitwise (λ c r. c * b ⊕ xtime r) a a

-- a and b differ by a multiple of the modulus
abbrev pub Congruent : ℕ → ℕ → Type 0
Congruent a b = (q : ℕ) × (a ≡ product q modulus ⊕ b)

-- r is the byte that differs from the product of the polynomials a and b by a multiple of the modulus, and there is no other
pub record Reduced (a b r : ℕ) : Type 0 where
  pub below : r < 256
  pub congruent : Congruent (product a b) r
  pub only : (s : ℕ) → s < 256 → Congruent (product a b) s → s ≡ r

-- b^2 * b^4 * b^8 and so on, n factors
unfoldable pub squares : ℕ → ℕ → ℕ
squares zero b = 1
squares (suc n) b = let s = mul b b in mul s (squares n s)

-- the inverse (4.4): b^254 = b^2 * b^4 * .. * b^128, which is 0 for 0
unfoldable pub inverse : ℕ → ℕ
inverse b = squares 7 b

-- the laws of the bytes: the product is the polynomials' one, reduced, and additive; 1 is its one, 2 is x, and a byte times its
-- inverse is 1
pub record ByteFieldStands : Type 0 where
  pub product_is : (a b : ℕ) → a < 256 → b < 256 → Reduced a b (mul a b)
  pub additive_left : (a b c : ℕ) → mul (a ⊕ b) c ≡ mul a c ⊕ mul b c
  pub additive_right : (a b c : ℕ) → mul a (b ⊕ c) ≡ mul a b ⊕ mul a c
  pub one_is : (b : ℕ) → mul 1 b ≡ b
  pub times_x : (b : ℕ) → xtime b ≡ mul 2 b
  pub inverse_is : (b : ℕ) → 0 < b → b < 256 → mul b (inverse b) ≡ 1
  pub inverse_zero : inverse 0 ≡ 0
