-- Polynomials over bits. Bit k of a number is the coefficient of x^k, so that 2 ^ k is x^k, and the sum of two polynomials is `◌⊕◌`.
use Rattle.std.specs.Prelude.{◌≡◌, ℕ, zero, suc, ◌+◌, ◌*◌, ◌/◌, ◌%◌, ◌^◌, ◌<◌}
use Rattle.units.specs.Sums.{◌⊕◌}

-- a recursion over the coefficients: `next c r` is the answer at a * x + c where r is that at a. The first number only bounds its depth
unfoldable pub digitwise : (ℕ → ℕ → ℕ) → ℕ → ℕ → ℕ
digitwise next zero a = zero
digitwise next (suc n) zero = zero
digitwise next (suc n) (suc a) = next (suc a % 2) (digitwise next n (suc a / 2))

-- the product, in which nothing carries: (a * x + c) * b = c * b + (a * b) * x
unfoldable pub product : ℕ → ℕ → ℕ
product a b = digitwise (λ c r. c * b ⊕ r * 2) a a

-- what makes it the product of polynomials: it is additive on each side, and x^i * x^j is x^(i+j)
pub record ProductStands : Type 0 where
  pub additive_left : (a b c : ℕ) → product (a ⊕ b) c ≡ product a c ⊕ product b c
  pub additive_right : (a b c : ℕ) → product a (b ⊕ c) ≡ product a b ⊕ product a c
  pub powers : (i j : ℕ) → product (2 ^ i) (2 ^ j) ≡ 2 ^ (i + j)
  pub commutative : (a b : ℕ) → product a b ≡ product b a
  pub associative : (a b c : ℕ) → product (product a b) c ≡ product a (product b c)

-- x^128 + x^127 + x^126 + x^121 + 1
abbrev pub modulus : ℕ
modulus = 2 ^ 128 + 2 ^ 127 + 2 ^ 126 + 2 ^ 121 + 1

-- the modulus is taken away where x^128 stands
unfoldable pub lowered : ℕ → ℕ
lowered r = r ⊕ r / 2 ^ 128 % 2 * modulus

-- the remainder by the modulus, by long division: the coefficients are brought down one by one, the highest first
unfoldable pub remainder : ℕ → ℕ
remainder a = digitwise (λ c r. lowered (r * 2 + c)) a a

-- a and b differ by a multiple of the modulus
abbrev pub Congruent : ℕ → ℕ → Type 0
Congruent a b = (q : ℕ) × (a ≡ product q modulus ⊕ b)

-- what makes it the remainder: there is one, it is below x^128, and there is no other
pub record RemainderStands : Type 0 where
  pub below : (a : ℕ) → remainder a < 2 ^ 128
  pub congruent : (a : ℕ) → Congruent a (remainder a)
  pub only : (a r : ℕ) → r < 2 ^ 128 → Congruent a r → r ≡ remainder a
