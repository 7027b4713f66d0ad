-- The product of the field by words: three products for four, and the division by x^64.
use Rattle.std.proofs.Common.{◌≡◌, ℕ, ◌+◌, ◌-◌, ◌*◌, ◌/◌, ◌%◌, ◌^◌, ◌<◌, ◌≤◌, bit_and, bit_xor, sym, refl, ap, ◌∙◌, ap₂, mod-lt, mul_assoc, arith, lit<, lit≤, shl_exact}
use Rattle.std.proofs.lemmas.Nat.{and_mask, shr_split}
use Rattle.std.specs.Int.Bits.{xor_assoc, xor_shifted}
use Rattle.units.specs.Sums.{◌⊕◌}
use Rattle.units.proofs.SumLaws.{shl-xor, terms}
use Rattle.polynomials.specs.Polynomials.{digitwise, lowered, product, remainder}
use Rattle.polynomials.specs.Field.{pdot}
use Rattle.polynomials.proofs.ProductLaws.{product_one_r, product-pow, product-shl_l, product-shl_r, product-xor_l, product-xor_r}
use Rattle.polynomials.proofs.RemainderLaws.{remainder-product_r, remainder-shl, remainder-xor}
use Rattle.polynomials.proofs.FieldLaws.{pdot_only}

-- a polynomial as two words
halves : (n : ℕ) → n / 2 ^ 64 * 2 ^ 64 ⊕ n % 2 ^ 64 ≡ n
halves n = xor_shifted (n / 2 ^ 64) 64 (n % 2 ^ 64) (mod-lt n (lit< tt)) ∙ shr_split n 64

up_twice : (n : ℕ) → n * 2 ^ 64 * 2 ^ 64 ≡ n * 2 ^ 128
up_twice n = mul_assoc n (2 ^ 64) (2 ^ 64)

-- ---- division

-- x^-64
abbrev inverse64 : ℕ
inverse64 = 2 ^ 64 + 2 ^ 63 + 2 ^ 62 + 2 ^ 57

inverse64_is : remainder (inverse64 * 2 ^ 64) ≡ 1
unfolding remainder digitwise lowered
inverse64_is = refl

product-inverse64 : (w : ℕ) → product w inverse64 ≡ w * 2 ^ 64 ⊕ w * 2 ^ 63 ⊕ w * 2 ^ 62 ⊕ w * 2 ^ 57
product-inverse64 w =
    product-xor_r w (2 ^ 64 + 2 ^ 63 + 2 ^ 62) (2 ^ 57)
    ∙ ap (λ (x : ℕ). x ⊕ product w (2 ^ 57)) (product-xor_r w (2 ^ 64 + 2 ^ 63) (2 ^ 62))
    ∙ ap (λ (x : ℕ). x ⊕ product w (2 ^ 62) ⊕ product w (2 ^ 57)) (product-xor_r w (2 ^ 64) (2 ^ 63))
    ∙ simp product-pow

-- the low word goes up, times x^-64
divided_by : (v : ℕ) → remainder ((v / 2 ^ 64 ⊕ product (v % 2 ^ 64) inverse64) * 2 ^ 64) ≡ remainder v
divided_by v =
    let low = v % 2 ^ 64 in
    let high = v / 2 ^ 64 in
    rw (shl-xor high (product low inverse64) 64, remainder-xor, ← product-shl_r low inverse64 64, ← remainder-product_r low (inverse64 * 2 ^ 64), inverse64_is, product_one_r, ← remainder-xor, halves)

pub divided_is : (v : ℕ) → let w = bit_and v (2 ^ 64 - 1) in remainder ((v / 2 ^ 64 ⊕ w * 2 ^ 64 % 2 ^ 128 ⊕ w * 2 ^ 63 % 2 ^ 128 ⊕ w * 2 ^ 62 % 2 ^ 128 ⊕ w * 2 ^ 57 % 2 ^ 128) * 2 ^ 64) ≡ remainder v
divided_is v =
    let low = v % 2 ^ 64 in
    let whole : (k : ℕ) → k ≤ 64 → low * 2 ^ k % 2 ^ 128 ≡ low * 2 ^ k = λ k h. shl_exact 64 k 128 (mod-lt v (lit< tt)) (omega arith) in
    simp (and_mask v 64, whole 64 (lit≤ tt), whole 63 (lit≤ tt), whole 62 (lit≤ tt), whole 57 (lit≤ tt), xor_assoc)
    (simp (product-inverse64, xor_assoc) at (divided_by v))

-- ---- three products

pub middle_is : (a b c d : ℕ) → product (a ⊕ b) (c ⊕ d) ⊕ product a c ⊕ product b d ≡ product a d ⊕ product b c
middle_is a b c d = simp (product-xor_l, product-xor_r, terms)

blocks : (p q r s : ℕ) → product (p * 2 ^ 64 ⊕ q) (r * 2 ^ 64 ⊕ s) ≡ product p r * 2 ^ 128 ⊕ (product q r ⊕ product p s) * 2 ^ 64 ⊕ product q s
blocks p q r s =
    let cross : (product q r ⊕ product p s) * 2 ^ 64 ≡ product q r * 2 ^ 64 ⊕ product p s * 2 ^ 64 = shl-xor (product q r) (product p s) 64 in
    simp (product-xor_l, product-xor_r, product-shl_l p r 64, product-shl_l p s 64, product-shl_r q r 64, product-shl_r (p * 2 ^ 64) r 64, up_twice (product p r), cross)
    (simp terms)

words : (a b : ℕ) → product a b ≡ product (a / 2 ^ 64) (b / 2 ^ 64) * 2 ^ 128 ⊕ (product (a % 2 ^ 64) (b / 2 ^ 64) ⊕ product (a / 2 ^ 64) (b % 2 ^ 64)) * 2 ^ 64 ⊕ product (a % 2 ^ 64) (b % 2 ^ 64)
words a b = sym (ap₂ product (halves a) (halves b)) ∙ blocks (a / 2 ^ 64) (a % 2 ^ 64) (b / 2 ^ 64) (b % 2 ^ 64)

-- the middle product, shared out between the two halves
shared : (low middle high : ℕ) → (high ⊕ middle / 2 ^ 64) * 2 ^ 128 ⊕ (low ⊕ middle * 2 ^ 64 % 2 ^ 128) ≡ high * 2 ^ 128 ⊕ middle * 2 ^ 64 ⊕ low
shared low middle high =
    let up = middle / 2 ^ 64 in
    let down = middle % 2 ^ 64 in
    let cut : middle * 2 ^ 64 % 2 ^ 128 ≡ down * 2 ^ 64 = omega arith in
    let both : up * 2 ^ 128 ⊕ down * 2 ^ 64 ≡ middle * 2 ^ 64 = rw (← up_twice up, ← shl-xor (up * 2 ^ 64) down 64, halves) in
    rw (shl-xor high up 128, cut, ← both) (simp terms)

-- what the code makes of three products of words is the product
pub three_products : (a b low high cross : ℕ) → low ≡ product (a % 2 ^ 64) (b % 2 ^ 64) → high ≡ product (a / 2 ^ 64) (b / 2 ^ 64) → cross ≡ product (a % 2 ^ 64 ⊕ a / 2 ^ 64) (b % 2 ^ 64 ⊕ b / 2 ^ 64) → (high ⊕ (cross ⊕ low ⊕ high) / 2 ^ 64) * 2 ^ 128 ⊕ (low ⊕ (cross ⊕ low ⊕ high) * 2 ^ 64 % 2 ^ 128) ≡ product a b
three_products a b low high cross el eh ec =
    let middle : cross ⊕ low ⊕ high ≡ product (a % 2 ^ 64) (b / 2 ^ 64) ⊕ product (a / 2 ^ 64) (b % 2 ^ 64) =
    ap₂ bit_xor (ap₂ bit_xor ec el) eh ∙ middle_is (a % 2 ^ 64) (a / 2 ^ 64) (b % 2 ^ 64) (b / 2 ^ 64)
    in
    shared low (cross ⊕ low ⊕ high) high ∙ ap₂ bit_xor (ap₂ (λ (x y : ℕ). x * 2 ^ 128 ⊕ y * 2 ^ 64) eh middle) el ∙ sym (words a b)

-- the bottom half divided by x^64 twice, and the top half
pub pdot_halves : (a b top bottom once twice : ℕ) → top ⊕ twice < 2 ^ 128 → top * 2 ^ 128 ⊕ bottom ≡ product a b → remainder (once * 2 ^ 64) ≡ remainder bottom → remainder (twice * 2 ^ 64) ≡ remainder once → top ⊕ twice ≡ pdot a b
pdot_halves a b top bottom once twice small e e1 e2 =
    let down : remainder (twice * 2 ^ 128) ≡ remainder bottom =
    ap remainder (sym (up_twice twice)) ∙ remainder-shl (twice * 2 ^ 64) once 64 e2 ∙ e1
    in
    pdot_only a b (top ⊕ twice) small (rw (shl-xor top twice 128, remainder-xor, down, ← remainder-xor) (ap remainder e))
