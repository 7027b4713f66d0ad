-- Integer products with holes. Where the digits in base 32 are 0 or 1, and few, no digit of the integer product carries into the
-- next, and the digits that are odd are the product of the polynomials.
use Rattle.std.proofs.Common.{◌≡◌, ℕ, zero, suc, ◌+◌, ◌*◌, ◌/◌, ◌%◌, ◌<◌, ◌≤◌, bit_and, bit_xor, sym, refl, ap, ◌∙◌, subst, ap₂, zero-le, add-zero, mod-lt, add-mul, suc-add, one-mul, div-add-mod', zero-add, zero-mul, mul_right_comm, add-one, arith, lit<}
use Rattle.std.proofs.lemmas.Nat.{and_block, and_mask, xor_block, xor_mod}
use Rattle.std.specs.Int.Bits.{and_zero_r, xor_add_and, xor_shifted}
use Rattle.units.specs.Sums.{◌⊕◌}
use Rattle.units.proofs.SumLaws.{bit_either}
use Rattle.polynomials.specs.Polynomials.{product}
use Rattle.polynomials.proofs.ProductLaws.{product_digit, product-shl_l, product-xor_l, product-zero_l}

-- p has n digits, each at most m
abbrev pub Upto : ℕ → ℕ → ℕ → Type 0
Upto m zero p = p ≡ 0
Upto m (suc n) p = (p % 32 ≤ m) × Upto m n (p / 32)

-- of each of n digits, whether it is odd
abbrev pub odds : ℕ → ℕ → ℕ
odds zero p = 0
odds (suc n) p = odds n (p / 32) * 32 + p % 2

-- n digits that are 1
abbrev pub ones : ℕ → ℕ
ones zero = 0
ones (suc n) = ones n * 32 + 1

pub mask_odds : (n p : ℕ) → bit_and p (ones n) ≡ odds n p
mask_odds zero p = and_zero_r p
mask_odds (suc n) p =
    let low : p % 32 % 2 ≡ p % 2 = omega arith in
    ap (λ (x : ℕ). bit_and x (ones n * 32 + 1)) (sym (div-add-mod' p 32))
    ∙ and_block 5 (p / 32) (ones n) (p % 32) 1 (mod-lt p (lit< tt)) (lit< tt)
    ∙ rw (mask_odds n (p / 32), and_mask (p % 32) 1, low)

pub Upto-odds : (n p : ℕ) → Upto 1 n (odds n p)
Upto-odds zero p = refl
Upto-odds (suc n) p =
    let hi : (odds n (p / 32) * 32 + p % 2) / 32 ≡ odds n (p / 32) = omega arith in
    (omega arith, rw hi (Upto-odds n (p / 32)))

Upto-zero : (m n : ℕ) → Upto m n 0
Upto-zero m zero = refl
Upto-zero m (suc n) = (zero-le, Upto-zero m n)

-- further digits are 0
Upto-suc : (m n p : ℕ) → Upto m n p → Upto m (suc n) p
Upto-suc m zero p h = rw h (Upto-zero m 1)
Upto-suc m (suc n) p h = (h.0, Upto-suc m n (p / 32) h.1)

Upto-add : (m n k p : ℕ) → Upto m k p → Upto m (n + k) p
Upto-add m zero k p h = rw zero-add h
Upto-add m (suc n) k p h = rw suc-add (Upto-suc m (n + k) p (Upto-add m n k p h))

odds-zero : (n : ℕ) → odds n 0 ≡ 0
odds-zero zero = refl
odds-zero (suc n) = rw (odds-zero n)

odds-same : (n p : ℕ) → Upto 1 n p → odds n p ≡ p
odds-same zero p h = sym h
odds-same (suc n) p h =
    let low : p % 2 ≡ p % 32 = omega (arith, h.0) in
    rw (odds-same n (p / 32) h.1, low) (div-add-mod' p 32)

odd_sum : (p q : ℕ) → (p + q) % 2 ≡ p % 2 ⊕ q % 2
odd_sum p q =
    let e : (p + q) % 2 ≡ (p ⊕ q) % 2 = omega (arith, xor_add_and p q) in
    e ∙ xor_mod p q 1

-- a sum in which no digit carries
Upto-sum : (n m l p q : ℕ) → m + l < 32 → Upto m n p → Upto l n q → Upto (m + l) n (p + q) × (odds n (p + q) ≡ odds n p ⊕ odds n q)
Upto-sum zero m l p q s hp hq = (omega arith, refl)
Upto-sum (suc n) m l p q s hp hq =
    let hp0 = hp.0 in
    let hq0 = hq.0 in
    let lo : (p + q) % 32 ≤ m + l = omega arith in
    let hi : (p + q) / 32 ≡ p / 32 + q / 32 = omega arith in
    let rest = Upto-sum n m l (p / 32) (q / 32) s hp.1 hq.1 in (
      (lo, rw hi rest.0),
      rw (hi, rest.1, odd_sum)
          (sym (xor_block 5 (odds n (p / 32)) (odds n (q / 32)) (p % 2) (q % 2) (omega arith) (omega arith))),
    )

pub odds-product : (n k x y : ℕ) → n < 32 → Upto 1 n x → Upto 1 k y → Upto n (n + k) (x * y) × (odds (n + k) (x * y) ≡ product x y)
odds-product zero k x y b hx hy =
    (rw (hx, zero-mul) (Upto-zero 0 (0 + k)), rw (hx, zero-mul, product-zero_l) (odds-zero (0 + k)))
odds-product (suc n) k x y b hx hy =
    let rest = odds-product n k (x / 32) y (omega arith) hx.1 hy in
    let high = x / 32 * y in
    let top = suc (n + k) in
    let hi : high * 32 / 32 ≡ high = omega arith in
    let lo : high * 32 % 32 ≡ 0 = omega arith in
    let even : high * 32 % 2 ≡ 0 = omega arith in
    let all : x * y ≡ high * 32 + x % 32 * y = rw (mul_right_comm (x / 32) y 32, ← add-mul, div-add-mod') in
    let left : Upto n top (high * 32) = (rw lo zero-le, rw hi rest.0) in
    let right : Upto 1 top (x % 32 * y) =
    bit_either (λ (i : ℕ). Upto 1 top (i * y))
    (rw zero-mul (Upto-zero 1 top))
    (rw one-mul (Upto-suc 1 (n + k) y (Upto-add 1 n k y hy)))
    (x % 32)
    hx.0
    in
    let whole = Upto-sum top n 1 (high * 32) (x % 32 * y) (omega arith) left right in
    let digits : odds top (high * 32) ≡ product (x / 32) y * 32 =
    rw (hi, even, add-zero, rest.1)
    in
    let joined : product (x / 32) y * 32 ⊕ x % 32 * y ≡ product x y =
    rw (← product-shl_l (x / 32) y 5, ← product_digit (x % 32) y hx.0, ← product-xor_l)
    (ap (λ (i : ℕ). product i y) (xor_shifted (x / 32) 5 (x % 32) (mod-lt x (lit< tt)) ∙ div-add-mod' x 32))
    in
    (rw (suc-add, all) (subst (λ (i : ℕ). Upto i top (high * 32 + x % 32 * y)) (add-one n) whole.0), rw (suc-add, all) (whole.1 ∙ ap₂ bit_xor digits (odds-same top (x % 32 * y) right) ∙ joined))
