-- The remainder by the modulus.
use Rattle.std.proofs.Common.{◌≡◌, ℕ, zero, suc, ◌+◌, ◌*◌, ◌/◌, ◌%◌, ◌^◌, ◌<◌, bit_xor, sym, refl, ap, ◌∙◌, ap₂, add-zero, mod-lt, mul_assoc, div-lt_iff_lt-mul, one-mul, pow-suc, div-add-mod', zero-mul, mul-one, arith, lit<}
use Rattle.std.proofs.Math.Arith.{bin_ind}
use Rattle.std.proofs.Math.Nat.{div-eq_of_lt}
use Rattle.std.proofs.lemmas.Nat.{xor_block, xor_mod, xor_shr}
use Rattle.std.specs.Int.Bits.{xor_assoc, xor_shifted, xor_zero_r}
use Rattle.units.specs.Sums.{◌⊕◌}
use Rattle.units.proofs.SumLaws.{bit_either, low_either, shl-xor, xor_four, xor_low, terms}
use Rattle.polynomials.specs.Polynomials.{Congruent, RemainderStands, digitwise, lowered, modulus, product, remainder}
use Rattle.polynomials.proofs.ProductLaws.{digitwise_step, parts, product_bit, product_comm, product-shl_l, product_step, product-xor_l, product-zero_l, product-zero_r}

remainder_step : (a : ℕ) → remainder a ≡ lowered (remainder (a / 2) * 2 + a % 2)
unfolding remainder lowered
remainder_step = digitwise_step (λ c r. lowered (r * 2 + c)) refl

pub remainder-zero : remainder 0 ≡ 0
unfolding remainder digitwise
remainder-zero = refl

-- ---- sums

lowered-xor : (a b : ℕ) → lowered (a ⊕ b) ≡ lowered a ⊕ lowered b
unfolding lowered
lowered-xor a b =
    rw (xor_shr a b 128, xor_low (a / 2 ^ 128) (b / 2 ^ 128) modulus)
    (xor_four a b (a / 2 ^ 128 % 2 * modulus) (b / 2 ^ 128 % 2 * modulus))

pub remainder-xor : (a b : ℕ) → remainder (a ⊕ b) ≡ remainder a ⊕ remainder b
remainder-xor =
    bin_ind (λ (n : ℕ). (b : ℕ) → remainder (n ⊕ b) ≡ remainder n ⊕ remainder b)
    (λ b. rw remainder-zero)
    (λ n ih b.
    rw (remainder_step (n ⊕ b), remainder_step n, remainder_step b, ← lowered-xor, xor_shr n b 1, xor_mod n b 1, ih (b / 2))
    (ap lowered (sym (xor_block 1 (remainder (n / 2)) (remainder (b / 2)) (n % 2) (b % 2) (mod-lt n (lit< tt)) (mod-lt b (lit< tt))))))

-- ---- below x^128

lowered_lt : (r : ℕ) → r < 2 ^ 129 → lowered r < 2 ^ 128
unfolding lowered
lowered_lt r h =
    (div-lt_iff_lt-mul {k = 2 ^ 128} {x = lowered r} {y = 1} (lit< tt)).0
    (rw (xor_shr r (r / 2 ^ 128 % 2 * modulus) 128)
    (bit_either (λ (q : ℕ). q ⊕ q % 2 * modulus / 2 ^ 128 < 1) (lit< tt) (lit< tt) (r / 2 ^ 128) (omega arith)))

pub remainder_lt : (a : ℕ) → remainder a < 2 ^ 128
remainder_lt =
    bin_ind (λ (n : ℕ). remainder n < 2 ^ 128)
    (rw remainder-zero (lit< tt))
    (λ n ih. rw (remainder_step n) (lowered_lt (remainder (n / 2) * 2 + n % 2) (omega arith)))

lowered_small : (r : ℕ) → r < 2 ^ 128 → lowered r ≡ r
unfolding lowered
lowered_small r h = rw (div-eq_of_lt h, xor_zero_r)

pub remainder_small : (a : ℕ) → a < 2 ^ 128 → remainder a ≡ a
remainder_small =
    bin_ind (λ (n : ℕ). n < 2 ^ 128 → remainder n ≡ n)
    (λ h. remainder-zero)
    (λ n ih h. rw (remainder_step n, ih (omega arith), div-add-mod') (lowered_small n h))

pub remainder_again : (a : ℕ) → remainder (remainder a) ≡ remainder a
remainder_again a = remainder_small (remainder a) (remainder_lt a)

-- ---- shifts and factors

remainder_dbl : (a : ℕ) → remainder (a * 2) ≡ lowered (remainder a * 2)
remainder_dbl a =
    let hi : a * 2 / 2 ≡ a = omega arith in
    let lo : a * 2 % 2 ≡ 0 = omega arith in
    remainder_step (a * 2) ∙ rw (hi, lo, add-zero)

pub remainder-shl : (a b k : ℕ) → remainder a ≡ remainder b → remainder (a * 2 ^ k) ≡ remainder (b * 2 ^ k)
remainder-shl a b zero e = rw (mul-one a, mul-one b) e
remainder-shl a b (suc k) e = simp (pow-suc 2 k, ← mul_assoc, remainder_dbl, remainder-shl a b k e)

remainder_bit : (n a : ℕ) → remainder (n % 2 * a) ≡ n % 2 * remainder a
remainder_bit n a =
    low_either (λ (k : ℕ). remainder (k * a) ≡ k * remainder a)
    (simp (zero-mul, remainder-zero))
    (simp one-mul)
    n

-- only the remainder of a factor counts
pub remainder-product_r : (a b : ℕ) → remainder (product a (remainder b)) ≡ remainder (product a b)
remainder-product_r a b =
    bin_ind (λ (n : ℕ). remainder (product n (remainder b)) ≡ remainder (product n b))
    (simp product-zero_l)
    (λ n ih. opened n (remainder b) ∙ rw (remainder_again b, ih) (sym (opened n b)))
    a
  where
    opened : (n c : ℕ) → remainder (product n c) ≡ n % 2 * remainder c ⊕ lowered (remainder (product (n / 2) c) * 2)
    opened n c = rw (product_step n c, remainder-xor, remainder_bit, remainder_dbl)

pub remainder-product_l : (a b : ℕ) → remainder (product (remainder a) b) ≡ remainder (product a b)
remainder-product_l a b = rw (product_comm (remainder a) b, remainder-product_r, product_comm b a)

-- ---- multiples of the modulus

remainder-modulus : remainder modulus ≡ 0
unfolding remainder digitwise lowered
remainder-modulus = refl

remainder_multiple : (q : ℕ) → remainder (product q modulus) ≡ 0
remainder_multiple q = sym (remainder-product_r q modulus) ∙ rw (remainder-modulus, product-zero_r, remainder-zero)

-- what is taken away from a polynomial is a multiple of the modulus
pub remainder-congruent : (a : ℕ) → Congruent a (remainder a)
unfolding lowered
remainder-congruent =
    bin_ind (λ (n : ℕ). Congruent n (remainder n))
    (0, rw (product-zero_l, remainder-zero))
    (λ n ih. (ih.0 * 2 ⊕ top n, again n ih.0 ih.1))
  where
    down : ℕ → ℕ
    down n = remainder (n / 2) * 2 + n % 2

    top : ℕ → ℕ
    top n = down n / 2 ^ 128 % 2

    back : (r : ℕ) → r ≡ product (r / 2 ^ 128 % 2) modulus ⊕ lowered r
    back r = simp (product_bit (r / 2 ^ 128) modulus, terms)

    again : (n q : ℕ) → n / 2 ≡ product q modulus ⊕ remainder (n / 2) → n ≡ product (q * 2 ⊕ top n) modulus ⊕ remainder n
    again n q e =
        let multiple = product (q * 2) modulus in
        sym (parts n)
        ∙ ap (λ (x : ℕ). x * 2 ⊕ n % 2) e
        ∙ ap (λ (x : ℕ). x ⊕ n % 2) (shl-xor (product q modulus) (remainder (n / 2)) 1 ∙ ap (λ (x : ℕ). x ⊕ remainder (n / 2) * 2) (sym (product-shl_l q modulus 1)))
        ∙ xor_assoc multiple (remainder (n / 2) * 2) (n % 2)
        ∙ ap (bit_xor multiple) (xor_shifted (remainder (n / 2)) 1 (n % 2) (mod-lt n (lit< tt)) ∙ back (down n))
        ∙ sym (xor_assoc multiple (product (top n) modulus) (lowered (down n)))
        ∙ ap₂ bit_xor (sym (product-xor_l (q * 2) (top n) modulus)) (sym (remainder_step n))

-- congruent polynomials have one remainder, and polynomials of one remainder are congruent
pub congruent-same : (a b : ℕ) → Congruent a b → remainder a ≡ remainder b
congruent-same a b h = ap remainder h.1 ∙ rw (remainder-xor, remainder_multiple)

pub same-congruent : (a b : ℕ) → remainder a ≡ remainder b → Congruent a b
same-congruent a b e =
    let p = remainder-congruent a in
    let q = remainder-congruent b in
    let m = product p.0 modulus in
    let n = product q.0 modulus in
    (p.0 ⊕ q.0, p.1 ∙ ap (bit_xor m) e ∙ sym (ap₂ bit_xor (product-xor_l p.0 q.0 modulus) q.1 ∙ meet m n (remainder b)))
  where
    meet : (m n r : ℕ) → (m ⊕ n) ⊕ (n ⊕ r) ≡ m ⊕ r
    meet m n r = simp terms

pub remainder_stands : RemainderStands
remainder_stands =
    record {
      below = remainder_lt;
      congruent = remainder-congruent;
      only = λ a r h e. sym (congruent-same a r e ∙ remainder_small r h);
    }
