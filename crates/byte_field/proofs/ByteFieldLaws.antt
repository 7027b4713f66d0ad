-- The field of the bytes.
use Rattle.std.proofs.Common.{◌≡◌, ℕ, zero, suc, ◌+◌, ◌*◌, ◌/◌, ◌%◌, ◌^◌, ◌-◌, ◌<◌, true, ltb, bit_xor, sym, subst, le_trans, div-lt_iff_lt-mul, pow_pos, pow_mono, refl, ap, ◌∙◌, ap₂, one-mul, zero-mul, arith, lit<, pow-suc}
use Rattle.std.proofs.Math.Arith.{bin_ind}
use Rattle.std.proofs.Math.Nat.{div-eq_of_lt}
use Rattle.std.proofs.lemmas.Nat.{xor_lt, xor_shr, shl-shr, shr-shr}
use Rattle.std.proofs.lemmas.Bool.{agree_below_at, ltb-true}
use Rattle.std.specs.Int.Bits.{xor_zero_r}
use Rattle.units.specs.Sums.{◌⊕◌}
use Rattle.units.proofs.SumLaws.{low_either, low-xor, shl-xor, terms, xor_cancel, xor_four, xor_low}
use Rattle.polynomials.specs.Polynomials.{digitwise, product}
use Rattle.polynomials.proofs.ProductLaws.{digitwise_step, product_bit, product_lt, product-pow, product-shl_l, product_step, product-xor_l, product-xor_r, product-zero_l}
use Rattle.planes.proofs.BitLaws.{same_below}
use Rattle.byte_field.specs.ByteField.{ByteFieldStands, Congruent, Reduced, inverse, modulus, mul, squares, xtime}

-- ---- times x

xtime_sum : (a b : ℕ) → xtime (a ⊕ b) ≡ xtime a ⊕ xtime b
unfolding xtime
xtime_sum a b =
    rw (shl-xor a b 1, xor_shr a b 7, xor_low (a / 2 ^ 7) (b / 2 ^ 7) modulus)
    (xor_four (a * 2) (b * 2) (a / 2 ^ 7 % 2 * modulus) (b / 2 ^ 7 % 2 * modulus))

xtime_zero : xtime 0 ≡ 0
unfolding xtime
xtime_zero = refl

bytes_doubled : (b : ℕ) → b < 256 → ltb (xtime b) 256 ≡ true
unfolding xtime
bytes_doubled b = agree_below_at (λ x. ltb (xtime x) 256) (λ _. true) 256 b refl

xtime_lt : (b : ℕ) → b < 256 → xtime b < 256
xtime_lt b h = ltb-true (xtime b) 256 (bytes_doubled b h)

-- what is taken away is a multiple of the modulus
xtime_back : (b : ℕ) → b * 2 ≡ product (b / 2 ^ 7 % 2) modulus ⊕ xtime b
unfolding xtime
xtime_back b = simp (product_bit (b / 2 ^ 7) modulus, terms)

-- ---- products

mul_step : (a b : ℕ) → mul a b ≡ a % 2 * b ⊕ xtime (mul (a / 2) b)
unfolding mul
mul_step a b = digitwise_step (λ c r. c * b ⊕ xtime r) (ap₂ bit_xor (zero-mul b) xtime_zero) a

mul_zero : (b : ℕ) → mul 0 b ≡ 0
unfolding mul digitwise
mul_zero b = refl

mul_one : (a : ℕ) → mul 1 a ≡ a
mul_one a = rw (mul_step 1 a, one-mul, mul_zero, xtime_zero, xor_zero_r)

mul_two : (a : ℕ) → mul 2 a ≡ xtime a
mul_two a = rw (mul_step 2 a, zero-mul, mul_one)

mul_sum_l : (a b c : ℕ) → mul (a ⊕ b) c ≡ mul a c ⊕ mul b c
mul_sum_l a b c =
    bin_ind (λ (n : ℕ). (b : ℕ) → mul (n ⊕ b) c ≡ mul n c ⊕ mul b c)
    (λ b. rw mul_zero)
    (λ n ih b.
    rw (mul_step (n ⊕ b) c, mul_step n c, mul_step b c, xor_low, xor_shr n b 1, ih (b / 2), xtime_sum (mul (n / 2) c) (mul (b / 2) c))
    (xor_four (n % 2 * c) (b % 2 * c) (xtime (mul (n / 2) c)) (xtime (mul (b / 2) c))))
    a b

mul_sum_r : (a b c : ℕ) → mul a (b ⊕ c) ≡ mul a b ⊕ mul a c
mul_sum_r a b c =
    bin_ind (λ (n : ℕ). mul n (b ⊕ c) ≡ mul n b ⊕ mul n c)
    (simp mul_zero)
    (λ n ih.
    rw (mul_step n (b ⊕ c), mul_step n b, mul_step n c, low-xor, ih, xtime_sum (mul (n / 2) b) (mul (n / 2) c))
    (xor_four (n % 2 * b) (n % 2 * c) (xtime (mul (n / 2) b)) (xtime (mul (n / 2) c))))
    a

-- what is left of the product of the polynomials when multiples of the modulus are taken away
mul-congruent : (a b : ℕ) → Congruent (product a b) (mul a b)
mul-congruent a b =
    bin_ind (λ (n : ℕ). Congruent (product n b) (mul n b))
    (0, simp (product-zero_l, mul_zero))
    (λ n ih. (ih.0 * 2 ⊕ mul (n / 2) b / 2 ^ 7 % 2, again n ih.0 ih.1))
    a
  where
    again : (n q : ℕ) → product (n / 2) b ≡ product q modulus ⊕ mul (n / 2) b → product n b ≡ product (q * 2 ⊕ mul (n / 2) b / 2 ^ 7 % 2) modulus ⊕ mul n b
    again n q e =
        let r = mul (n / 2) b in
        let down = product (r / 2 ^ 7 % 2) modulus in
        product_step n b
        ∙ ap (λ (x : ℕ). n % 2 * b ⊕ x * 2) e
        ∙ ap (bit_xor (n % 2 * b)) (shl-xor (product q modulus) r 1 ∙ ap₂ bit_xor (sym (product-shl_l q modulus 1)) (xtime_back r))
        ∙ around (n % 2 * b) (product (q * 2) modulus) down (xtime r)
        ∙ sym (ap₂ bit_xor (product-xor_l (q * 2) (r / 2 ^ 7 % 2) modulus) (mul_step n b))
      where
        around : (s t u v : ℕ) → s ⊕ (t ⊕ (u ⊕ v)) ≡ (t ⊕ u) ⊕ (s ⊕ v)
        around s t u v = simp terms

-- a multiple of the modulus that is a byte is 0
multiple_small : (n q : ℕ) → q < 2 ^ n → product q modulus < 2 ^ 8 → q ≡ 0
multiple_small zero q h k = omega arith
multiple_small (suc n) q h k =
    let low = product q 0x1B in
    let apart : product q modulus ≡ q * 2 ^ 8 ⊕ low =
    product-xor_r q (2 ^ 8) 0x1B ∙ ap (λ (x : ℕ). x ⊕ low) (product-pow q 8)
    in
    let low_none : low / 2 ^ (8 + n) ≡ 0 =
    div-eq_of_lt (le_trans (product_lt (suc n) 5 q 0x1B h (lit< tt)) (pow_mono {i = suc n + 5} {j = 8 + n} (omega arith)))
    in
    let high : q * 2 ^ 8 / 2 ^ (8 + n) ≡ q / 2 ^ n = sym (shr-shr (q * 2 ^ 8) 8 n) ∙ ap (λ (x : ℕ). x / 2 ^ n) (shl-shr q 8) in
    let none : q / 2 ^ n ≡ 0 =
    sym (xor_zero_r (q / 2 ^ n))
    ∙ sym (ap (λ (x : ℕ). x / 2 ^ (8 + n)) apart ∙ xor_shr (q * 2 ^ 8) low (8 + n) ∙ ap₂ bit_xor high low_none)
    ∙ div-eq_of_lt (le_trans k (pow_mono {i = 8} {j = 8 + n} (omega arith)))
    in
    multiple_small n q (omega (arith, (div-lt_iff_lt-mul {k = 2 ^ n} {x = q} {y = 1} (pow_pos n)).0)) k

-- the byte that differs from a polynomial by a multiple of the modulus is one alone
congruent_only : (a r s : ℕ) → r < 256 → s < 256 → Congruent a r → Congruent a s → s ≡ r
congruent_only a r s hr hs e f =
    let q = e.0 ⊕ f.0 in
    let apart : product q modulus ≡ r ⊕ s =
    product-xor_l e.0 f.0 modulus
    ∙ between (product e.0 modulus) (product f.0 modulus) r s (sym e.1 ∙ f.1)
    in
    let none : q ≡ 0 = multiple_small q q (lt_pow q) (subst (λ (x : ℕ). x < 2 ^ 8) (sym apart) (xor_lt 8 r s hr hs)) in
    sym (xor_cancel r s) ∙ ap (bit_xor r) (sym apart ∙ ap (λ (x : ℕ). product x modulus) none ∙ product-zero_l modulus) ∙ xor_zero_r r
  where
    between : (m n r s : ℕ) → m ⊕ r ≡ n ⊕ s → m ⊕ n ≡ r ⊕ s
    between m n r s e = simp terms at (ap (λ (x : ℕ). x ⊕ (r ⊕ n)) e)

    lt_pow : (n : ℕ) → n < 2 ^ n
    lt_pow zero = lit< tt
    lt_pow (suc n) = let more = lt_pow n in omega (arith, pow-suc 2 n)

mul_lt : (a b : ℕ) → b < 256 → mul a b < 256
mul_lt a b h =
    bin_ind (λ (n : ℕ). mul n b < 256)
    (rw mul_zero (lit< tt))
    (λ n ih. rw (mul_step n b) (xor_lt 8 (n % 2 * b) (xtime (mul (n / 2) b)) (low_either (λ (k : ℕ). k * b < 256) (rw zero-mul (lit< tt)) (rw one-mul h) n) (xtime_lt (mul (n / 2) b) ih)))
    a

mul_reduced : (a b : ℕ) → b < 256 → Reduced a b (mul a b)
mul_reduced a b h =
    record {
      below = mul_lt a b h;
      congruent = mul-congruent a b;
      only = λ s hs e. congruent_only (product a b) (mul a b) s (mul_lt a b h) hs (mul-congruent a b) e;
    }

-- ---- inverses

inverses : (b : ℕ) → b < 255 → mul (b + 1) (inverse (b + 1)) ≡ 1
unfolding inverse squares mul digitwise xtime
inverses = same_below (λ b. mul (b + 1) (inverse (b + 1))) (λ _. 1) 255 refl

inverse_zero : inverse 0 ≡ 0
unfolding inverse squares mul digitwise xtime
inverse_zero = refl

inverse_is : (b : ℕ) → 0 < b → b < 256 → mul b (inverse b) ≡ 1
inverse_is b pos h =
    let back : b - 1 + 1 ≡ b = omega arith in
    ap (λ (x : ℕ). mul x (inverse x)) (sym back) ∙ inverses (b - 1) (omega arith)

pub byte_field_stands : ByteFieldStands
byte_field_stands =
    record {
      product_is = λ a b ha hb. mul_reduced a b hb;
      additive_left = mul_sum_l;
      additive_right = mul_sum_r;
      one_is = mul_one;
      times_x = λ b. sym (mul_two b);
      inverse_is = inverse_is;
      inverse_zero = inverse_zero;
    }
