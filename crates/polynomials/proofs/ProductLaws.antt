-- The product of polynomials.
use Rattle.std.proofs.Common.{◌≡◌, ℕ, zero, suc, ◌+◌, ◌*◌, ◌/◌, ◌%◌, ◌^◌, ◌<◌, ◌≤◌, bit_xor, sym, refl, ap, ◌∙◌, ap₂, le_trans, le_refl, not-suc-le-zero, mod-lt, mul_assoc, suc-add, one-mul, pow-suc, mul-zero, div-add-mod', zero-mul, mul-one, arith, lit<, pow_pos, pow_mono, pow-add}
use Rattle.std.proofs.Math.Arith.{bin_ind, half_le, lt-one}
use Rattle.std.proofs.Math.Decide.{le_ind}
use Rattle.std.proofs.lemmas.Nat.{xor_comm, xor_lt, xor_shr}
use Rattle.std.specs.Int.Bits.{xor_shifted, xor_zero_r}
use Rattle.units.specs.Sums.{◌⊕◌}
use Rattle.units.proofs.SumLaws.{bit_either, low_either, low-xor, shl-xor, xor_four, xor_low}
use Rattle.polynomials.specs.Polynomials.{digitwise, product, ProductStands}

-- ---- the recursion over coefficients

module _ (next : ℕ → ℕ → ℕ) where
  more : (n a : ℕ) → a ≤ n → digitwise next (suc n) a ≡ digitwise next n a
  unfolding digitwise
  more zero zero h = refl
  more zero (suc a) h = absurd (not-suc-le-zero h)
  more (suc n) zero h = refl
  more (suc n) (suc a) h = ap (next (suc a % 2)) (more n (suc a / 2) (half_le h))

  enough : (n a : ℕ) → a ≤ n → digitwise next n a ≡ digitwise next a a
  enough n a h = le_ind (λ (m : ℕ). digitwise next m a ≡ digitwise next a a) refl (λ m k e. more m a k ∙ e) n h

  pub digitwise_step : next zero zero ≡ zero → (a : ℕ) → digitwise next a a ≡ next (a % 2) (digitwise next (a / 2) (a / 2))
  unfolding digitwise
  digitwise_step z zero = sym z
  digitwise_step z (suc a) = ap (next (suc a % 2)) (enough a (suc a / 2) (half_le (le_refl (suc a))))

pub product_step : (a b : ℕ) → product a b ≡ a % 2 * b ⊕ product (a / 2) b * 2
unfolding product
product_step a b = digitwise_step (λ c r. c * b ⊕ r * 2) (ap (λ (x : ℕ). x ⊕ 0) (zero-mul b)) a

-- a polynomial is its higher coefficients times x, and its lowest
pub parts : (a : ℕ) → a / 2 * 2 ⊕ a % 2 ≡ a
parts a = xor_shifted (a / 2) 1 (a % 2) (mod-lt a (lit< tt)) ∙ div-add-mod' a 2

-- ---- 0 and 1

pub product-zero_l : (b : ℕ) → product 0 b ≡ 0
unfolding product digitwise
product-zero_l b = refl

pub product-zero_r : (a : ℕ) → product a 0 ≡ 0
product-zero_r =
    bin_ind (λ (n : ℕ). product n 0 ≡ 0) (product-zero_l 0)
    (λ n ih. rw (product_step n 0, mul-zero, ih))

pub product_one_l : (b : ℕ) → product 1 b ≡ b
product_one_l b = rw (product_step 1 b, one-mul, product-zero_l, xor_zero_r)

pub product_one_r : (a : ℕ) → product a 1 ≡ a
product_one_r =
    bin_ind (λ (n : ℕ). product n 1 ≡ n) (product-zero_l 1)
    (λ n ih. rw (product_step n 1, mul-one, ih, xor_comm) (parts n))

-- ---- sums

pub product-xor_l : (a b c : ℕ) → product (a ⊕ b) c ≡ product a c ⊕ product b c
product-xor_l a b c =
    bin_ind (λ (n : ℕ). (b : ℕ) → product (n ⊕ b) c ≡ product n c ⊕ product b c)
    (λ b. rw product-zero_l)
    (λ n ih b.
    rw (product_step (n ⊕ b) c, product_step n c, product_step b c, xor_low, xor_shr n b 1, ih (b / 2), shl-xor (product (n / 2) c) (product (b / 2) c) 1)
    (xor_four (n % 2 * c) (b % 2 * c) (product (n / 2) c * 2) (product (b / 2) c * 2)))
    a b

pub product-xor_r : (a b c : ℕ) → product a (b ⊕ c) ≡ product a b ⊕ product a c
product-xor_r a b c =
    bin_ind (λ (n : ℕ). product n (b ⊕ c) ≡ product n b ⊕ product n c)
    (simp product-zero_l)
    (λ n ih.
    rw (product_step n (b ⊕ c), product_step n b, product_step n c, low-xor, ih, shl-xor (product (n / 2) b) (product (n / 2) c) 1)
    (xor_four (n % 2 * b) (n % 2 * c) (product (n / 2) b * 2) (product (n / 2) c * 2)))
    a

-- ---- shifts

product_dbl_l : (a b : ℕ) → product (a * 2) b ≡ product a b * 2
product_dbl_l a b =
    let hi : a * 2 / 2 ≡ a = omega arith in
    let lo : a * 2 % 2 ≡ 0 = omega arith in
    product_step (a * 2) b
    ∙ rw (lo, hi, zero-mul)

product_dbl_r : (a b : ℕ) → product a (b * 2) ≡ product a b * 2
product_dbl_r a b =
    bin_ind (λ (n : ℕ). product n (b * 2) ≡ product n b * 2)
    (simp product-zero_l)
    (λ n ih. rw (product_step n (b * 2), product_step n b, ih, ← mul_assoc, shl-xor (n % 2 * b) (product (n / 2) b * 2) 1))
    a

pub product-shl_l : (a b k : ℕ) → product (a * 2 ^ k) b ≡ product a b * 2 ^ k
product-shl_l a b zero = simp mul-one
product-shl_l a b (suc k) = simp (pow-suc 2 k, ← mul_assoc, product_dbl_l, product-shl_l a b k)

-- ---- commutative and associative

pub product_digit : (d b : ℕ) → d ≤ 1 → product d b ≡ d * b
product_digit d b h =
    bit_either (λ (k : ℕ). product k b ≡ k * b) (simp (product-zero_l, zero-mul)) (simp (product_one_l, one-mul)) d h

pub product_bit : (n b : ℕ) → product (n % 2) b ≡ n % 2 * b
product_bit n b = product_digit (n % 2) b (omega arith)

product_step_r : (a b : ℕ) → product a b ≡ b % 2 * a ⊕ product a (b / 2) * 2
product_step_r a b =
    ap (product a) (sym (parts b) ∙ xor_comm (b / 2 * 2) (b % 2))
    ∙ product-xor_r a (b % 2) (b / 2 * 2)
    ∙ ap₂ bit_xor
    (low_either (λ (k : ℕ). product a k ≡ k * a) (simp (product-zero_r, zero-mul)) (simp (product_one_r, one-mul)) b)
    (product_dbl_r a (b / 2))

pub product_comm : (a b : ℕ) → product a b ≡ product b a
product_comm a b =
    bin_ind (λ (n : ℕ). product n b ≡ product b n) (product-zero_l b ∙ sym (product-zero_r b))
    (λ n ih. rw (product_step n b, product_step_r b n, ih))
    a

product_bit_l : (n a b : ℕ) → product (n % 2 * a) b ≡ n % 2 * product a b
product_bit_l n a b =
    low_either (λ (k : ℕ). product (k * a) b ≡ k * product a b)
    (simp (zero-mul, product-zero_l))
    (simp one-mul)
    n

pub product_assoc : (a b c : ℕ) → product (product a b) c ≡ product a (product b c)
product_assoc a b c =
    bin_ind (λ (n : ℕ). product (product n b) c ≡ product n (product b c))
    (simp product-zero_l)
    (λ n ih. rw (product_step n b, product-xor_l, product_bit_l, product_dbl_l, ih, product_step n (product b c)))
    a

pub product-shl_r : (a b k : ℕ) → product a (b * 2 ^ k) ≡ product a b * 2 ^ k
product-shl_r a b k = rw (product_comm a (b * 2 ^ k), product-shl_l, product_comm b a)

pub product-pow : (a k : ℕ) → product a (2 ^ k) ≡ a * 2 ^ k
product-pow a k = ap (product a) (sym (one-mul (2 ^ k))) ∙ rw (product-shl_r a 1 k, product_one_r)

-- the degree of a product
pub product_lt : (m n a b : ℕ) → a < 2 ^ m → b < 2 ^ n → product a b < 2 ^ (m + n)
product_lt zero n a b ha hb = rw (lt-one ha, product-zero_l) (pow_pos (0 + n))
product_lt (suc m) n a b ha hb =
    let top = suc (m + n) in
    let here : a % 2 * b < 2 ^ top =
    low_either (λ (k : ℕ). k * b < 2 ^ top)
    (rw zero-mul (pow_pos top))
    (rw one-mul (le_trans hb (pow_mono {i = n} {j = top} (omega arith))))
    a
    in
    let rest = product_lt m n (a / 2) b (omega (arith, pow-suc 2 m)) hb in
    let above : product (a / 2) b * 2 < 2 ^ top = omega (arith, pow-suc 2 (m + n)) in
    rw (suc-add m n, product_step a b) (xor_lt top (a % 2 * b) (product (a / 2) b * 2) here above)

pub product_stands : ProductStands
product_stands =
    record {
      additive_left = product-xor_l;
      additive_right = product-xor_r;
      powers = λ i j. product-pow (2 ^ i) j ∙ sym (pow-add 2 i j);
      commutative = product_comm;
      associative = product_assoc;
    }
