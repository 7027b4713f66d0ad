-- The product of two words, by products of their coefficients at every fifth place.
use Rattle.std.proofs.Common.{◌≡◌, ℕ, zero, suc, ◌+◌, ◌*◌, ◌/◌, ◌%◌, ◌^◌, ◌<◌, ◌≤◌, bit_and, bit_xor, sym, refl, ap, ◌∙◌, ap₂, lt_of_le_of_lt, add-zero, mod-lt, mod-eq_of_lt, add-one, add_comm, mul_assoc, arith, lit<, pow_pos, pow-add}
use Rattle.std.proofs.Math.Nat.{mul-mul-mul_comm}
use Rattle.std.proofs.lemmas.Nat.Bits.{bit_at_and, bit_at_xor, same_from_bits}
use Rattle.std.proofs.lemmas.Nat.{and_block, and_comm, and_le_l, and_le_r, and_mask, and_mod, mul-lt, shl-shr, shr_split}
use Rattle.std.specs.Int.Bits.{and_zero_r}
use Rattle.units.specs.Sums.{◌⊕◌}
use Rattle.units.proofs.SumLaws.{bit_either, terms, xor_four}
use Rattle.polynomials.specs.Polynomials.{product}
use Rattle.polynomials.specs.Words.{holes, opposite, part, sum_of}
use Rattle.polynomials.proofs.ProductLaws.{product-shl_l, product-shl_r, product-xor_l, product-xor_r, product-zero_l, product-zero_r}
use Rattle.polynomials.proofs.HoleLaws.{mask_odds, odds, ones, odds-product, Upto-odds}

-- ---- masks

and_xor : (a b c : ℕ) → bit_and a (b ⊕ c) ≡ bit_and a b ⊕ bit_and a c
and_xor a b c = same_from_bits _ _ (λ i. grind (arith, bit_at_and, bit_at_xor))

xor_and : (a b c : ℕ) → bit_and (a ⊕ b) c ≡ bit_and a c ⊕ bit_and b c
xor_and a b c = same_from_bits _ _ (λ i. grind (arith, bit_at_and, bit_at_xor))

and-shl : (y m k : ℕ) → bit_and (y / 2 ^ k) m * 2 ^ k ≡ bit_and y (m * 2 ^ k)
and-shl y m k =
    sym (simp (shr_split, add-zero, and_zero_r) at (and_block k (y / 2 ^ k) m (y % 2 ^ k) 0 (mod-lt y (pow_pos k)) (pow_pos k)))

-- a mask's bits above a number do nothing to it
and-mod : (a m k : ℕ) → a < 2 ^ k → bit_and a (m % 2 ^ k) ≡ bit_and a m
and-mod a m k h =
    ap (λ (x : ℕ). bit_and x (m % 2 ^ k)) (sym (mod-eq_of_lt h))
    ∙ sym (and_mod a m k)
    ∙ mod-eq_of_lt (lt_of_le_of_lt (and_le_l a m) h)

pub part_is : (x i : ℕ) → x < 2 ^ 64 → bit_and x (holes * 2 ^ i % 2 ^ 64) ≡ part x i
unfolding part
part_is x i h = and-mod x (holes * 2 ^ i) 64 h

-- every fifth place of a product of two words
abbrev pub wide_holes : ℕ
wide_holes = 0x21084210842108421084210842108421

-- the same from place k on, below x^128
abbrev pub wide_from : ℕ → ℕ
wide_from k = wide_holes * 2 ^ k % 2 ^ 128

holes_are : ones 13 ≡ holes
holes_are = refl

wide_holes_are : ones 26 ≡ wide_holes
wide_holes_are = refl

sparse_product : (x y : ℕ) → bit_and (bit_and x holes * bit_and y holes) wide_holes ≡ product (bit_and x holes) (bit_and y holes)
sparse_product x y =
    let a = odds 13 x in
    let b = odds 13 y in
    ap₂ (λ (i j : ℕ). bit_and (i * j) wide_holes) (mask_odds 13 x) (mask_odds 13 y)
    ∙ mask_odds 26 (a * b)
    ∙ (odds-product 13 13 a b (lit< tt) (Upto-odds 13 x) (Upto-odds 13 y)).1
    ∙ sym (ap₂ product (mask_odds 13 x) (mask_odds 13 y))

-- ---- products of parts

-- a part is a word with holes, shifted
part_shl : (x i : ℕ) → part x i ≡ bit_and (x / 2 ^ i) holes * 2 ^ i
unfolding part
part_shl x i = sym (and-shl x holes i)

part_lt : (x i : ℕ) → x < 2 ^ 64 → part x i < 2 ^ 64
unfolding part
part_lt x i h = lt_of_le_of_lt (and_le_l x (holes * 2 ^ i)) h

-- where two numbers are shifted alike
and_shl : (p m k : ℕ) → bit_and (p * 2 ^ k) (m * 2 ^ k) ≡ bit_and p m * 2 ^ k
and_shl p m k = sym (and-shl (p * 2 ^ k) m k) ∙ rw shl-shr

-- at the wide holes of what is shifted by no step or by one
steps : (p w : ℕ) → p < 2 ^ 125 → w ≤ 1 → bit_and (p * 2 ^ (5 * w)) wide_holes ≡ bit_and p wide_holes * 2 ^ (5 * w)
steps p w hp hw =
    let s = 5 * w in
    let mask : wide_holes / 2 ^ s % 2 ^ 125 ≡ wide_holes % 2 ^ 125 =
    bit_either (λ (w : ℕ). wide_holes / 2 ^ (5 * w) % 2 ^ 125 ≡ wide_holes % 2 ^ 125) refl refl w hw
    in
    let low : bit_and p (wide_holes / 2 ^ s) ≡ bit_and p wide_holes =
    sym (and-mod p (wide_holes / 2 ^ s) 125 hp) ∙ ap (bit_and p) mask ∙ and-mod p wide_holes 125 hp
    in
    and_comm (p * 2 ^ s) wide_holes
    ∙ sym (and-shl wide_holes p s)
    ∙ ap (λ (m : ℕ). m * 2 ^ s) (and_comm (wide_holes / 2 ^ s) p ∙ low)

-- at the places from k on, the integer product of two parts shows their product
part_product : (x y k i j w : ℕ) → x < 2 ^ 64 → y < 2 ^ 64 → i + j ≡ k + 5 * w → w ≤ 1 → bit_and (part x i * part y j) (wide_from k) ≡ product (part x i) (part y j)
part_product x y k i j w hx hy e hw =
    let a = bit_and (x / 2 ^ i) holes in
    let b = bit_and (y / 2 ^ j) holes in
    let below : (n : ℕ) → bit_and n holes < 2 ^ 61 = λ n. lt_of_le_of_lt (and_le_r n holes) (lit< tt) in
    let small : a * b < 2 ^ 125 = omega (arith, mul-lt a b (2 ^ 61) (2 ^ 61) (below (x / 2 ^ i)) (below (y / 2 ^ j))) in
    let split : (p : ℕ) → p * 2 ^ (i + j) ≡ p * 2 ^ (5 * w) * 2 ^ k =
    λ p. ap (λ (n : ℕ). p * 2 ^ n) (e ∙ add_comm k (5 * w)) ∙ ap (λ (n : ℕ). p * n) (pow-add 2 (5 * w) k) ∙ sym (mul_assoc p (2 ^ (5 * w)) (2 ^ k))
    in
    let numbers : part x i * part y j ≡ a * b * 2 ^ (5 * w) * 2 ^ k =
    rw (part_shl x i, part_shl y j, mul-mul-mul_comm, ← pow-add) (split (a * b))
    in
    let polynomials : product (part x i) (part y j) ≡ product a b * 2 ^ (5 * w) * 2 ^ k =
    rw (part_shl x i, part_shl y j, product-shl_l, product-shl_r, mul_assoc (product a b) (2 ^ j) (2 ^ i), ← pow-add, add_comm j i) (split (product a b))
    in
    and-mod (part x i * part y j) (wide_holes * 2 ^ k) 128 (mul-lt _ _ (2 ^ 64) (2 ^ 64) (part_lt x i hx) (part_lt y j hy))
    ∙ ap (λ (n : ℕ). bit_and n (wide_holes * 2 ^ k)) numbers
    ∙ and_shl (a * b * 2 ^ (5 * w)) wide_holes k
    ∙ ap (λ (n : ℕ). n * 2 ^ k) (steps (a * b) w small hw ∙ ap (λ (n : ℕ). n * 2 ^ (5 * w)) (sparse_product (x / 2 ^ i) (y / 2 ^ j)))
    ∙ sym polynomials

-- one product of parts more
pub part_more : (x y k i sum : ℕ) → x < 2 ^ 64 → y < 2 ^ 64 → k < 5 → i < 5 → bit_and (sum ⊕ part x i * part y (opposite k i)) (wide_from k) ≡ bit_and sum (wide_from k) ⊕ product (part x i) (part y (opposite k i))
part_more x y k i sum hx hy hk hi =
    let j = opposite k i in
    xor_and sum (part x i * part y j) (wide_from k)
    ∙ ap (bit_xor (bit_and sum (wide_from k))) (part_product x y k i j ((i + j) / 5) hx hy (omega arith) (omega arith))

-- ---- sums of parts

pub sum_of_more : (n : ℕ) (f : ℕ → ℕ) → sum_of (n + 1) f ≡ sum_of n f ⊕ f n
sum_of_more n f = rw add-one

sum_of-zero : (n : ℕ) → sum_of n (λ k. 0) ≡ 0
sum_of-zero zero = refl
sum_of-zero (suc n) = rw (sum_of-zero n)

sum_of-same : (n : ℕ) (f g : ℕ → ℕ) → ((k : ℕ) → k < n → f k ≡ g k) → sum_of n f ≡ sum_of n g
sum_of-same zero f g h = refl
sum_of-same (suc n) f g h = ap₂ bit_xor (sum_of-same n f g (λ k l. h k (omega (arith, l)))) (h n (omega arith))

sum_of-xor : (n : ℕ) (f g : ℕ → ℕ) → sum_of n (λ k. f k ⊕ g k) ≡ sum_of n f ⊕ sum_of n g
sum_of-xor zero f g = refl
sum_of-xor (suc n) f g = rw (sum_of-xor n f g) (xor_four (sum_of n f) (sum_of n g) (f n) (g n))

-- the order of two sums
sum_of-swap : (m n : ℕ) (f : ℕ → ℕ → ℕ) → sum_of m (λ j. sum_of n (λ k. f j k)) ≡ sum_of n (λ k. sum_of m (λ j. f j k))
sum_of-swap zero n f = sym (sum_of-zero n)
sum_of-swap (suc m) n f = rw (sum_of-swap m n f) (sym (sum_of-xor n (λ k. sum_of m (λ j. f j k)) (f m)))

product-sum_of_l : (n : ℕ) (f : ℕ → ℕ) (b : ℕ) → product (sum_of n f) b ≡ sum_of n (λ k. product (f k) b)
product-sum_of_l zero f b = product-zero_l b
product-sum_of_l (suc n) f b = rw (product-xor_l, product-sum_of_l n f b)

product-sum_of_r : (n a : ℕ) (f : ℕ → ℕ) → product a (sum_of n f) ≡ sum_of n (λ k. product a (f k))
product-sum_of_r zero a f = product-zero_r a
product-sum_of_r (suc n) a f = rw (product-xor_r, product-sum_of_r n a f)

and-sum_of : (n x : ℕ) (f : ℕ → ℕ) → sum_of n (λ k. bit_and x (f k)) ≡ bit_and x (sum_of n f)
and-sum_of zero x f = sym (and_zero_r x)
and-sum_of (suc n) x f = rw (and-sum_of n x f) (sym (and_xor x (sum_of n f) (f n)))

-- the parts of a word are the word
parts_are : (x : ℕ) → x < 2 ^ 64 → sum_of 5 (part x) ≡ x
unfolding part
parts_are x h = and-sum_of 5 x (λ i. holes * 2 ^ i) ∙ and_mask x 65 ∙ mod-eq_of_lt (omega (arith, h))

-- the places opposite to one are all places
opposites : (f : ℕ → ℕ) (i : ℕ) → i < 5 → sum_of 5 (λ k. f (opposite k i)) ≡ sum_of 5 f
opposites f i h = go i h
  where
    turn : (a b c d e : ℕ) → 0 ⊕ e ⊕ a ⊕ b ⊕ c ⊕ d ≡ 0 ⊕ a ⊕ b ⊕ c ⊕ d ⊕ e
    turn a b c d e = simp terms

    one : sum_of 5 (λ k. f (opposite k 1)) ≡ sum_of 5 f
    one = turn (f 0) (f 1) (f 2) (f 3) (f 4)

    two : sum_of 5 (λ k. f (opposite k 2)) ≡ sum_of 5 f
    two = turn (f 4) (f 0) (f 1) (f 2) (f 3) ∙ one

    three : sum_of 5 (λ k. f (opposite k 3)) ≡ sum_of 5 f
    three = turn (f 3) (f 4) (f 0) (f 1) (f 2) ∙ two

    go : (i : ℕ) → i < 5 → sum_of 5 (λ k. f (opposite k i)) ≡ sum_of 5 f
    go zero h = refl
    go (suc zero) h = one
    go (suc (suc zero)) h = two
    go (suc (suc (suc zero))) h = three
    go (suc (suc (suc (suc zero)))) h = turn (f 2) (f 3) (f 4) (f 0) (f 1) ∙ three
    go (suc (suc (suc (suc (suc i))))) h = absurd (omega (arith, h))

-- the sum of the products of all parts is the product
pub parts_product : (x y : ℕ) → x < 2 ^ 64 → y < 2 ^ 64 → sum_of 5 (λ k. sum_of 5 (λ i. product (part x i) (part y (opposite k i)))) ≡ product x y
parts_product x y hx hy =
    sum_of-swap 5 5 (λ k i. product (part x i) (part y (opposite k i)))
    ∙ sum_of-same 5 (λ i. sum_of 5 (λ k. product (part x i) (part y (opposite k i)))) (λ i. product (part x i) y) (λ i h. sym (product-sum_of_r 5 (part x i) (λ k. part y (opposite k i))) ∙ ap (product (part x i)) (opposites (part y) i h ∙ parts_are y hy))
    ∙ sym (product-sum_of_l 5 (part x) y)
    ∙ ap (λ (n : ℕ). product n y) (parts_are x hx)
