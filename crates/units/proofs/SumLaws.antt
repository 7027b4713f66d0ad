-- Bitwise sums of numbers and of lists.
use Rattle.std.proofs.Common.{◌≡◌, ℕ, zero, suc, ◌*◌, ◌%◌, ◌^◌, ◌≤◌, List, [], ◌∷◌, length, get_or, replicate, take, drop, sym, refl, ap, ◌∙◌, ap₂, le_of_suc-le-suc, not-suc-le-zero, add-zero, mod-lt, one-mul, zero-mul, arith, lit<, pow_pos, bit_xor}
use Rattle.std.specs.Int.Bits.{xor_assoc, xor_self, xor_zero_r}
use Rattle.std.proofs.lemmas.Nat.{xor_block, xor_comm, xor_lt, xor_mod}
use Rattle.units.specs.Strings.{Octets}
use Rattle.units.specs.Sums.{◌⊕◌, sums}

-- ---- numbers

pub xor_left_comm : (a b c : ℕ) → a ⊕ (b ⊕ c) ≡ b ⊕ (a ⊕ c)
xor_left_comm a b c = sym (xor_assoc a b c) ∙ ap (λ (x : ℕ). x ⊕ c) (xor_comm a b) ∙ xor_assoc b a c

pub xor_cancel : (a b : ℕ) → a ⊕ (a ⊕ b) ≡ b
xor_cancel a b = sym (xor_assoc a a b) ∙ ap (λ (x : ℕ). x ⊕ b) (xor_self a)

-- by these two sums of the same terms are the same, in whatever order, and equal terms fall out in pairs
pub ruleset terms = (xor_assoc, xor_comm, xor_left_comm, xor_cancel, xor_self, xor_zero_r)

pub xor_four : (a b c d : ℕ) → (a ⊕ b) ⊕ (c ⊕ d) ≡ (a ⊕ c) ⊕ (b ⊕ d)
xor_four a b c d = simp terms

pub xor_unlike : (a x y : ℕ) → a ⊕ x ≡ a ⊕ y → x ≡ y
xor_unlike a x y e = sym (xor_cancel a x) ∙ ap (bit_xor a) e ∙ xor_cancel a y

-- a shift passes through a sum
pub shl-xor : (a b k : ℕ) → (a ⊕ b) * 2 ^ k ≡ a * 2 ^ k ⊕ b * 2 ^ k
shl-xor a b k =
    sym (add-zero ((a ⊕ b) * 2 ^ k))
    ∙ sym (xor_block k a b 0 0 (pow_pos k) (pow_pos k))
    ∙ ap₂ bit_xor (add-zero (a * 2 ^ k)) (add-zero (b * 2 ^ k))

-- what holds at 0 and at 1 holds at each bit
pub bit_either {ℓ} : (P : ℕ → Type ℓ) → P 0 → P 1 → (d : ℕ) → d ≤ 1 → P d
bit_either P p0 p1 zero h = p0
bit_either P p0 p1 (suc zero) h = p1
bit_either P p0 p1 (suc (suc d)) h = absurd (not-suc-le-zero (le_of_suc-le-suc h))

pub low_either {ℓ} : (P : ℕ → Type ℓ) → P 0 → P 1 → (n : ℕ) → P (n % 2)
low_either P p0 p1 n = bit_either P p0 p1 (n % 2) (le_of_suc-le-suc (mod-lt n (lit< tt)))

-- a bit times a sum, and a sum of bits times a number
pub low-xor : (n a b : ℕ) → n % 2 * (a ⊕ b) ≡ n % 2 * a ⊕ n % 2 * b
low-xor n a b =
    low_either (λ (k : ℕ). k * (a ⊕ b) ≡ k * a ⊕ k * b)
    (zero-mul (a ⊕ b) ∙ sym (ap₂ bit_xor (zero-mul a) (zero-mul b)))
    (one-mul (a ⊕ b) ∙ sym (ap₂ bit_xor (one-mul a) (one-mul b)))
    n

pub xor_low : (m n a : ℕ) → (m ⊕ n) % 2 * a ≡ m % 2 * a ⊕ n % 2 * a
xor_low m n a =
    ap (λ (x : ℕ). x * a) (xor_mod m n 1)
    ∙ low_either (λ (j : ℕ). (j ⊕ n % 2) * a ≡ j * a ⊕ n % 2 * a)
    (sym (ap (λ (x : ℕ). x ⊕ n % 2 * a) (zero-mul a)))
    (low_either (λ (k : ℕ). (1 ⊕ k) * a ≡ 1 * a ⊕ k * a)
    (one-mul a ∙ sym (xor_zero_r a) ∙ sym (ap₂ bit_xor (one-mul a) (zero-mul a)))
    (zero-mul a ∙ sym (xor_self (1 * a)))
    n)
    m

-- ---- lists

pub sums_comm : (xs ys : List ℕ) → sums xs ys ≡ sums ys xs
sums_comm [] [] = refl
sums_comm [] (y ∷ ys) = refl
sums_comm (x ∷ xs) [] = refl
sums_comm (x ∷ xs) (y ∷ ys) = ap₂ (λ (b : ℕ) (bs : List ℕ). b ∷ bs) (xor_comm x y) (sums_comm xs ys)

pub sums_self : (xs : List ℕ) → sums xs xs ≡ replicate (length xs) 0
sums_self [] = refl
sums_self (x ∷ xs) = ap₂ (λ (b : ℕ) (bs : List ℕ). b ∷ bs) (xor_self x) (sums_self xs)

pub length-sums : (xs ys : List ℕ) → length xs ≤ length ys → length (sums xs ys) ≡ length xs
length-sums [] ys h = refl
length-sums (x ∷ xs) [] h = absurd (not-suc-le-zero h)
length-sums (x ∷ xs) (y ∷ ys) h = ap suc (length-sums xs ys (le_of_suc-le-suc h))

-- a sum with the same list tells the other
pub sums_unlike : (xs ys zs : List ℕ) → length ys ≡ length xs → length zs ≡ length xs → sums xs ys ≡ sums xs zs → ys ≡ zs
sums_unlike [] [] [] h g e = refl
sums_unlike [] [] (z ∷ zs) h g e = absurd (omega arith)
sums_unlike [] (y ∷ ys) zs h g e = absurd (omega arith)
sums_unlike (x ∷ xs) [] zs h g e = absurd (omega arith)
sums_unlike (x ∷ xs) (y ∷ ys) [] h g e = absurd (omega arith)
sums_unlike (x ∷ xs) (y ∷ ys) (z ∷ zs) h g e =
    ap₂ (λ (b : ℕ) (bs : List ℕ). b ∷ bs)
    (xor_unlike x y z (ap (λ (l : List ℕ). get_or l 0 0) e))
    (sums_unlike xs ys zs (omega arith) (omega arith) (ap (drop 1) e))

-- what is added twice falls out
pub sums_between : (xs ks ys : List ℕ) → length ys ≡ length xs → length xs ≤ length ks → sums xs (sums (sums xs ks) ys) ≡ sums ys ks
sums_between [] ks [] h g = refl
sums_between [] ks (y ∷ ys) h g = absurd (omega arith)
sums_between (x ∷ xs) ks [] h g = absurd (omega arith)
sums_between (x ∷ xs) [] (y ∷ ys) h g = absurd (omega arith)
sums_between (x ∷ xs) (k ∷ ks) (y ∷ ys) h g =
    ap₂ (λ (b : ℕ) (bs : List ℕ). b ∷ bs) (simp terms) (sums_between xs ks ys (omega arith) (omega arith))

pub take-sums : (n : ℕ) (xs ys : List ℕ) → take n (sums xs ys) ≡ sums (take n xs) (take n ys)
take-sums zero xs ys = refl
take-sums (suc n) [] ys = refl
take-sums (suc n) (x ∷ xs) [] = refl
take-sums (suc n) (x ∷ xs) (y ∷ ys) = ap (λ (l : List ℕ). (x ⊕ y) ∷ l) (take-sums n xs ys)

pub drop-sums : (n : ℕ) (xs ys : List ℕ) → drop n (sums xs ys) ≡ sums (drop n xs) (drop n ys)
drop-sums zero xs ys = refl
drop-sums (suc n) [] ys = refl
drop-sums (suc n) (x ∷ xs) [] = none (drop n xs)
  where
    none : (l : List ℕ) → [] ≡ sums l []
    none [] = refl
    none (z ∷ l) = refl
drop-sums (suc n) (x ∷ xs) (y ∷ ys) = drop-sums n xs ys

pub Octets-sums : (xs ys : List ℕ) → Octets xs → Octets ys → Octets (sums xs ys)
Octets-sums [] ys o p k = omega arith
Octets-sums (x ∷ xs) [] o p k = omega arith
Octets-sums (x ∷ xs) (y ∷ ys) o p zero = xor_lt 8 x y (o 0) (p 0)
Octets-sums (x ∷ xs) (y ∷ ys) o p (suc k) = Octets-sums xs ys (λ i. o (suc i)) (λ i. p (suc i)) k
