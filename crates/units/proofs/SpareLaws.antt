-- What clearing leaves, byte by byte and bit by bit.
use Rattle.std.proofs.Common.{◌≡◌, ℕ, zero, suc, ◌+◌, ◌-◌, ◌*◌, ◌/◌, ◌%◌, ◌^◌, ◌<◌, ◌≤◌, Bool, true, false, cond, ◌&&◌, eqb, ltb, List, [], ◌∷◌, ◌++◌, length, get_or, take, drop, set, replicate, Decides, sym, refl, ap, ◌∙◌, ap₂, ⊎_elim, append_assoc, append-nil, lt_of_le_of_lt, mul_assoc, mul-one, div-mul-le_self, div-one, arith, length-drop, length-set, drop-cons, pow-add, shr-shr, bit_and, bit_or, bit_xor}
use Rattle.std.proofs.Math.Pow as pow
use borrow.Rule.Slice.PartMut.{put_mid}
use Rattle.std.proofs.lemmas.List.{drop_at, nil_from_length, take_at, take_more_set}
use Rattle.std.proofs.lemmas.Bool.{cases_lt, lt-ltb, le-ltb, eq-eqb, cond_both, cond-false}
use Rattle.std.proofs.lemmas.Bool.Decides.{Decides-at, nat_tests}
use Rattle.std.specs.List.{fold}
use Rattle.std.proofs.Math.Nat.{div-eq_of_lt}
use Rattle.std.proofs.lemmas.Nat.Bits.{and_high_mask, ones_shr}
use Rattle.std.proofs.lemmas.Nat.{and_le_l, and_le_r, xor_shr, mod-pow-add, shl-shr}
use Rattle.std.specs.Int.Bits.{or_add_and, shifted_even, xor_assoc, xor_self, xor_zero_r}
use Rattle.std.proofs.Math.Seq.{split_at}
use Rattle.units.specs.Strings.{Octets, same, united}
use Rattle.units.specs.Sums.{◌⊕◌, sums}
use Rattle.units.proofs.SumLaws.{shl-xor}
use Rattle.units.proofs.StringLaws.{same_tells}
use Rattle.units.specs.Spare.{high, cleared, clear, bit_at}

-- ---- one byte

-- the mask that keeps the n high bits of a byte
pub high_mask : (n x : ℕ) → n < 8 → x < 256 → bit_and x (255 - 255 / 2 ^ n) ≡ high n x
unfolding high
high_mask n x h b =
    let low = ones_shr 8 n (omega arith) in
    let some = pow.pow_pos (8 - n) in
    let mask : 255 - 255 / 2 ^ n ≡ 2 ^ 8 - 2 ^ (8 - n) = omega arith in
    ap (bit_and x) mask ∙ and_high_mask 8 (8 - n) (omega arith) x b

high_all : (n x : ℕ) → 8 ≤ n → high n x ≡ x
unfolding high
high_all n x h =
    let none : 8 - n ≡ 0 = omega arith in
    ap (λ (k : ℕ). x / 2 ^ k * 2 ^ k) none ∙ ap (λ (k : ℕ). k * 1) (div-one x) ∙ mul-one x

high_none : (x : ℕ) → x < 256 → high 0 x ≡ 0
unfolding high
high_none x h = ap (λ (k : ℕ). k * 256) (div-eq_of_lt h)

high_same : (n x : ℕ) → x % 2 ^ (8 - n) ≡ 0 → high n x ≡ x
unfolding high
high_same n x h = let whole = pow.split x (8 - n) in omega arith

-- ---- a byte string

-- the first j bytes are whole
pub cleared_split : (n j : ℕ) (xs : List ℕ) → 8 * j ≤ n → cleared n xs ≡ take j xs ++ cleared (n - 8 * j) (drop j xs)
cleared_split n zero xs h = let e : n ≡ n - 8 * 0 = omega arith in ap (λ (k : ℕ). cleared k xs) e
cleared_split n (suc j) [] h = refl
cleared_split n (suc j) (x ∷ xs) h =
    let e : n - 8 - 8 * j ≡ n - 8 * suc j = omega arith in
    ap₂ (λ (b : ℕ) (bs : List ℕ). b ∷ bs) (high_all n x (omega arith))
    (cleared_split (n - 8) j xs (omega arith) ∙ ap (λ (k : ℕ). take j xs ++ cleared k (drop j xs)) e)

pub cleared_whole : (n : ℕ) (xs : List ℕ) → 8 * length xs ≤ n → cleared n xs ≡ xs
cleared_whole n [] h = refl
cleared_whole n (x ∷ xs) h =
    ap₂ (λ (b : ℕ) (bs : List ℕ). b ∷ bs) (high_all n x (omega arith)) (cleared_whole (n - 8) xs (omega arith))

-- so many whole bytes, and n bits after them
pub cleared-append : (n : ℕ) (xs ys : List ℕ) → cleared (8 * length xs + n) (xs ++ ys) ≡ xs ++ cleared n ys
cleared-append n xs ys =
    let left : 8 * length xs + n - 8 * length xs ≡ n = omega arith in
    cleared_split (8 * length xs + n) (length xs) (xs ++ ys) (omega arith)
    ∙ ap₂ (λ (front back : List ℕ). front ++ cleared (8 * length xs + n - 8 * length xs) back) (take_at xs ys (length xs) refl) (drop_at xs ys (length xs) refl)
    ∙ ap (λ (k : ℕ). xs ++ cleared k ys) left

pub length-cleared : (n : ℕ) (xs : List ℕ) → length (cleared n xs) ≡ length xs
length-cleared n [] = refl
length-cleared n (x ∷ xs) = ap suc (length-cleared (n - 8) xs)

pub take-cleared : (j n : ℕ) (xs : List ℕ) → take j (cleared n xs) ≡ cleared n (take j xs)
take-cleared zero n xs = refl
take-cleared (suc j) n [] = refl
take-cleared (suc j) n (x ∷ xs) = ap (λ (l : List ℕ). high n x ∷ l) (take-cleared j (n - 8) xs)

pub drop-cleared : (j n : ℕ) (xs : List ℕ) → drop j (cleared n xs) ≡ cleared (n - 8 * j) (drop j xs)
drop-cleared zero n xs = let e : n ≡ n - 8 * 0 = omega arith in ap (λ (k : ℕ). cleared k xs) e
drop-cleared (suc j) n [] = refl
drop-cleared (suc j) n (x ∷ xs) =
    let e : n - 8 - 8 * j ≡ n - 8 * suc j = omega arith in
    drop-cleared j (n - 8) xs ∙ ap (λ (k : ℕ). cleared k (drop j xs)) e

pub Octets-cleared : (n : ℕ) (xs : List ℕ) → Octets xs → Octets (cleared n xs)
unfolding high
Octets-cleared n [] o k = o k
Octets-cleared n (x ∷ xs) o zero = lt_of_le_of_lt (div-mul-le_self x (2 ^ (8 - n))) (o 0)
Octets-cleared n (x ∷ xs) o (suc k) = Octets-cleared (n - 8) xs (λ i. o (suc i)) k

-- the spare bits of a sum
high-xor : (n x y : ℕ) → high n (x ⊕ y) ≡ high n x ⊕ high n y
unfolding high
high-xor n x y =
    ap (λ (z : ℕ). z * 2 ^ (8 - n)) (xor_shr x y (8 - n)) ∙ shl-xor (x / 2 ^ (8 - n)) (y / 2 ^ (8 - n)) (8 - n)

pub cleared-sums : (n : ℕ) (xs ys : List ℕ) → cleared n (sums xs ys) ≡ sums (cleared n xs) (cleared n ys)
cleared-sums n [] ys = refl
cleared-sums n (x ∷ xs) [] = refl
cleared-sums n (x ∷ xs) (y ∷ ys) = ap₂ (λ (b : ℕ) (bs : List ℕ). b ∷ bs) (high-xor n x y) (cleared-sums (n - 8) xs ys)

cleared_none : (xs : List ℕ) → Octets xs → cleared 0 xs ≡ replicate (length xs) 0
cleared_none [] o = refl
cleared_none (x ∷ xs) o = ap₂ (λ (b : ℕ) (bs : List ℕ). b ∷ bs) (high_none x (o 0)) (cleared_none xs (λ k. o (suc k)))

-- the byte in which the length ends keeps its high bits, and the bytes after it are zero
pub cleared_at : (n : ℕ) (xs : List ℕ) → n / 8 < length xs → Octets (drop (suc (n / 8)) xs) → cleared n xs ≡ take (n / 8) xs ++ (high (n % 8) (get_or xs (n / 8) 0) ∷ replicate (length xs - suc (n / 8)) 0)
cleared_at n xs h o =
    let left : n - 8 * (n / 8) ≡ n % 8 = omega arith in
    let none : n % 8 - 8 ≡ 0 = omega arith in
    let after = drop (suc (n / 8)) xs in
    let zeros : cleared (n % 8 - 8) after ≡ replicate (length xs - suc (n / 8)) 0 =
    ap (λ (k : ℕ). cleared k after) none
    ∙ cleared_none after o
    ∙ ap (λ (k : ℕ). replicate k 0) (length-drop (suc (n / 8)) xs)
    in
    cleared_split n (n / 8) xs (omega arith)
    ∙ ap₂ (λ (k : ℕ) (ys : List ℕ). take (n / 8) xs ++ cleared k ys) left (drop-cons xs (n / 8) 0 h)
    ∙ ap (λ (ys : List ℕ). take (n / 8) xs ++ (high (n % 8) (get_or xs (n / 8) 0) ∷ ys)) zeros

-- what is left by a write of v at i and zeros after it
pub written_zeros : (xs : List ℕ) (i v k : ℕ) (ys : List ℕ) → i < length xs → k ≡ length xs - suc i → ys ≡ replicate k 0 → put_mid (i + 1) k (set xs i v) ys ≡ take i xs ++ (v ∷ replicate (length xs - suc i) 0)
written_zeros xs i v k ys h e z =
    let none : length (drop k (drop (i + 1) (set xs i v))) ≡ 0 =
    simp (length-drop, length-set) (omega arith)
    in
    ap₂ (λ (front back : List ℕ). front ++ (ys ++ back)) (take_more_set xs i v h) (nil_from_length (drop k (drop (i + 1) (set xs i v))) none)
    ∙ append_assoc (take i xs) (v ∷ []) (ys ++ [])
    ∙ ap (λ (back : List ℕ). take i xs ++ (v ∷ back)) (append-nil ys ∙ z ∙ ap (λ (n : ℕ). replicate n 0) e)

-- ---- testing

same_front : (xs ys zs : List ℕ) → same (xs ++ ys) (xs ++ zs) ≡ same ys zs
same_front [] ys zs = refl
same_front (x ∷ xs) ys zs = rw (eq-eqb x x refl) (same_front xs ys zs)

either_zero : (a b : ℕ) → eqb (bit_or a b) 0 ≡ (eqb a 0 && eqb b 0)
either_zero a b =
    let o = or_add_and a b in let l = and_le_l a b in let r = and_le_r a b in
    grind (arith, nat_tests)

union_zero : (d : ℕ) (xs : List ℕ) → eqb (fold bit_or d xs) 0 ≡ (eqb d 0 && same (replicate (length xs) 0) xs)
union_zero d [] = sym (and_true (eqb d 0))
  where
    and_true : (b : Bool) → (b && true) ≡ b
    and_true true = refl
    and_true false = refl
union_zero d (x ∷ xs) =
    union_zero (bit_or d x) xs
    ∙ ap (λ (t : Bool). t && same (replicate (length xs) 0) xs) (either_zero d x)
    ∙ ap (λ (t : Bool). (eqb d 0 && t) && same (replicate (length xs) 0) xs) (eqb_sym x 0)
    ∙ and_assoc (eqb d 0) (eqb 0 x) _
  where
    eqb_sym : (m n : ℕ) → eqb m n ≡ eqb n m
    eqb_sym m n = grind (arith, nat_tests)

    and_assoc : (p q r : Bool) → ((p && q) && r) ≡ (p && (q && r))
    and_assoc true q r = refl
    and_assoc false q r = refl

differ_zero : (x y : ℕ) → eqb (bit_xor x y) 0 ≡ eqb y x
differ_zero x y =
    let e : bit_xor x y ≡ 0 → x ≡ y = λ z. sym (xor_zero_r x) ∙ ap (bit_xor x) (sym (xor_self y)) ∙ sym (xor_assoc x y y) ∙ ap (λ (d : ℕ). bit_xor d y) z in
    let f : x ≡ y → bit_xor x y ≡ 0 = λ z. ap (λ (d : ℕ). bit_xor d y) z ∙ xor_self y in
    grind (arith, nat_tests)

-- the test of the spare bits as it is computed
pub clear_at : (n : ℕ) (xs : List ℕ) → n / 8 < length xs → Octets (drop (suc (n / 8)) xs) → clear n xs ≡ eqb (bit_or (bit_xor (get_or xs (n / 8) 0) (high (n % 8) (get_or xs (n / 8) 0))) (united (drop (suc (n / 8)) xs))) 0
clear_at n xs h o =
    let w = n / 8 in
    let x = get_or xs w 0 in
    let rest = drop (suc w) xs in
    let parts : xs ≡ take w xs ++ (x ∷ rest) = split_at xs w 0 h in
    ap₂ same (cleared_at n xs h o) parts
    ∙ same_front (take w xs) (high (n % 8) x ∷ replicate (length xs - suc w) 0) (x ∷ rest)
    ∙ ap₂ (λ (t : Bool) (k : ℕ). t && same (replicate k 0) rest) (sym (differ_zero x (high (n % 8) x))) (sym (length-drop (suc w) xs))
    ∙ sym (either_zero (bit_xor x (high (n % 8) x)) (united rest) ∙ ap (λ (t : Bool). eqb (bit_xor x (high (n % 8) x)) 0 && t) (union_zero 0 rest))

pub clear_whole : (n : ℕ) (xs : List ℕ) → length xs ≤ n / 8 → clear n xs ≡ true
clear_whole n xs h = ap (λ (ys : List ℕ). same ys xs) (cleared_whole n xs (omega arith)) ∙ (same_tells xs xs).1 refl

-- ---- bit by bit

bit_first : (x : ℕ) (xs : List ℕ) (i : ℕ) → i < 8 → bit_at (x ∷ xs) i ≡ x / 2 ^ (7 - i) % 2
unfolding bit_at
bit_first x xs i h =
    let a : i / 8 ≡ 0 = omega arith in
    let b : i % 8 ≡ i = omega arith in
    rw (a, b) refl

bit_later : (x : ℕ) (xs : List ℕ) (i : ℕ) → bit_at (x ∷ xs) (i + 8) ≡ bit_at xs i
unfolding bit_at
bit_later x xs i =
    let a : (i + 8) / 8 ≡ suc (i / 8) = omega arith in
    let b : (i + 8) % 8 ≡ i % 8 = omega arith in
    rw (a, b) refl

-- bit i of the n high bits of a byte
bit_high : (n x i : ℕ) → i < 8 → high n x / 2 ^ (7 - i) % 2 ≡ cond (ltb i n) (x / 2 ^ (7 - i) % 2) 0
unfolding high
bit_high n x i h =
    let a = 8 - n in
    let b = 7 - i in
    ⊎_elim
    (λ (l : i < n).
    let more : a + (b - a) ≡ b = omega arith in
    rw (lt-ltb i n l)
    (ap (λ (k : ℕ). k % 2)
    (ap (λ (k : ℕ). x / 2 ^ a * 2 ^ a / 2 ^ k) (sym more)
    ∙ sym (shr-shr (x / 2 ^ a * 2 ^ a) a (b - a))
    ∙ ap (λ (k : ℕ). k / 2 ^ (b - a)) (shl-shr (x / 2 ^ a) a)
    ∙ shr-shr x a (b - a)
    ∙ ap (λ (k : ℕ). x / 2 ^ k) more)))
    (λ (l : n ≤ i).
    let more : suc (a - b - 1) + b ≡ a = omega arith in
    let y = x / 2 ^ a in
    rw (le-ltb i n l)
    (ap (λ (k : ℕ). k / 2 ^ b % 2)
    (ap (λ (k : ℕ). y * 2 ^ k) (sym more) ∙ ap (λ (k : ℕ). y * k) (pow-add 2 (suc (a - b - 1)) b) ∙ sym (mul_assoc y (2 ^ suc (a - b - 1)) (2 ^ b)))
    ∙ ap (λ (k : ℕ). k % 2) (shl-shr (y * 2 ^ suc (a - b - 1)) b)
    ∙ shifted_even y (a - b - 1)))
    (cases_lt i n)

bit_none : (i : ℕ) → bit_at [] i ≡ 0
unfolding bit_at
bit_none i = let some = pow.pow_pos (7 - i % 8) in ap (λ (k : ℕ). k % 2) (div-eq_of_lt some)

-- the first n bits stay, and the others are zero
pub bit-cleared : (n : ℕ) (xs : List ℕ) (i : ℕ) → bit_at (cleared n xs) i ≡ cond (ltb i n) (bit_at xs i) 0
bit-cleared n [] i = let none = bit_none i in cond_both (ltb i n) (bit_at [] i) 0 (λ (k : ℕ). bit_at [] i ≡ k) (λ e. refl) (λ e. none)
bit-cleared n (x ∷ xs) i =
    ⊎_elim
    (λ (l : i < 8).
    bit_first (high n x) (cleared (n - 8) xs) i l
    ∙ bit_high n x i l
    ∙ ap (λ (k : ℕ). cond (ltb i n) k 0) (sym (bit_first x xs i l)))
    (λ (l : 8 ≤ i).
    let j = i - 8 in
    let back : j + 8 ≡ i = omega arith in
    let test : ltb j (n - 8) ≡ ltb i n = grind (arith, nat_tests) in
    ap (bit_at (high n x ∷ cleared (n - 8) xs)) (sym back)
    ∙ bit_later (high n x) (cleared (n - 8) xs) j
    ∙ bit-cleared (n - 8) xs j
    ∙ ap₂ (λ (t : Bool) (k : ℕ). cond t k 0) test (sym (bit_later x xs j) ∙ ap (bit_at (x ∷ xs)) back))
    (cases_lt i 8)

-- the bits of a byte below 2 ^ a are zero
low-zero : (a x : ℕ) → ((b : ℕ) → b < a → x / 2 ^ b % 2 ≡ 0) → x % 2 ^ a ≡ 0
low-zero zero x h = omega arith
low-zero (suc a) x h =
    let last = h a (omega arith) in
    let rest = low-zero a x (λ b l. h b (omega arith)) in
    let one : 1 + a ≡ suc a = omega arith in
    ap (λ (k : ℕ). x % 2 ^ k) (sym one)
    ∙ mod-pow-add x 1 a
    ∙ ap₂ (λ (p q : ℕ). p * 2 ^ a + q) last rest
    ∙ omega arith

cleared_by_bits : (n : ℕ) (xs : List ℕ) → ((i : ℕ) → n ≤ i → bit_at xs i ≡ 0) → cleared n xs ≡ xs
cleared_by_bits n [] h = refl
cleared_by_bits n (x ∷ xs) h =
    let low = low-zero (8 - n) x (λ b l.
    let back : 7 - (7 - b) ≡ b = omega arith in
    ap (λ (k : ℕ). x / 2 ^ k % 2) (sym back) ∙ sym (bit_first x xs (7 - b) (omega arith)) ∙ h (7 - b) (omega arith)) in
    ap₂ (λ (b : ℕ) (bs : List ℕ). b ∷ bs) (high_same n x low)
    (cleared_by_bits (n - 8) xs (λ i l. sym (bit_later x xs i) ∙ h (i + 8) (omega arith)))

-- the test says whether each spare bit is zero
pub clear_tells : (n : ℕ) (xs : List ℕ) → Decides (clear n xs) ((i : ℕ) → n ≤ i → bit_at xs i ≡ 0)
clear_tells n xs = (
  λ e i l.
      ap (λ (ys : List ℕ). bit_at ys i) (sym ((same_tells (cleared n xs) xs).0 e))
      ∙ bit-cleared n xs i
      ∙ cond-false (ltb i n) (bit_at xs i) 0 (le-ltb i n l),
  λ h. ap (λ (ys : List ℕ). same ys xs) (cleared_by_bits n xs h) ∙ (same_tells xs xs).1 refl,
)

-- ---- what the two calls promise

module _ (n : ℕ) (xs : List ℕ) where
  -- clearing, from what it leaves
  pub cleared_told : (ys : List ℕ) → ys ≡ cleared n xs → (i : ℕ) → bit_at ys i ≡ cond (ltb i n) (bit_at xs i) 0
  cleared_told ys e i = ap (λ (zs : List ℕ). bit_at zs i) e ∙ bit-cleared n xs i

  -- testing, from what it answers
  pub clear_told : (b : Bool) → b ≡ clear n xs → Decides b ((i : ℕ) → n ≤ i → bit_at xs i ≡ 0)
  clear_told b e = Decides-at b (clear n xs) e (clear_tells n xs)

-- what is cleared is clear
pub clear-cleared : (n : ℕ) (xs : List ℕ) → clear n (cleared n xs) ≡ true
clear-cleared n xs =
    (clear_told n (cleared n xs) (clear n (cleared n xs)) refl).1
    (λ i h. cleared_told n xs (cleared n xs) refl i ∙ cond-false (ltb i n) (bit_at xs i) 0 (le-ltb i n h))

-- clearing again changes nothing
pub cleared_again : (n : ℕ) (xs : List ℕ) → cleared n (cleared n xs) ≡ cleared n xs
cleared_again n xs = (same_tells (cleared n (cleared n xs)) (cleared n xs)).0 (clear-cleared n xs)
