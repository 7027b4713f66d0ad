-- Blocks and their polynomials.
use Rattle.std.proofs.Common.{◌≡◌, ℕ, zero, suc, ◌+◌, ◌-◌, ◌*◌, ◌/◌, ◌%◌, ◌^◌, ◌<◌, ◌≤◌, List, [], ◌∷◌, ◌++◌, map, length, get_or, take, drop, replicate, sym, refl, ap, ◌∙◌, ap₂, le_refl, le_of_suc-le-suc, not-suc-le-zero, mul_comm, add_comm, pow-suc, div-mul-le_self, arith, lit<, length-append, length-drop, length-take, drop-drop, bit_xor}
use Rattle.std.specs.Simd.{first_chunks}
use Rattle.std.proofs.Math.Decide.{le_ind}
use Rattle.std.proofs.Math.Arith.{mod-mul}
use Rattle.std.proofs.Math.Nat.{min_comm, mod-one}
use Rattle.std.proofs.lemmas.Nat.{xor_block, xor_mod, xor_shr}
use Rattle.std.specs.Simd.Lanes.{digits_l}
use Rattle.std.proofs.lemmas.List.{drop_min, nil_from_length, take_min, drop-append-le, take-append-le}
use Rattle.units.specs.Strings.{Octets}
use Rattle.units.specs.Sums.{◌⊕◌, sums}
use Rattle.units.specs.Spare.{cleared, high}
use Rattle.units.proofs.SpareLaws.{cleared_whole, drop-cleared, length-cleared, take-cleared}
use Rattle.units.proofs.StringLaws.{Octets-drop, Octets-take}
use Rattle.units.proofs.SumLaws.{drop-sums, length-sums, take-sums}
use Rattle.field.specs.Blocks.{block_bytes, blocks, blocks_by, polynomial}

-- ---- the polynomial of a byte string

polynomial_at : (k : ℕ) (xs : List ℕ) → polynomial (drop k xs) ≡ get_or xs k 0 + 256 * polynomial (drop (suc k) xs)
polynomial_at zero [] = refl
polynomial_at zero (x ∷ xs) = refl
polynomial_at (suc k) [] = refl
polynomial_at (suc k) (x ∷ xs) = polynomial_at k xs

polynomial_past : (k : ℕ) (xs : List ℕ) → length xs ≤ k → polynomial (drop k xs) ≡ 0
polynomial_past zero [] h = refl
polynomial_past zero (x ∷ xs) h = absurd (not-suc-le-zero h)
polynomial_past (suc k) [] h = refl
polynomial_past (suc k) (x ∷ xs) h = polynomial_past k xs (le_of_suc-le-suc h)

-- what `u128::from_le_bytes` says
pub polynomial_sixteen : (xs : List ℕ) → length xs ≤ 16 → get_or xs 0 0 + get_or xs 1 0 * 256 + get_or xs 2 0 * 65536 + get_or xs 3 0 * 16777216 + get_or xs 4 0 * 4294967296 + get_or xs 5 0 * 1099511627776 + get_or xs 6 0 * 281474976710656 + get_or xs 7 0 * 72057594037927936 + get_or xs 8 0 * 18446744073709551616 + get_or xs 9 0 * 4722366482869645213696 + get_or xs 10 0 * 1208925819614629174706176 + get_or xs 11 0 * 309485009821345068724781056 + get_or xs 12 0 * 79228162514264337593543950336 + get_or xs 13 0 * 20282409603651670423947251286016 + get_or xs 14 0 * 5192296858534827628530496329220096 + get_or xs 15 0 * 1329227995784915872903807060280344576 ≡ polynomial xs
polynomial_sixteen xs h =
    let at = λ (k : ℕ). polynomial_at k xs in
    omega (arith, at 0, at 1, at 2, at 3, at 4, at 5, at 6, at 7, at 8, at 9, at 10, at 11, at 12, at 13, at 14, at 15, polynomial_past 16 xs h)

high-le : (n x : ℕ) → high n x ≤ x
unfolding high
high-le n x = div-mul-le_self x (2 ^ (8 - n))

polynomial-append-zero : (n : ℕ) (xs ys : List ℕ) → polynomial ys ≡ 0 → polynomial (cleared n (xs ++ ys)) ≡ polynomial (cleared n xs)
polynomial-append-zero n [] [] h = refl
polynomial-append-zero n [] (y ∷ ys) h =
    let rest = polynomial-append-zero (n - 8) [] ys (omega arith) in
    let byte = high-le n y in
    omega arith
polynomial-append-zero n (x ∷ xs) ys h = ap (λ (p : ℕ). high n x + 256 * p) (polynomial-append-zero (n - 8) xs ys h)

polynomial-drop-zero : (j : ℕ) (ys : List ℕ) → polynomial ys ≡ 0 → polynomial (drop j ys) ≡ 0
polynomial-drop-zero zero ys h = h
polynomial-drop-zero (suc j) [] h = refl
polynomial-drop-zero (suc j) (y ∷ ys) h = polynomial-drop-zero j ys (omega arith)

-- bytes written over the first of a block of zeros, cleared after it
pub polynomial_filled : (n j : ℕ) (xs : List ℕ) → polynomial (cleared n (xs ++ drop j (replicate 16 0))) ≡ polynomial (cleared n xs)
polynomial_filled n j xs = polynomial-append-zero n xs (drop j (replicate 16 0)) (polynomial-drop-zero j (replicate 16 0) refl)

pub polynomial-sums : (xs ys : List ℕ) → length xs ≡ length ys → Octets xs → Octets ys → polynomial (sums xs ys) ≡ polynomial xs ⊕ polynomial ys
polynomial-sums [] [] e o p = refl
polynomial-sums [] (y ∷ ys) e o p = absurd (omega arith)
polynomial-sums (x ∷ xs) [] e o p = absurd (omega arith)
polynomial-sums (x ∷ xs) (y ∷ ys) e o p =
    ap (λ (v : ℕ). (x ⊕ y) + 256 * v) (polynomial-sums xs ys (omega arith) (λ k. o (suc k)) (λ k. p (suc k)))
    ∙ turned (x ⊕ y) (polynomial xs ⊕ polynomial ys)
    ∙ sym (xor_block 8 (polynomial xs) (polynomial ys) x y (o 0) (p 0))
    ∙ sym (ap₂ bit_xor (turned x (polynomial xs)) (turned y (polynomial ys)))
  where
    turned : (a b : ℕ) → a + 256 * b ≡ b * 2 ^ 8 + a
    turned a b = omega arith

-- ---- the bytes of a polynomial

pub length_digits : (n v : ℕ) → length (digits_l 256 n v) ≡ n
length_digits zero v = refl
length_digits (suc n) v = ap suc (length_digits n (v / 256))

pub polynomial-digits : (n v : ℕ) → polynomial (digits_l 256 n v) ≡ v % 256 ^ n
polynomial-digits zero v = sym (mod-one v)
polynomial-digits (suc n) v =
    ap (λ (k : ℕ). v % 256 + 256 * k) (polynomial-digits n (v / 256))
    ∙ add_comm (v % 256) (256 * (v / 256 % 256 ^ n))
    ∙ ap (λ (k : ℕ). k + v % 256) (mul_comm 256 (v / 256 % 256 ^ n))
    ∙ sym (ap (λ (k : ℕ). v % k) (pow-suc 256 n) ∙ mod-mul v (some n) (lit< tt))
  where
    some : (n : ℕ) → 0 < 256 ^ n
    some zero = lit< tt
    some (suc n) = omega (arith, pow-suc 256 n, some n)

pub sums-digits : (n v w : ℕ) → sums (digits_l 256 n v) (digits_l 256 n w) ≡ digits_l 256 n (v ⊕ w)
sums-digits zero v w = refl
sums-digits (suc n) v w =
    ap₂ (λ (b : ℕ) (bs : List ℕ). b ∷ bs) (sym (xor_mod v w 8))
    (sums-digits n (v / 256) (w / 256) ∙ ap (digits_l 256 n) (sym (xor_shr v w 8)))

-- those of the vector of its halves
pub halves : (v : ℕ) → digits_l 256 16 (v % 2 ^ 64 + 2 ^ 64 * (v / 2 ^ 64 + 0)) ≡ block_bytes v
unfolding block_bytes
halves v = ap (digits_l 256 16) (omega arith)

-- ---- the blocks of a byte string

shorter : (xs : List ℕ) (n : ℕ) → length xs ≤ suc n → length (drop 16 xs) ≤ n
shorter xs n h = simp length-drop (omega arith)

more : (n : ℕ) (xs : List ℕ) → length xs ≤ n → blocks_by (suc n) xs ≡ blocks_by n xs
unfolding blocks_by
more zero [] h = refl
more zero (x ∷ xs) h = absurd (not-suc-le-zero h)
more (suc n) [] h = refl
more (suc n) (x ∷ xs) h =
    ap (λ (bs : List ℕ). polynomial (take 16 (x ∷ xs)) ∷ bs) (more n (drop 16 (x ∷ xs)) (shorter (x ∷ xs) n h))

enough : (n : ℕ) (xs : List ℕ) → length xs ≤ n → blocks_by n xs ≡ blocks xs
unfolding blocks
enough n xs h = le_ind (λ (m : ℕ). blocks_by m xs ≡ blocks_by (length xs) xs) refl (λ m k e. more m xs k ∙ e) n h

pub blocks_none : blocks [] ≡ []
unfolding blocks blocks_by
blocks_none = refl

pub blocks_step : (xs : List ℕ) → 0 < length xs → blocks xs ≡ polynomial (take 16 xs) ∷ blocks (drop 16 xs)
unfolding blocks blocks_by
blocks_step [] h = absurd (not-suc-le-zero h)
blocks_step (x ∷ xs) h =
    ap (λ (bs : List ℕ). polynomial (take 16 (x ∷ xs)) ∷ bs)
    (enough (length xs) (drop 16 (x ∷ xs)) (shorter (x ∷ xs) (length xs) (le_refl (length (x ∷ xs)))))

pub blocks-append : (k : ℕ) (xs ys : List ℕ) → length xs ≡ 16 * k → blocks (xs ++ ys) ≡ blocks xs ++ blocks ys
blocks-append zero [] ys e = sym (ap (λ (bs : List ℕ). bs ++ blocks ys) blocks_none)
blocks-append zero (x ∷ xs) ys e = absurd (omega arith)
blocks-append (suc k) xs ys e =
    let long : 16 ≤ length xs = omega arith in
    let all : 0 < length (xs ++ ys) = simp length-append (omega arith) in
    let rest : length (drop 16 xs) ≡ 16 * k = simp length-drop (omega arith) in
    blocks_step (xs ++ ys) all
    ∙ ap₂ (λ (front back : List ℕ). polynomial front ∷ blocks back) (take-append-le 16 xs ys long) (drop-append-le 16 xs ys long)
    ∙ ap (λ (bs : List ℕ). polynomial (take 16 xs) ∷ bs) (blocks-append k (drop 16 xs) ys rest)
    ∙ ap (λ (bs : List ℕ). bs ++ blocks ys) (sym (blocks_step xs (omega arith)))

-- ---- the blocks of a bit string

-- nothing is left
pub blocks_end : (n : ℕ) (xs : List ℕ) → length xs ≡ 0 → blocks (cleared n xs) ≡ []
blocks_end n xs h = ap (λ (ys : List ℕ). blocks (cleared n ys)) (nil_from_length xs h) ∙ blocks_none

-- the next block of a bit string, and what it leaves
pub blocks_next : (n : ℕ) (xs : List ℕ) → 0 < length xs → blocks (cleared n xs) ≡ polynomial (cleared n (take 16 xs)) ∷ blocks (cleared (n - 128) (drop 16 xs))
blocks_next n xs h =
    blocks_step (cleared n xs) (simp length-cleared h)
    ∙ ap₂ (λ (front back : List ℕ). polynomial front ∷ blocks back) (take-cleared 16 n xs) (drop-cleared 16 n xs)

-- the first k of the m chunks that `as_chunks` gives, and what they leave
pub blocks_chunks : (k m n : ℕ) (xs : List ℕ) → k ≤ m → m * 16 ≤ length xs → k * 128 ≤ n → blocks (cleared n xs) ≡ map polynomial (take k (first_chunks 16 m xs)) ++ blocks (cleared (n - k * 128) (drop (k * 16) xs))
blocks_chunks zero m n xs l h b = let bits : n ≡ n - 0 * 128 = omega arith in ap (λ (left : ℕ). blocks (cleared left xs)) bits
blocks_chunks (suc k) zero n xs l h b = absurd (omega arith)
blocks_chunks (suc k) (suc m) n xs l h b =
    let rest : m * 16 ≤ length (drop 16 xs) = simp length-drop (omega arith) in
    let first : 8 * length (take 16 xs) ≤ n = simp length-take (omega arith) in
    let bits : n - 128 - k * 128 ≡ n - suc k * 128 = omega arith in
    let bytes : 16 + k * 16 ≡ suc k * 16 = omega arith in
    blocks_next n xs (omega arith)
    ∙ ap₂ (λ (front : List ℕ) (bs : List ℕ). polynomial front ∷ bs) (cleared_whole n (take 16 xs) first)
    (blocks_chunks k m (n - 128) (drop 16 xs) (omega arith) rest (omega arith)
    ∙ ap₂ (λ (left : ℕ) (back : List ℕ). map polynomial (take k (first_chunks 16 m (drop 16 xs))) ++ blocks (cleared left back))
    bits (drop-drop (k * 16) 16 xs ∙ ap (λ (j : ℕ). drop j xs) bytes))

-- what the next step of `Blocks` gives and leaves
pub ruleset next_block = (blocks_end, blocks_next, take_min, drop_min, min_comm)

-- ---- the blocks of a sum

blocks_by_sums : (n : ℕ) (xs ys : List ℕ) → length xs ≡ length ys → Octets xs → Octets ys → blocks_by n (sums xs ys) ≡ sums (blocks_by n xs) (blocks_by n ys)
unfolding blocks_by
blocks_by_sums zero xs ys e o p = refl
blocks_by_sums (suc n) [] ys e o p = refl
blocks_by_sums (suc n) (x ∷ xs) [] e o p = absurd (omega arith)
blocks_by_sums (suc n) (x ∷ xs) (y ∷ ys) e o p =
    let a = x ∷ xs in
    let b = y ∷ ys in
    let fronts : length (take 16 a) ≡ length (take 16 b) = simp length-take (omega arith) in
    let backs : length (drop 16 a) ≡ length (drop 16 b) = simp length-drop (omega arith) in
    ap₂ (λ (c : ℕ) (bs : List ℕ). c ∷ bs)
    (ap polynomial (take-sums 16 a b) ∙ polynomial-sums (take 16 a) (take 16 b) fronts (Octets-take a 16 o) (Octets-take b 16 p))
    (ap (blocks_by n) (drop-sums 16 a b) ∙ blocks_by_sums n (drop 16 a) (drop 16 b) backs (Octets-drop a 16 o) (Octets-drop b 16 p))

pub blocks-sums : (xs ys : List ℕ) → length xs ≡ length ys → Octets xs → Octets ys → blocks (sums xs ys) ≡ sums (blocks xs) (blocks ys)
unfolding blocks
blocks-sums xs ys e o p =
    ap (λ (n : ℕ). blocks_by n (sums xs ys)) (length-sums xs ys (omega arith))
    ∙ blocks_by_sums (length xs) xs ys e o p
    ∙ ap (λ (n : ℕ). sums (blocks_by (length xs) xs) (blocks_by n ys)) e

blocks_by_like : (n : ℕ) (xs ys : List ℕ) → length xs ≡ length ys → length (blocks_by n xs) ≡ length (blocks_by n ys)
unfolding blocks_by
blocks_by_like zero xs ys e = refl
blocks_by_like (suc n) [] [] e = refl
blocks_by_like (suc n) [] (y ∷ ys) e = absurd (omega arith)
blocks_by_like (suc n) (x ∷ xs) [] e = absurd (omega arith)
blocks_by_like (suc n) (x ∷ xs) (y ∷ ys) e =
    let backs : length (drop 16 (x ∷ xs)) ≡ length (drop 16 (y ∷ ys)) = simp length-drop (omega arith) in
    ap suc (blocks_by_like n (drop 16 (x ∷ xs)) (drop 16 (y ∷ ys)) backs)

pub length-blocks : (xs ys : List ℕ) → length xs ≡ length ys → length (blocks xs) ≡ length (blocks ys)
unfolding blocks
length-blocks xs ys e = blocks_by_like (length xs) xs ys e ∙ ap (λ (n : ℕ). length (blocks_by n ys)) e
