-- The bytes of lanes, and lanes of bytes.
use Rattle.std.proofs.Common.{◌≡◌, ℕ, zero, suc, ◌+◌, ◌-◌, ◌*◌, ◌/◌, ◌%◌, ◌^◌, ◌<◌, List, [], ◌∷◌, ◌++◌, length, get_or, sym, refl, ap, ◌∙◌, ap₂, mod-lt, arith, lit<}
use Rattle.std.specs.Int.{bit_at}
use Rattle.std.specs.Simd.Lanes.{Each1, chunk, digits_l, number_l, pick_l}
use Rattle.std.proofs.lemmas.List.{get_or-map, get_or_append_left}
use Rattle.std.proofs.lemmas.Nat.{shr-shr}
use Rattle.std.proofs.lemmas.Nat.Bits.{bit_at-zero, bit_at_cat_high, bit_at_cat_low}
use Rattle.std.proofs.lemmas.Simd.{Each1-chunk, Each1-from_get_or, get_or-chunk, get_or_narrower, get_or_wider}
use Rattle.units.specs.Strings.{Octets}
use Rattle.units.proofs.StringLaws.{Octets-append}
use Rattle.planes.specs.Planes.{bit}
use Rattle.planes.proofs.BitLaws.{bit_at-mod, same_below}

-- the sixteen bytes of four lanes, and back: the lowest byte of a lane first
abbrev pub bytes_of : List ℕ → List ℕ
bytes_of xs = digits_l 256 16 (number_l (2 ^ 32) xs)

abbrev pub lanes_of : List ℕ → List ℕ
lanes_of ys = digits_l (2 ^ 32) 4 (number_l 256 ys)

-- bytes at given places, as a vector is shuffled with itself
abbrev pub picked : List ℕ → List ℕ → List ℕ
picked xs places = pick_l 0 (xs ++ xs) places

pub picked_at : (xs places : List ℕ) (m : ℕ) → length xs ≡ 16 → m < length places → get_or places m 0 < 16 → get_or (picked xs places) m 0 ≡ get_or xs (get_or places m 0) 0
picked_at xs places m l h p = get_or-map (λ k. get_or (xs ++ xs) k 0) places m 0 0 h ∙ get_or_append_left xs xs 0 (get_or places m 0) (omega arith)

-- ---- octets

pub Octets-picked : (xs places : List ℕ) → Octets xs → Octets (picked xs places)
Octets-picked xs [] o k = lit< tt
Octets-picked xs (p ∷ places) o zero = Octets-append xs xs o o p
Octets-picked xs (p ∷ places) o (suc k) = Octets-picked xs places o k

Octets-digits : (n x : ℕ) → Octets (digits_l 256 n x)
Octets-digits zero x k = lit< tt
Octets-digits (suc n) x zero = mod-lt x (lit< tt)
Octets-digits (suc n) x (suc k) = Octets-digits n (x / 256) k

pub Octets-bytes_of : (xs : List ℕ) → Octets (bytes_of xs)
Octets-bytes_of xs = Octets-digits 16 (number_l (2 ^ 32) xs)

each_octet : (xs : List ℕ) → Octets xs → Each1 (λ x. x < 256) xs
each_octet xs o = Each1-from_get_or (λ x. x < 256) xs 0 (λ i h. o i)

-- ---- bits

-- the bits of a number are those of its bytes
bit_of_byte : (xs : List ℕ) (c j : ℕ) → Each1 (λ x. x < 256) xs → j < 8 → bit_at (number_l 256 xs) (8 * c + j) ≡ bit_at (get_or xs c 0) j
bit_of_byte [] c j e h = bit_at-zero (8 * c + j) ∙ sym (bit_at-zero j)
bit_of_byte (x ∷ xs) zero j e h =
    ap₂ bit_at (let e : x + 256 * number_l 256 xs ≡ number_l 256 xs * 2 ^ 8 + x = omega arith in e) (let e : 8 * 0 + j ≡ j = omega arith in e)
    ∙ bit_at_cat_low (number_l 256 xs) 8 x j h
bit_of_byte (x ∷ xs) (suc c) j e h =
    ap₂ bit_at (let e : x + 256 * number_l 256 xs ≡ number_l 256 xs * 2 ^ 8 + x = omega arith in e) refl
    ∙ bit_at_cat_high (number_l 256 xs) 8 x (8 * suc c + j) e.0 (omega arith)
    ∙ ap (bit_at (number_l 256 xs)) (let e : 8 * suc c + j - 8 ≡ 8 * c + j = omega arith in e)
    ∙ bit_of_byte xs c j e.1 h

powers : (c : ℕ) → c < 4 → 256 ^ c ≡ 2 ^ (8 * c)
powers = same_below (λ c. 256 ^ c) (λ c. 2 ^ (8 * c)) 4 refl

pub bit_of_bytes :
    (xs : List ℕ) (row column j : ℕ) → Each1 (λ x. x < 2 ^ 32) xs → row < 4 → column < 4 → j < 8
    → bit_at (get_or (bytes_of xs) (4 * row + column) 0) j ≡ bit row (8 * column + j) xs
bit_of_bytes xs row column j small h lc lj =
    let x = get_or xs row 0 in
    ap (λ (n : ℕ). bit_at n j) (get_or_narrower (2 ^ 32) 4 256 16 xs row column refl small lc (omega arith))
    ∙ bit_at-mod (x / 256 ^ column) 8 j lj
    ∙ ap (λ (p : ℕ). x / p / 2 ^ j % 2) (powers column lc)
    ∙ ap (λ (n : ℕ). n % 2) (shr-shr x (8 * column) j)

pub bit_of_lanes :
    (ys : List ℕ) (row column j : ℕ) → Octets ys → row < 4 → column < 4 → j < 8
    → bit row (8 * column + j) (lanes_of ys) ≡ bit_at (get_or ys (4 * row + column) 0) j
bit_of_lanes ys row column j o h lc lj =
    let small = each_octet ys o in
    ap (λ (n : ℕ). bit_at n (8 * column + j)) (get_or_wider 256 4 (2 ^ 32) 4 ys row refl small h)
    ∙ bit_of_byte (chunk (4 * row) 4 ys) column j (Each1-chunk (λ x. x < 256) (4 * row) 4 ys small) lj
    ∙ ap (λ (n : ℕ). bit_at n j) (get_or-chunk (4 * row) 4 ys column 0 lc)
