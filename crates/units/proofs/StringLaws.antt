-- Parts of byte strings, byte strings that are equal, and numbers in them.
use Rattle.std.proofs.Common.{Decides, rules, ◌≡◌, ◌↔◌, ℕ, zero, suc, ◌+◌, ◌*◌, ◌/◌, ◌%◌, ◌<◌, ◌≤◌, List, [], ◌∷◌, ◌++◌, map, length, get_or, take, drop, sym, refl, ap, ◌∙◌, arith, lit<, ◌^◌, ap₂, get_or-drop, drop-cons, drop-drop, take-add, get_or-append-add}
use Rattle.std.proofs.lemmas.Nat.{le_or_l, le_or_r}
use Rattle.std.specs.Int.Bits.{bit_or}
use Rattle.std.specs.List.{fold}
use Rattle.std.proofs.lemmas.Slice.Eq.{compares_Decides}
use Rattle.units.specs.Strings.{Octets, four, four_at, same, two, two_at, united}

pub Octets-append_rest : (xs front rest : List ℕ) → Octets xs → xs ≡ front ++ rest → Octets rest
Octets-append_rest xs front rest o e k =
    let same = ap (λ (l : List ℕ). get_or l (length front + k) 0) e ∙ get_or-append-add front rest k 0 in
    let below = o (length front + k) in
    omega arith

pub Octets-append_front : (xs ys : List ℕ) → Octets (xs ++ ys) → Octets xs
Octets-append_front [] ys o k = omega arith
Octets-append_front (x ∷ xs) ys o zero = o 0
Octets-append_front (x ∷ xs) ys o (suc k) = Octets-append_front xs ys (λ i. o (suc i)) k

pub Octets-append : (xs ys : List ℕ) → Octets xs → Octets ys → Octets (xs ++ ys)
Octets-append [] ys o p k = p k
Octets-append (x ∷ xs) ys o p zero = o 0
Octets-append (x ∷ xs) ys o p (suc k) = Octets-append xs ys (λ i. o (suc i)) p k

pub Octets-drop : (xs : List ℕ) (at : ℕ) → Octets xs → Octets (drop at xs)
Octets-drop xs at o k = rw get_or-drop (o (at + k))

pub Octets-take : (xs : List ℕ) (n : ℕ) → Octets xs → Octets (take n xs)
Octets-take xs zero o k = omega arith
Octets-take [] (suc n) o k = omega arith
Octets-take (x ∷ xs) (suc n) o zero = o 0
Octets-take (x ∷ xs) (suc n) o (suc k) = Octets-take xs n (λ i. o (suc i)) k

pub Octets-map : (f : ℕ → ℕ) (xs : List ℕ) → ((x : ℕ) → f x < 256) → Octets (map f xs)
Octets-map f [] h k = lit< tt
Octets-map f (x ∷ xs) h zero = h x
Octets-map f (x ∷ xs) h (suc k) = Octets-map f xs h k

-- the test of byte strings says whether they are equal
pub same_tells : (xs ys : List ℕ) → Decides (same xs ys) (xs ≡ ys)
same_tells = compares_Decides same (search rules)

pub length_two : (n : ℕ) → length (two n) ≡ 2
unfolding two
length_two n = refl

-- the two bytes of a number, read and written again
pub two_again : (xs : List ℕ) (i : ℕ) → Octets xs → i + 2 ≤ length xs → two (two_at xs i) ≡ take 2 (drop i xs)
unfolding two two_at
two_again xs i o h =
    let a = o i in
    let b = o (i + 1) in
    let high : (get_or xs i 0 * 256 + get_or xs (i + 1) 0) / 256 % 256 ≡ get_or xs i 0 = omega arith in
    let low : (get_or xs i 0 * 256 + get_or xs (i + 1) 0) % 256 ≡ get_or xs (i + 1) 0 = omega arith in
    let next : i + 1 ≡ suc i = omega arith in
    (λ j. high j ∷ low j ∷ [])
    ∙ sym (ap (take 2) (drop-cons xs i 0 (omega arith)) ∙ (λ j. get_or xs i 0 ∷ take 1 (drop (sym next j) xs)) ∙ ap (λ (l : List ℕ). get_or xs i 0 ∷ take 1 l) (drop-cons xs (i + 1) 0 (omega arith)))

-- a number, written as two bytes and read again
pub two_read : (front back : List ℕ) (n : ℕ) → n < 65536 → two_at (front ++ (two n ++ back)) (length front) ≡ n
unfolding two two_at
two_read front back n h =
    let zero : length front + 0 ≡ length front = omega arith in
    let high : get_or (front ++ (two n ++ back)) (length front) 0 ≡ n / 256 % 256 =
    sym (ap (λ (k : ℕ). get_or (front ++ (two n ++ back)) k 0) zero) ∙ get_or-append-add front (two n ++ back) 0 0
    in
    let low : get_or (front ++ (two n ++ back)) (length front + 1) 0 ≡ n % 256 = get_or-append-add front (two n ++ back) 1 0 in
    (λ j. high j * 256 + low j) ∙ omega arith

pub Octets-two : (n : ℕ) → Octets (two n)
unfolding two
Octets-two n zero = omega arith
Octets-two n (suc zero) = omega arith
Octets-two n (suc (suc k)) = omega arith

pub two_at_small : (xs : List ℕ) (i : ℕ) → Octets xs → two_at xs i < 2 ^ 16
unfolding two_at
two_at_small xs i o =
    let a = o i in
    let b = o (i + 1) in
    omega arith

pub length_four : (n : ℕ) → length (four n) ≡ 4
unfolding four
length_four n = refl

pub Octets-four : (n : ℕ) → Octets (four n)
unfolding four
Octets-four n zero = omega arith
Octets-four n (suc zero) = omega arith
Octets-four n (suc (suc zero)) = omega arith
Octets-four n (suc (suc (suc zero))) = omega arith
Octets-four n (suc (suc (suc (suc k)))) = omega arith

pub four_at_small : (xs : List ℕ) (i : ℕ) → Octets xs → four_at xs i < 2 ^ 32
unfolding four_at
four_at_small xs i o =
    let a = o i in
    let b = o (i + 1) in
    let c = o (i + 2) in
    let d = o (i + 3) in
    omega arith

-- four bytes of a number are the two of its upper half and the two of its lower half
four_halves : (a b : ℕ) → a < 65536 → b < 65536 → four (a * 65536 + b) ≡ two a ++ two b
unfolding four two
four_halves a b h g =
    let n = a * 65536 + b in
    let b0 : n / 16777216 % 256 ≡ a / 256 % 256 = omega arith in
    let b1 : n / 65536 % 256 ≡ a % 256 = omega arith in
    let b2 : n / 256 % 256 ≡ b / 256 % 256 = omega arith in
    let b3 : n % 256 ≡ b % 256 = omega arith in
    λ i. b0 i ∷ b1 i ∷ b2 i ∷ b3 i ∷ []

pub four_at_halves : (xs : List ℕ) (i : ℕ) → four_at xs i ≡ two_at xs i * 65536 + two_at xs (i + 2)
unfolding four_at two_at
four_at_halves xs i =
    let next : i + 2 + 1 ≡ i + 3 = omega arith in
    rw next (omega arith)

-- the four bytes of a number, read and written again
pub four_again : (xs : List ℕ) (i : ℕ) → Octets xs → i + 4 ≤ length xs → four (four_at xs i) ≡ take 4 (drop i xs)
four_again xs i o h =
    ap four (four_at_halves xs i)
    ∙ four_halves (two_at xs i) (two_at xs (i + 2)) (two_at_small xs i o) (two_at_small xs (i + 2) o)
    ∙ ap₂ (λ (front back : List ℕ). front ++ back) (two_again xs i o (omega arith)) (two_again xs (i + 2) o (omega arith))
    ∙ ap (λ (back : List ℕ). take 2 (drop i xs) ++ take 2 back) (sym (drop-drop 2 i xs))
    ∙ sym (take-add 2 2 (drop i xs))

-- a number, written as four bytes and read again
pub four_read : (front back : List ℕ) (n : ℕ) → n < 2 ^ 32 → four_at (front ++ (four n ++ back)) (length front) ≡ n
unfolding four four_at
four_read front back n h =
    let zero : length front + 0 ≡ length front = omega arith in
    let at : (k : ℕ) → get_or (front ++ (four n ++ back)) (length front + k) 0 ≡ get_or (four n ++ back) k 0 =
    λ k. get_or-append-add front (four n ++ back) k 0
    in
    let b0 : get_or (front ++ (four n ++ back)) (length front) 0 ≡ n / 16777216 % 256 =
    sym (ap (λ (k : ℕ). get_or (front ++ (four n ++ back)) k 0) zero) ∙ at 0
    in
    let b1 : get_or (front ++ (four n ++ back)) (length front + 1) 0 ≡ n / 65536 % 256 = at 1 in
    let b2 : get_or (front ++ (four n ++ back)) (length front + 2) 0 ≡ n / 256 % 256 = at 2 in
    let b3 : get_or (front ++ (four n ++ back)) (length front + 3) 0 ≡ n % 256 = at 3 in
    (λ j. b0 j * 16777216 + b1 j * 65536 + b2 j * 256 + b3 j) ∙ omega arith

-- a union is zero exactly where each byte is
pub united_none : (xs : List ℕ) → united xs ≡ 0 ↔ ((k : ℕ) → get_or xs k 0 ≡ 0)
united_none xs = (λ e. (none 0 xs e).1, zeros xs)
  where
    none : (d : ℕ) (ys : List ℕ) → fold bit_or d ys ≡ 0 → (d ≡ 0) × ((k : ℕ) → get_or ys k 0 ≡ 0)
    none d [] e = (e, λ k. refl)
    none d (y ∷ ys) e =
        let rest = none (bit_or d y) ys e in
        let union = rest.0 in
        let left = le_or_l d y in
        let right = le_or_r d y in
        let first : y ≡ 0 = omega arith in
        (omega arith, λ k. elim k as (λ (n : ℕ). get_or (y ∷ ys) n 0 ≡ 0) [ zero ↦ first | suc n ↦ rest.1 n ])

    zeros : (ys : List ℕ) → ((k : ℕ) → get_or ys k 0 ≡ 0) → united ys ≡ 0
    zeros [] z = refl
    zeros (y ∷ ys) z = ap (λ (b : ℕ). fold bit_or b ys) (z 0) ∙ zeros ys (λ k. z (suc k))
