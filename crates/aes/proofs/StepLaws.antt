-- The steps of a round on planes are those of each state.
use Rattle.std.proofs.Common.{◌≡◌, ℕ, ◌+◌, ◌*◌, ◌/◌, ◌%◌, ◌^◌, ◌<◌, List, [], ◌∷◌, map, length, get_or, sym, refl, ap, ◌∙◌, ap₂, arith, map-id}
use Rattle.std.specs.Int.{bit_at}
use Rattle.std.specs.List.{range_with_len}
use Rattle.std.specs.Simd.Lanes.{Each1, number_l, zip2}
use Rattle.std.proofs.lemmas.List.FromFn.{fill_by_all, get_or-map-range_with_len}
use Rattle.std.proofs.lemmas.Simd.{map-map, zip2_of_maps}
use Rattle.planes.specs.declared.Planes.{Planes}
use Rattle.planes.specs.Planes.{byte, state, states}
use Rattle.planes.proofs.LaneLaws.{Octets-bytes_of, Octets-picked, bit_of_bytes, bit_of_lanes, bytes_of, lanes_of, picked, picked_at}
use Rattle.planes.proofs.BitLaws.{same_below}
use Rattle.planes.proofs.PlaneLaws.{map_same, sums_of_maps, number, states_from}
use Rattle.units.specs.Sums.{◌⊕◌, sums}
use Rattle.units.proofs.SumLaws.{terms}
use Rattle.byte_field.specs.ByteField.{ByteFieldStands, mul, xtime}
use Rattle.aes.specs.Cipher.{at, mix_columns, shift_rows, state_of}
use Rattle.aes.specs.Steps.{turned, Moved, next_column, row_below, same_column, same_row}

-- ---- bytes that move

at_state : (q : Planes) (b r c : ℕ) → r < 4 → c < 4 → at (state q b) r c ≡ number r (8 * c + b) q
unfolding state byte
at_state q b r c lr lc =
    get_or-map-range_with_len (λ k. byte q b (k % 4) (k / 4)) 0 16 (r + 4 * c) (r + 4 * c) 0 (omega arith) (omega arith)
    ∙ ap₂ (byte q b) (let e : (r + 4 * c) % 4 ≡ r = omega arith in e) (let e : (r + 4 * c) / 4 ≡ c = omega arith in e)

eight_same :
    (a0 a1 a2 a3 a4 a5 a6 a7 b0 b1 b2 b3 b4 b5 b6 b7 : ℕ) → a0 ≡ b0 → a1 ≡ b1 → a2 ≡ b2 → a3 ≡ b3 → a4 ≡ b4 → a5 ≡ b5 → a6 ≡ b6 → a7 ≡ b7
    → number_l 2 (a0 ∷ a1 ∷ a2 ∷ a3 ∷ a4 ∷ a5 ∷ a6 ∷ a7 ∷ []) ≡ number_l 2 (b0 ∷ b1 ∷ b2 ∷ b3 ∷ b4 ∷ b5 ∷ b6 ∷ b7 ∷ [])
eight_same a0 a1 a2 a3 a4 a5 a6 a7 b0 b1 b2 b3 b4 b5 b6 b7 e0 e1 e2 e3 e4 e5 e6 e7 = cc

-- a function of a state on each of the states, where it takes each byte by its row and column
states_by : (p : Planes) (f : List ℕ → ℕ → ℕ → ℕ) (g : ℕ → ℕ → ℕ → ℕ) → ((b r c : ℕ) → b < 8 → r < 4 → c < 4 → g b r c ≡ f (state p b) r c)
    → map (λ b. map (λ k. g b (k % 4) (k / 4)) (range_with_len 0 16)) (range_with_len 0 8) ≡ map (λ s. state_of (f s)) (states p)
unfolding states
states_by p f g h =
    map_same (λ b. map (λ k. g b (k % 4) (k / 4)) (range_with_len 0 16)) (λ b. state_of (f (state p b))) [] 8
    (λ b lb. map_same (λ k. g b (k % 4) (k / 4)) (λ k. f (state p b) (k % 4) (k / 4)) 0 16 (λ k lk. h b (k % 4) (k / 4) lb (omega arith) (omega arith)))
    ∙ sym (map-map (λ s. state_of (f s)) (state p) (range_with_len 0 8))

module _ (row : ℕ → ℕ) (column : ℕ → ℕ → ℕ) (row_lt : (r : ℕ) → r < 4 → row r < 4) (column_lt : (r c : ℕ) → r < 4 → c < 4 → column r c < 4) where
  bytes_moved :
      (p q : Planes)
      → Moved row column p.p0 q.p0 → Moved row column p.p1 q.p1 → Moved row column p.p2 q.p2 → Moved row column p.p3 q.p3
      → Moved row column p.p4 q.p4 → Moved row column p.p5 q.p5 → Moved row column p.p6 q.p6 → Moved row column p.p7 q.p7
      → states q ≡ map (λ s. state_of (λ r c. at s (row r) (column r c))) (states p)
  bytes_moved p q m0 m1 m2 m3 m4 m5 m6 m7 =
      states_from q (λ b r c. number (row r) (8 * column r c + b) p)
      (λ b r c lb lr lc.
      eight_same _ _ _ _ _ _ _ _ _ _ _ _ _ _ _ _ (m0.moved r c b lr lc lb) (m1.moved r c b lr lc lb) (m2.moved r c b lr lc lb) (m3.moved r c b lr lc lb)
      (m4.moved r c b lr lc lb) (m5.moved r c b lr lc lb) (m6.moved r c b lr lc lb) (m7.moved r c b lr lc lb))
      ∙ states_by p (λ s r c. at s (row r) (column r c)) (λ b r c. number (row r) (8 * column r c + b) p)
      (λ b r c lb lr lc. sym (at_state p b (row r) (column r c) (row_lt r lr) (column_lt r c lr lc)))

-- ---- ShiftRows

pub rows_shifted :
    (p q : Planes)
    → Moved same_row next_column p.p0 q.p0 → Moved same_row next_column p.p1 q.p1 → Moved same_row next_column p.p2 q.p2 → Moved same_row next_column p.p3 q.p3
    → Moved same_row next_column p.p4 q.p4 → Moved same_row next_column p.p5 q.p5 → Moved same_row next_column p.p6 q.p6 → Moved same_row next_column p.p7 q.p7
    → states q ≡ map shift_rows (states p)
unfolding shift_rows
rows_shifted p q = bytes_moved same_row next_column (λ r h. h) (λ r c h l. omega arith) p q

abbrev columns : List ℕ
columns = 0 ∷ 1 ∷ 2 ∷ 3 ∷ 5 ∷ 6 ∷ 7 ∷ 4 ∷ 10 ∷ 11 ∷ 8 ∷ 9 ∷ 15 ∷ 12 ∷ 13 ∷ 14 ∷ []

columns_at : (m : ℕ) → m < 16 → get_or columns m 0 ≡ m / 4 * 4 + (m % 4 + m / 4) % 4
columns_at = same_below (λ m. get_or columns m 0) (λ m. m / 4 * 4 + (m % 4 + m / 4) % 4) 16 refl

pub row_shifted : (x : List ℕ) → Each1 (λ lane. lane < 2 ^ 32) x → Moved same_row next_column x (lanes_of (picked (bytes_of x) columns))
row_shifted x small = record {
  moved = λ r c b lr lc lb.
      let m = 4 * r + c in
      let at : get_or columns m 0 ≡ 4 * r + (c + r) % 4 = columns_at m (omega arith) ∙ (let e : m / 4 * 4 + (m % 4 + m / 4) % 4 ≡ 4 * r + (c + r) % 4 = omega arith in e) in
      bit_of_lanes (picked (bytes_of x) columns) r c b (Octets-picked (bytes_of x) columns (Octets-bytes_of x)) lr lc lb
      ∙ ap (λ (n : ℕ). bit_at n b) (picked_at (bytes_of x) columns m refl (omega arith) (omega (arith, at)) ∙ ap (λ (k : ℕ). get_or (bytes_of x) k 0) at)
      ∙ bit_of_bytes x r ((c + r) % 4) b small lr (omega arith) lb;
}

-- ---- MixColumns

abbrev pub Turned : ℕ → List ℕ → List ℕ → Type 0
Turned n x y = Moved (row_below n) same_column x y

pub rows_turned :
    (n : ℕ) (p q : Planes)
    → Turned n p.p0 q.p0 → Turned n p.p1 q.p1 → Turned n p.p2 q.p2 → Turned n p.p3 q.p3
    → Turned n p.p4 q.p4 → Turned n p.p5 q.p5 → Turned n p.p6 q.p6 → Turned n p.p7 q.p7
    → states q ≡ map (turned n) (states p)
unfolding turned
rows_turned n p q = bytes_moved (row_below n) same_column (λ r h. omega arith) (λ r c h l. l) p q

state_of_same : (f g : ℕ → ℕ → ℕ) → ((r c : ℕ) → r < 4 → c < 4 → f r c ≡ g r c) → state_of f ≡ state_of g
state_of_same f g h = map_same (λ k. f (k % 4) (k / 4)) (λ k. g (k % 4) (k / 4)) 0 16 (λ k l. h (k % 4) (k / 4) (omega arith) (omega arith))

sums_state_of : (f g : ℕ → ℕ → ℕ) → sums (state_of f) (state_of g) ≡ state_of (λ r c. f r c ⊕ g r c)
sums_state_of f g = sums_of_maps (λ k. f (k % 4) (k / 4)) (λ k. g (k % 4) (k / 4)) (range_with_len 0 16)

at_state_of : (f : ℕ → ℕ → ℕ) (r c : ℕ) → r < 4 → c < 4 → at (state_of f) r c ≡ f r c
at_state_of f r c lr lc =
    get_or-map-range_with_len (λ k. f (k % 4) (k / 4)) 0 16 (r + 4 * c) (r + 4 * c) 0 (omega arith) (omega arith)
    ∙ ap₂ f (let e : (r + 4 * c) % 4 ≡ r = omega arith in e) (let e : (r + 4 * c) / 4 ≡ c = omega arith in e)

whole_state : (s : List ℕ) → length s ≡ 16 → s ≡ state_of (at s)
whole_state s l = fill_by_all (λ k. at s (k % 4) (k / 4)) s 16 0 l (λ k h. ap (λ (m : ℕ). get_or s m 0) (let e : k ≡ k % 4 + 4 * (k / 4) = omega arith in e))

sum_of_five : (a b c d x y : ℕ) → (b ⊕ (c ⊕ d)) ⊕ (x ⊕ y) ≡ x ⊕ (b ⊕ y) ⊕ c ⊕ d
sum_of_five a b c d x y = simp terms

-- by the laws of the bytes: 3 is 1 ⊕ 2, and 2 is x
one_byte : ByteFieldStands → (a b c d : ℕ) → (b ⊕ (c ⊕ d)) ⊕ xtime (a ⊕ b) ≡ mul 2 a ⊕ mul 3 b ⊕ mul 1 c ⊕ mul 1 d
one_byte bytes a b c d =
    let two : (x : ℕ) → mul 2 x ≡ xtime x = λ x. sym (bytes.times_x x) in
    let three : (x : ℕ) → mul 3 x ≡ x ⊕ xtime x = λ x. bytes.additive_left 1 2 x ∙ ap₂ (λ (m n : ℕ). m ⊕ n) (bytes.one_is x) (two x) in
    let sum : xtime (a ⊕ b) ≡ xtime a ⊕ xtime b =
    bytes.times_x (a ⊕ b) ∙ bytes.additive_right 2 a b ∙ ap₂ (λ (m n : ℕ). m ⊕ n) (two a) (two b)
    in
    rw (two a, three b, bytes.one_is c, bytes.one_is d, sum) (sum_of_five a b c d (xtime a) (xtime b))

-- MixColumns as it is computed
abbrev mixed : List ℕ → List ℕ
mixed s = let pair = sums s (turned 1 s) in sums (sums (turned 1 s) (turned 2 pair)) (map xtime pair)

mixed_is : ByteFieldStands → (s : List ℕ) → length s ≡ 16 → mixed s ≡ mix_columns s
unfolding turned mix_columns
mixed_is bytes s l =
    let below = λ (n r c : ℕ). at s ((r + n) % 4) c in
    let P = λ (r c : ℕ). at s r c ⊕ below 1 r c in
    let pair : sums s (turned 1 s) ≡ state_of P = ap (λ (x : List ℕ). sums x (turned 1 s)) (whole_state s l) ∙ sums_state_of (at s) (below 1) in
    let far : turned 2 (sums s (turned 1 s)) ≡ state_of (λ r c. P ((r + 2) % 4) c) = ap (turned 2) pair ∙ state_of_same _ _ (λ r c lr lc. at_state_of P ((r + 2) % 4) c (omega arith) lc) in
    let twice : map xtime (sums s (turned 1 s)) ≡ state_of (λ r c. xtime (P r c)) = ap (map xtime) pair ∙ map-map xtime (λ k. P (k % 4) (k / 4)) (range_with_len 0 16) in
    ap₂ (λ (x y : List ℕ). sums (sums (turned 1 s) x) y) far twice
    ∙ ap (λ (x : List ℕ). sums x (state_of (λ r c. xtime (P r c)))) (sums_state_of (below 1) (λ r c. P ((r + 2) % 4) c))
    ∙ sums_state_of (λ r c. below 1 r c ⊕ P ((r + 2) % 4) c) (λ r c. xtime (P r c))
    ∙ state_of_same (λ r c. (below 1 r c ⊕ P ((r + 2) % 4) c) ⊕ xtime (P r c)) (λ r c. mul 2 (at s r c) ⊕ mul 3 (below 1 r c) ⊕ mul 1 (below 2 r c) ⊕ mul 1 (below 3 r c))
    (λ r c lr lc.
    ap (λ (m : ℕ). (below 1 r c ⊕ (below 2 r c ⊕ at s m c)) ⊕ xtime (P r c)) (let e : ((r + 2) % 4 + 1) % 4 ≡ (r + 3) % 4 = omega arith in e)
    ∙ one_byte bytes (at s r c) (below 1 r c) (below 2 r c) (below 3 r c))

-- what holds of every state of sixteen bytes holds of each of the eight
states_each : (f g : List ℕ → List ℕ) (q : Planes) → ((s : List ℕ) → length s ≡ 16 → f s ≡ g s) → map f (states q) ≡ map g (states q)
unfolding states state
states_each f g q h =
    map-map f (state q) (range_with_len 0 8)
    ∙ map_same (λ b. f (state q b)) (λ b. g (state q b)) [] 8 (λ b l. h (state q b) refl)
    ∙ sym (map-map g (state q) (range_with_len 0 8))

pub columns_mixed :
    ByteFieldStands
    → (q next pairs far sum twice r : Planes)
    → states next ≡ map (turned 1) (states q)
    → states pairs ≡ zip2 sums (states q) (states next)
    → states far ≡ map (turned 2) (states pairs)
    → states sum ≡ zip2 sums (states next) (states far)
    → states twice ≡ map (map xtime) (states pairs)
    → states r ≡ zip2 sums (states sum) (states twice)
    → states r ≡ map mix_columns (states q)
columns_mixed bytes q next pairs far sum twice r a b c d e f =
    let ss = states q in
    let pair : List ℕ → List ℕ = λ s. sums s (turned 1 s) in
    let b' : states pairs ≡ map pair ss = b ∙ zip2_of_maps sums (λ s. s) (turned 1) ss (sym (map-id ss)) a in
    let c' : states far ≡ map (λ s. turned 2 (pair s)) ss = c ∙ ap (map (turned 2)) b' ∙ map-map (turned 2) pair ss in
    let d' : states sum ≡ map (λ s. sums (turned 1 s) (turned 2 (pair s))) ss = d ∙ zip2_of_maps sums (turned 1) (λ s. turned 2 (pair s)) ss a c' in
    let e' : states twice ≡ map (λ s. map xtime (pair s)) ss = e ∙ ap (map (map xtime)) b' ∙ map-map (map xtime) pair ss in
    f ∙ zip2_of_maps sums (λ s. sums (turned 1 s) (turned 2 (pair s))) (λ s. map xtime (pair s)) ss d' e' ∙ states_each mixed mix_columns q (mixed_is bytes)
