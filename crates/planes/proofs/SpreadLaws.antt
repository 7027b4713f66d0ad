-- The bytes of a state in the lanes of a vector, and in eight planes.
use Rattle.std.proofs.Common.{◌≡◌, ℕ, ◌+◌, ◌*◌, ◌/◌, ◌%◌, ◌^◌, ◌<◌, List, [], ◌∷◌, map, length, get_or, sym, refl, ap, ◌∙◌, arith, lit<}
use Rattle.std.specs.Int.{bit_at}
use Rattle.std.specs.List.{range_with_len}
use Rattle.std.specs.Simd.Lanes.{Each1, number_l}
use Rattle.std.proofs.lemmas.List.FromFn.{fill_by_all}
use Rattle.units.specs.Strings.{Octets}
use Rattle.planes.specs.declared.Planes.{Planes}
use Rattle.planes.specs.Planes.{bit, planes, states}
use Rattle.planes.specs.Exchanges.{Spread, Transposed, plane}
use Rattle.planes.proofs.LaneLaws.{Octets-bytes_of, Octets-picked, bit_of_bytes, bit_of_lanes, bytes_of, lanes_of, picked, picked_at}
use Rattle.planes.proofs.BitLaws.{same_below}
use Rattle.planes.proofs.ExchangeLaws.{below_eight}
use Rattle.planes.proofs.PlaneLaws.{map_same, states_from}

all_of : {X : Type 0} (xs : List X) (n : ℕ) (d : X) → length xs ≡ n → map (λ k. get_or xs k d) (range_with_len 0 n) ≡ xs
all_of xs n d l = sym (fill_by_all (λ k. get_or xs k d) xs n d l (λ k h. refl))

-- ---- bits of bytes

byte_of_bits : (x : ℕ) → x < 256 → number_l 2 (map (bit_at x) (range_with_len 0 8)) ≡ x
byte_of_bits = same_below (λ x. number_l 2 (map (bit_at x) (range_with_len 0 8))) (λ x. x) 256 refl

-- ---- one vector

abbrev rows : List ℕ
rows = 0 ∷ 4 ∷ 8 ∷ 12 ∷ 1 ∷ 5 ∷ 9 ∷ 13 ∷ 2 ∷ 6 ∷ 10 ∷ 14 ∷ 3 ∷ 7 ∷ 11 ∷ 15 ∷ []

rows_at : (m : ℕ) → m < 16 → get_or rows m 0 ≡ m / 4 + 4 * (m % 4)
rows_at = same_below (λ m. get_or rows m 0) (λ m. m / 4 + 4 * (m % 4)) 16 refl

-- the bytes in the order of the rows, and back: rows and columns are exchanged
in_rows : (xs : List ℕ) (i j : ℕ) → length xs ≡ 16 → i < 4 → j < 4 → get_or (picked xs rows) (4 * i + j) 0 ≡ get_or xs (i + 4 * j) 0
in_rows xs i j l hi hj =
    let m = 4 * i + j in
    let at : get_or rows m 0 ≡ i + 4 * j = rows_at m (omega arith) ∙ (let e : m / 4 + 4 * (m % 4) ≡ i + 4 * j = omega arith in e) in
    picked_at xs rows m l (omega arith) (omega (arith, at)) ∙ ap (λ (k : ℕ). get_or xs k 0) at

pub spread_by_rows : (xs : List ℕ) → length xs ≡ 16 → Octets xs → Spread xs (lanes_of (picked xs rows))
spread_by_rows xs l o = record {
  size = l;
  octets = o;
  there = λ row column j h lc lj. bit_of_lanes (picked xs rows) row column j (Octets-picked xs rows o) h lc lj ∙ ap (λ (n : ℕ). bit_at n j) (in_rows xs row column l h lc);
}

pub collected_by_rows : (xs : List ℕ) → Each1 (λ x. x < 2 ^ 32) xs → Spread (picked (bytes_of xs) rows) xs
collected_by_rows xs small = record {
  size = refl;
  octets = Octets-picked (bytes_of xs) rows (Octets-bytes_of xs);
  there = λ row column j h lc lj.
      sym (ap (λ (n : ℕ). bit_at n j)
      (ap (λ (k : ℕ). get_or (picked (bytes_of xs) rows) k 0) (let e : row + 4 * column ≡ 4 * column + row = omega arith in e)
      ∙ in_rows (bytes_of xs) column row refl lc h
      ∙ ap (λ (k : ℕ). get_or (bytes_of xs) k 0) (let e : column + 4 * row ≡ 4 * row + column = omega arith in e))
      ∙ bit_of_bytes xs row column j small h lc lj);
}

-- ---- eight planes

map_bits :
    (q : Planes) (row place x : ℕ) → ((j : ℕ) → j < 8 → bit row place (plane q j) ≡ bit_at x j)
    → map (bit row place) (planes q) ≡ map (bit_at x) (range_with_len 0 8)
map_bits q row place x h =
    let bits = map (bit row place) (planes q) in
    fill_by_all (bit_at x) bits 8 0 refl
    (below_eight (λ j. get_or bits j 0 ≡ bit_at x j)
    (h 0 (lit< tt)) (h 1 (lit< tt)) (h 2 (lit< tt)) (h 3 (lit< tt)) (h 4 (lit< tt)) (h 5 (lit< tt)) (h 6 (lit< tt)) (h 7 (lit< tt)))

module _ (xss : List (List ℕ)) (l : length xss ≡ 8) where
  abbrev at : ℕ → ℕ → ℕ
  at b k = get_or (get_or xss b []) k 0

  -- planes that hold given states, bit by bit
  held : (q : Planes) → ((b : ℕ) → b < 8 → length (get_or xss b []) ≡ 16) → ((b : ℕ) → b < 8 → Octets (get_or xss b []))
      → ((row column b j : ℕ) → row < 4 → column < 4 → b < 8 → j < 8 → bit row (8 * column + b) (plane q j) ≡ bit_at (at b (row + 4 * column)) j)
      → states q ≡ xss
  held q m o there =
      states_from q (λ b r c. at b (r + 4 * c)) (λ b r c lb lr lc.
      ap (number_l 2) (map_bits q r (8 * c + b) (at b (r + 4 * c)) (λ j lj. there r c b j lr lc lb lj))
      ∙ byte_of_bits (at b (r + 4 * c)) (o b lb (r + 4 * c)))
      ∙ map_same (λ b. map (λ k. at b (k % 4 + 4 * (k / 4))) (range_with_len 0 16)) (λ b. get_or xss b []) [] 8
      (λ b lb.
      map_same (λ k. at b (k % 4 + 4 * (k / 4))) (at b) 0 16 (λ k lk. ap (at b) (let e : k % 4 + 4 * (k / 4) ≡ k = omega arith in e))
      ∙ all_of (get_or xss b []) 16 0 (m b lb))
      ∙ all_of xss 8 [] l

  module _ (s q : Planes)
      (s0 : Spread (get_or xss 0 []) s.p0) (s1 : Spread (get_or xss 1 []) s.p1) (s2 : Spread (get_or xss 2 []) s.p2) (s3 : Spread (get_or xss 3 []) s.p3)
      (s4 : Spread (get_or xss 4 []) s.p4) (s5 : Spread (get_or xss 5 []) s.p5) (s6 : Spread (get_or xss 6 []) s.p6) (s7 : Spread (get_or xss 7 []) s.p7) where
    spread : (b : ℕ) → b < 8 → Spread (get_or xss b []) (plane s b)
    spread = below_eight (λ b. Spread (get_or xss b []) (plane s b)) s0 s1 s2 s3 s4 s5 s6 s7

    pub from_states : Transposed s q → states q ≡ xss
    from_states turned =
        held q (λ b lb. (spread b lb).size) (λ b lb. (spread b lb).octets)
        (λ row column b j lr lc lb lj. turned.moved row column b j lr lc lb lj ∙ (spread b lb).there row column j lr lc lj)

    into_states : Transposed q s → xss ≡ states q
    into_states turned =
        sym (held q (λ b lb. (spread b lb).size) (λ b lb. (spread b lb).octets)
        (λ row column b j lr lc lb lj. sym (turned.moved row column j b lr lc lj lb) ∙ (spread b lb).there row column j lr lc lj))

pub to_states :
    (b0 b1 b2 b3 b4 b5 b6 b7 : List ℕ) (s q : Planes)
    → Spread b0 s.p0 → Spread b1 s.p1 → Spread b2 s.p2 → Spread b3 s.p3
    → Spread b4 s.p4 → Spread b5 s.p5 → Spread b6 s.p6 → Spread b7 s.p7
    → Transposed q s → (b0 ∷ b1 ∷ b2 ∷ b3 ∷ b4 ∷ b5 ∷ b6 ∷ b7 ∷ []) ≡ states q
to_states b0 b1 b2 b3 b4 b5 b6 b7 s q s0 s1 s2 s3 s4 s5 s6 s7 turned = into_states (b0 ∷ b1 ∷ b2 ∷ b3 ∷ b4 ∷ b5 ∷ b6 ∷ b7 ∷ []) refl s q s0 s1 s2 s3 s4 s5 s6 s7 turned
