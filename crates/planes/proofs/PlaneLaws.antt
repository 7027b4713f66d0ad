-- The bytes and the states that planes hold.
use Rattle.std.proofs.Common.{◌≡◌, ℕ, ◌+◌, ◌*◌, ◌/◌, ◌%◌, ◌^◌, ◌<◌, List, [], ◌∷◌, map, length, get_or, sym, refl, ap, ◌∙◌, ap₂, mod-lt, arith, lit<, bit_xor}
use Rattle.std.specs.Int.{bit_at}
use Rattle.std.specs.List.{range_with_len}
use Rattle.std.specs.Simd.Lanes.{Each1, number_l, zip2}
use Rattle.std.proofs.lemmas.List.FromFn.{fill_by_all, get_or-map-range_with_len, length-map-range_with_len}
use Rattle.std.proofs.lemmas.Nat.{xor_block}
use Rattle.std.proofs.lemmas.Simd.{zip2-map}
use Rattle.units.specs.Sums.{◌⊕◌, sums}
use Rattle.planes.specs.declared.Planes.{Planes}
use Rattle.planes.specs.Planes.{bit, byte, planes, state, states}
use Rattle.planes.proofs.BitLaws.{bit_at_sum, lane}

-- ---- lists from a function of the index

pub map_same : {X : Type 0} (f g : ℕ → X) (d : X) (n : ℕ) → ((k : ℕ) → k < n → f k ≡ g k) → map f (range_with_len 0 n) ≡ map g (range_with_len 0 n)
map_same f g d n h =
    fill_by_all g (map f (range_with_len 0 n)) n d (length-map-range_with_len f 0 n) (λ k l. get_or-map-range_with_len f 0 n k k d l (omega arith) ∙ h k l)

sums_is : (xs ys : List ℕ) → sums xs ys ≡ zip2 bit_xor xs ys
sums_is [] ys = refl
sums_is (x ∷ xs) [] = refl
sums_is (x ∷ xs) (y ∷ ys) = ap (λ (zs : List ℕ). (x ⊕ y) ∷ zs) (sums_is xs ys)

-- ---- the byte at a place

-- the byte in a row and at a place of the lanes
abbrev pub number : ℕ → ℕ → Planes → ℕ
number row place q = number_l 2 (map (bit row place) (planes q))

-- planes hold states as soon as each of their bytes is right
pub states_from : (q : Planes) (f : ℕ → ℕ → ℕ → ℕ) → ((b row column : ℕ) → b < 8 → row < 4 → column < 4 → number row (8 * column + b) q ≡ f b row column)
    → states q ≡ map (λ b. map (λ k. f b (k % 4) (k / 4)) (range_with_len 0 16)) (range_with_len 0 8)
unfolding states state byte
states_from q f h =
    map_same _ _ [] 8 (λ b lb. map_same _ _ 0 16 (λ k lk. h b (k % 4) (k / 4) lb (omega arith) (omega arith)))

-- ---- sums

-- each plane has four lanes
abbrev pub FourLanes : List (List ℕ) → Type 0
FourLanes ps = Each1 (λ p. length p ≡ 4) ps

bit_xor_lanes : (row place : ℕ) (xs ys : List ℕ) → row < 4 → length xs ≡ 4 → length ys ≡ 4 → bit row place (zip2 bit_xor xs ys) ≡ bit row place xs ⊕ bit row place ys
bit_xor_lanes row place xs ys h l m =
    ap (λ (n : ℕ). bit_at n place) (lane bit_xor xs ys row h l m) ∙ bit_at_sum (get_or xs row 0) (get_or ys row 0) place

-- a number in front, as its lowest bit
bit_front : (x y m n : ℕ) → x < 2 → y < 2 → (x ⊕ y) + 2 * (m ⊕ n) ≡ (x + 2 * m) ⊕ (y + 2 * n)
bit_front x y m n hx hy =
    let e : (p q : ℕ) → p + 2 * q ≡ q * 2 ^ 1 + p = λ p q. omega arith in
    e (x ⊕ y) (m ⊕ n) ∙ sym (xor_block 1 m n x y hx hy) ∙ sym (ap₂ bit_xor (e x m) (e y n))

sum_of_planes : (row place : ℕ) (ps qs : List (List ℕ)) → row < 4 → length ps ≡ length qs → FourLanes ps → FourLanes qs
    → number_l 2 (map (bit row place) (zip2 (zip2 bit_xor) ps qs)) ≡ number_l 2 (map (bit row place) ps) ⊕ number_l 2 (map (bit row place) qs)
sum_of_planes row place [] [] h e f g = refl
sum_of_planes row place [] (q ∷ qs) h e f g = absurd (omega arith)
sum_of_planes row place (p ∷ ps) [] h e f g = absurd (omega arith)
sum_of_planes row place (p ∷ ps) (q ∷ qs) h e f g =
    ap₂ (λ (x n : ℕ). x + 2 * n) (bit_xor_lanes row place p q h f.0 g.0) (sum_of_planes row place ps qs h (omega arith) f.1 g.1)
    ∙ bit_front (bit row place p) (bit row place q) _ _ (mod-lt _ (lit< tt)) (mod-lt _ (lit< tt))

pub sums_of_maps : (f g : ℕ → ℕ) (ks : List ℕ) → sums (map f ks) (map g ks) ≡ map (λ k. f k ⊕ g k) ks
sums_of_maps f g ks = sums_is (map f ks) (map g ks) ∙ zip2-map bit_xor f g ks

-- planes added one by one
abbrev pub added : Planes → Planes → Planes
added p q = record {
  p0 = zip2 bit_xor p.p0 q.p0;
  p1 = zip2 bit_xor p.p1 q.p1;
  p2 = zip2 bit_xor p.p2 q.p2;
  p3 = zip2 bit_xor p.p3 q.p3;
  p4 = zip2 bit_xor p.p4 q.p4;
  p5 = zip2 bit_xor p.p5 q.p5;
  p6 = zip2 bit_xor p.p6 q.p6;
  p7 = zip2 bit_xor p.p7 q.p7;
}

pub states_added : (p q : Planes) → FourLanes (planes p) → FourLanes (planes q) → states (added p q) ≡ zip2 sums (states p) (states q)
unfolding states state byte
states_added p q f g =
    let at : (q : Planes) (b k : ℕ) → ℕ = λ q b k. number (k % 4) (8 * (k / 4) + b) q in
    states_from (added p q) (λ b r c. number r (8 * c + b) p ⊕ number r (8 * c + b) q) (λ b r c lb lr lc. sum_of_planes r (8 * c + b) (planes p) (planes q) lr refl f g)
    ∙ sym (zip2-map sums (state p) (state q) (range_with_len 0 8)
    ∙ map_same (λ b. sums (state p b) (state q b)) (λ b. map (λ k. at p b k ⊕ at q b k) (range_with_len 0 16)) [] 8
    (λ b lb. sums_of_maps (at p b) (at q b) (range_with_len 0 16)))
