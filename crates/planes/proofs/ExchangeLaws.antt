-- The bits that two planes exchange.
use Rattle.std.proofs.Common.{◌≡◌, ℕ, zero, suc, ◌+◌, ◌-◌, ◌*◌, ◌/◌, ◌%◌, ◌^◌, ◌<◌, ◌≤◌, List, length, get_or, replicate, ⊎_elim, sym, refl, ap, ◌∙◌, ap₂, mod-lt, arith, lit<, bit_and, bit_xor, min}
use Rattle.std.specs.Simd.Lanes.{zip2}
use Rattle.std.proofs.lemmas.Bool.{cases_lt}
use Rattle.std.proofs.Math.Nat.{div-eq_of_lt, div-eq-sub-div}
use Rattle.std.proofs.lemmas.Nat.{shr-shr}
use Rattle.std.proofs.lemmas.Nat.Bits.{bit_at_and, bit_at-lt}
use Rattle.std.specs.Int.{bit_at}
use Rattle.std.specs.Int.Bits.{xor_zero_r}
use Rattle.std.proofs.lemmas.Simd.{get_or-replicate}
use Rattle.units.specs.Sums.{◌⊕◌}
use Rattle.units.proofs.SumLaws.{bit_either, terms, xor_cancel}
use Rattle.planes.specs.declared.Planes.{Planes}
use Rattle.planes.proofs.BitLaws.{bit_at-mod, bit_at_sum, four_lanes, lane, same_below, shl, shl_high, shl_low, shr}
use Rattle.planes.specs.Planes.{bit}
use Rattle.planes.specs.Exchanges.{Exchanged, Masks, Stage, Transposed, either, plane, with_bit}

-- ---- masks

pub masks_one : Masks 1 0x55555555
masks_one = same_below (λ k. 0x55555555 / 2 ^ k % 2 + k / 1 % 2) (λ _. 1) 32 refl

pub masks_two : Masks 2 0x33333333
masks_two = same_below (λ k. 0x33333333 / 2 ^ k % 2 + k / 2 % 2) (λ _. 1) 32 refl

pub masks_four : Masks 4 0x0F0F0F0F
masks_four = same_below (λ k. 0x0F0F0F0F / 2 ^ k % 2 + k / 4 % 2) (λ _. 1) 32 refl

-- ---- in one lane

parity_cases : (P : ℕ → Type 0) (m : ℕ) → (m % 2 ≡ 0 → P 0) → (m % 2 ≡ 1 → P 1) → P (m % 2)
parity_cases P m even odd = bit_either (λ d. m % 2 ≡ d → P d) even odd (m % 2) (omega arith) refl

-- one place further down the bit that is worth n is the other
below : (n k : ℕ) → 0 < n → n ≤ k → (k - n) / n % 2 + k / n % 2 ≡ 1
below n k positive h = let e = div-eq-sub-div positive h in omega arith

high_enough : (n k : ℕ) → 0 < n → k / n % 2 ≡ 1 → n ≤ k
high_enough n k positive z = ⊎_elim (λ (h : k < n). let e : k / n ≡ 0 = div-eq_of_lt h in absurd (omega arith)) (λ (h : n ≤ k). h) (cases_lt k n)

-- the bits that differ, where they change
abbrev differing : ℕ → ℕ → ℕ → ℕ → ℕ
differing n mask a b = bit_and (a / 2 ^ n ⊕ b) mask

abbrev lower : ℕ → ℕ → ℕ → ℕ → ℕ
lower n mask a b = a ⊕ differing n mask a b * 2 ^ n % 2 ^ 32

abbrev upper : ℕ → ℕ → ℕ → ℕ → ℕ
upper n mask a b = b ⊕ differing n mask a b

module _ (n mask a b : ℕ) (positive : 0 < n) (masks : Masks n mask) where
  abbrev changed : ℕ
  changed = differing n mask a b

  within : (k : ℕ) → k < 32 → k / n % 2 ≡ 0 → bit_at changed k ≡ bit_at a (n + k) ⊕ bit_at b k
  within k h z =
      let one : bit_at mask k ≡ 1 = omega (arith, masks k h) in
      bit_at_and (a / 2 ^ n ⊕ b) mask k
      ∙ let small = bit_at-lt (a / 2 ^ n ⊕ b) k in (let e : min (bit_at (a / 2 ^ n ⊕ b) k) (bit_at mask k) ≡ bit_at (a / 2 ^ n ⊕ b) k = omega arith in e)
      ∙ bit_at_sum (a / 2 ^ n) b k
      ∙ ap (λ (m : ℕ). m % 2 ⊕ bit_at b k) (shr-shr a n k)

  outside : (k : ℕ) → k < 32 → k / n % 2 ≡ 1 → bit_at changed k ≡ 0
  outside k h z =
      let none : bit_at mask k ≡ 0 = omega (arith, masks k h) in
      bit_at_and (a / 2 ^ n ⊕ b) mask k ∙ (let e : min (bit_at (a / 2 ^ n ⊕ b) k) (bit_at mask k) ≡ 0 = omega arith in e)

  moved : (k : ℕ) → n ≤ k → k < 32 → bit_at (changed * 2 ^ n % 2 ^ 32) k ≡ bit_at changed (k - n)
  moved k h l = bit_at-mod (changed * 2 ^ n) 32 k l ∙ shl_high changed n k h

  lower_even : (k : ℕ) → k < 32 → k / n % 2 ≡ 0 → bit_at (lower n mask a b) k ≡ bit_at a k
  lower_even k l z =
      bit_at_sum a (changed * 2 ^ n % 2 ^ 32) k
      ∙ ap (bit_xor (bit_at a k)) (⊎_elim
      (λ (h : k < n). bit_at-mod (changed * 2 ^ n) 32 k l ∙ shl_low changed n k h)
      (λ (h : n ≤ k). moved k h l ∙ outside (k - n) (omega arith) (omega (arith, below n k positive h)))
      (cases_lt k n))
      ∙ xor_zero_r (bit_at a k)

  lower_odd : (k : ℕ) → k < 32 → k / n % 2 ≡ 1 → bit_at (lower n mask a b) k ≡ bit_at b (k - n)
  lower_odd k l z =
      let h = high_enough n k positive z in
      bit_at_sum a (changed * 2 ^ n % 2 ^ 32) k
      ∙ ap (bit_xor (bit_at a k)) (moved k h l
      ∙ within (k - n) (omega arith) (omega (arith, below n k positive h))
      ∙ ap (λ (m : ℕ). bit_at a m ⊕ bit_at b (k - n)) (let e : n + (k - n) ≡ k = omega arith in e))
      ∙ xor_cancel (bit_at a k) (bit_at b (k - n))

  upper_even : (k : ℕ) → k < 32 → k / n % 2 ≡ 0 → bit_at (upper n mask a b) k ≡ bit_at a (n + k)
  upper_even k l z = bit_at_sum b changed k ∙ ap (bit_xor (bit_at b k)) (within k l z) ∙ (let e : bit_at b k ⊕ (bit_at a (n + k) ⊕ bit_at b k) ≡ bit_at a (n + k) = simp terms in e)

  upper_odd : (k : ℕ) → k < 32 → k / n % 2 ≡ 1 → bit_at (upper n mask a b) k ≡ bit_at b k
  upper_odd k l z = bit_at_sum b changed k ∙ ap (bit_xor (bit_at b k)) (outside k l z) ∙ xor_zero_r (bit_at b k)

  lane_exchanged : (k u : ℕ) → k < 32 → u < 2 → bit_at (either (lower n mask a b) (upper n mask a b) u) k ≡ bit_at (either a b (k / n % 2)) (with_bit n u k)
  lane_exchanged k zero l lu =
      parity_cases (λ d. bit_at (lower n mask a b) k ≡ bit_at (either a b d) (k - d * n + 0 * n)) (k / n)
      (λ z. lower_even k l z ∙ ap (bit_at a) (let e : k ≡ k - 0 * n + 0 * n = omega arith in e))
      (λ z. lower_odd k l z ∙ ap (bit_at b) (let e : k - n ≡ k - 1 * n + 0 * n = omega arith in e))
  lane_exchanged k (suc zero) l lu =
      parity_cases (λ d. bit_at (upper n mask a b) k ≡ bit_at (either a b d) (k - d * n + 1 * n)) (k / n)
      (λ z. upper_even k l z ∙ ap (bit_at a) (let e : n + k ≡ k - 0 * n + 1 * n = omega arith in e))
      (λ z. upper_odd k l z ∙ ap (bit_at b) (let h = high_enough n k positive z in (let e : k ≡ k - 1 * n + 1 * n = omega arith in e)))
  lane_exchanged k (suc (suc u)) l lu = absurd (omega arith)

-- ---- in four lanes

bit_of_either : (row place u : ℕ) (c d : List ℕ) → bit row place (either c d u) ≡ bit_at (either (get_or c row 0) (get_or d row 0) u) place
bit_of_either row place zero c d = refl
bit_of_either row place (suc u) c d = refl

abbrev pub lanes_changed : ℕ → ℕ → List ℕ → List ℕ → List ℕ
lanes_changed n mask a b = zip2 bit_and (zip2 bit_xor (zip2 shr a (replicate 4 n)) b) (replicate 4 mask)

module _ (n mask : ℕ) (a b : List ℕ) (la : length a ≡ 4) (lb : length b ≡ 4) where
  long : length (zip2 bit_xor (zip2 shr a (replicate 4 n)) b) ≡ 4
  long = four_lanes bit_xor (zip2 shr a (replicate 4 n)) b (four_lanes shr a (replicate 4 n) la refl) lb

  changed_lane : (row : ℕ) → row < 4 → get_or (lanes_changed n mask a b) row 0 ≡ differing n mask (get_or a row 0) (get_or b row 0)
  changed_lane row h =
      lane bit_and (zip2 bit_xor (zip2 shr a (replicate 4 n)) b) (replicate 4 mask) row h long refl
      ∙ ap₂ bit_and
      (lane bit_xor (zip2 shr a (replicate 4 n)) b row h (four_lanes shr a (replicate 4 n) la refl) lb
      ∙ ap (λ (x : ℕ). x ⊕ get_or b row 0) (lane shr a (replicate 4 n) row h la refl ∙ ap (shr (get_or a row 0)) (get_or-replicate 4 row n 0 h)))
      (get_or-replicate 4 row mask 0 h)

  lower_lane : (row : ℕ) → row < 4 → get_or (zip2 bit_xor a (zip2 shl (lanes_changed n mask a b) (replicate 4 n))) row 0 ≡ lower n mask (get_or a row 0) (get_or b row 0)
  lower_lane row h =
      let size = four_lanes bit_and (zip2 bit_xor (zip2 shr a (replicate 4 n)) b) (replicate 4 mask) long refl in
      lane bit_xor a (zip2 shl (lanes_changed n mask a b) (replicate 4 n)) row h la (four_lanes shl (lanes_changed n mask a b) (replicate 4 n) size refl)
      ∙ ap (bit_xor (get_or a row 0)) (lane shl (lanes_changed n mask a b) (replicate 4 n) row h size refl ∙ ap₂ shl (changed_lane row h) (get_or-replicate 4 row n 0 h))

  upper_lane : (row : ℕ) → row < 4 → get_or (zip2 bit_xor b (lanes_changed n mask a b)) row 0 ≡ upper n mask (get_or a row 0) (get_or b row 0)
  upper_lane row h =
      lane bit_xor b (lanes_changed n mask a b) row h lb (four_lanes bit_and (zip2 bit_xor (zip2 shr a (replicate 4 n)) b) (replicate 4 mask) long refl)
      ∙ ap (bit_xor (get_or b row 0)) (changed_lane row h)

  pub exchanged : 0 < n → Masks n mask → Exchanged n a b (zip2 bit_xor a (zip2 shl (lanes_changed n mask a b) (replicate 4 n))) (zip2 bit_xor b (lanes_changed n mask a b))
  exchanged positive masks = record {
    moved = λ row place u h l lu.
        bit_of_either row place u _ _
        ∙ ap₂ (λ (x y : ℕ). bit_at (either x y u) place) (lower_lane row h) (upper_lane row h)
        ∙ lane_exchanged n mask (get_or a row 0) (get_or b row 0) positive masks place u l lu
        ∙ sym (bit_of_either row (with_bit n u place) (place / n % 2) a b);
  }

-- ---- in eight planes

pub below_eight : (P : ℕ → Type 0) → P 0 → P 1 → P 2 → P 3 → P 4 → P 5 → P 6 → P 7 → (j : ℕ) → j < 8 → P j
below_eight P p0 p1 p2 p3 p4 p5 p6 p7 zero h = p0
below_eight P p0 p1 p2 p3 p4 p5 p6 p7 (suc zero) h = p1
below_eight P p0 p1 p2 p3 p4 p5 p6 p7 (suc (suc zero)) h = p2
below_eight P p0 p1 p2 p3 p4 p5 p6 p7 (suc (suc (suc zero))) h = p3
below_eight P p0 p1 p2 p3 p4 p5 p6 p7 (suc (suc (suc (suc zero)))) h = p4
below_eight P p0 p1 p2 p3 p4 p5 p6 p7 (suc (suc (suc (suc (suc zero))))) h = p5
below_eight P p0 p1 p2 p3 p4 p5 p6 p7 (suc (suc (suc (suc (suc (suc zero)))))) h = p6
below_eight P p0 p1 p2 p3 p4 p5 p6 p7 (suc (suc (suc (suc (suc (suc (suc zero))))))) h = p7
below_eight P p0 p1 p2 p3 p4 p5 p6 p7 (suc (suc (suc (suc (suc (suc (suc (suc j)))))))) h = absurd (omega arith)

module _ (n : ℕ) (q r : Planes) (positive : 0 < n) (pairs : (j : ℕ) → j < 8 → j / n % 2 ≡ 0 → Exchanged n (plane q j) (plane q (j + n)) (plane r j) (plane r (j + n))) where
  -- one plane of a pair, by the bit
  one_of : (j d : ℕ) → d < 2 → either (plane q j) (plane q (j + n)) d ≡ plane q (j + d * n)
  one_of j zero h = ap (plane q) (let e : j ≡ j + 0 * n = omega arith in e)
  one_of j (suc zero) h = ap (plane q) (let e : j + n ≡ j + 1 * n = omega arith in e)
  one_of j (suc (suc d)) h = absurd (omega arith)

  moved_in : (base u row place : ℕ) → base < 8 → base / n % 2 ≡ 0 → row < 4 → place < 32 → u < 2
      → bit row place (either (plane r base) (plane r (base + n)) u) ≡ bit row (with_bit n u place) (plane q (base + place / n % 2 * n))
  moved_in base u row place hb z h l lu =
      (pairs base hb z).moved row place u h l lu ∙ ap (bit row (with_bit n u place)) (one_of base (place / n % 2) (mod-lt (place / n) (lit< tt)))

  stage_from : Stage n q r
  stage_from = record {
    moved = λ row place j h l lj.
        parity_cases (λ d. bit row place (plane r j) ≡ bit row (with_bit n d place) (plane q (j - d * n + place / n % 2 * n))) (j / n)
        (λ z. moved_in j 0 row place lj z h l (lit< tt) ∙ ap (λ (m : ℕ). bit row (with_bit n 0 place) (plane q (m + place / n % 2 * n))) (let e : j ≡ j - 0 * n = omega arith in e))
        (λ z.
        let low = high_enough n j positive z in
        ap (λ (m : ℕ). bit row place (plane r m)) (let e : j ≡ j - n + n = omega arith in e)
        ∙ moved_in (j - n) 1 row place (omega arith) (omega (arith, below n j positive low)) h l (lit< tt)
        ∙ ap (λ (m : ℕ). bit row (with_bit n 1 place) (plane q (m + place / n % 2 * n))) (let e : j - n ≡ j - 1 * n = omega arith in e));
  }

module _ (q r : Planes) where
  pub stage_one : Exchanged 1 q.p0 q.p1 r.p0 r.p1 → Exchanged 1 q.p2 q.p3 r.p2 r.p3 → Exchanged 1 q.p4 q.p5 r.p4 r.p5 → Exchanged 1 q.p6 q.p7 r.p6 r.p7 → Stage 1 q r
  stage_one a b c d =
      stage_from 1 q r (lit< tt) (below_eight (λ j. j / 1 % 2 ≡ 0 → Exchanged 1 (plane q j) (plane q (j + 1)) (plane r j) (plane r (j + 1)))
      (λ _. a) (λ z. absurd (omega arith)) (λ _. b) (λ z. absurd (omega arith)) (λ _. c) (λ z. absurd (omega arith)) (λ _. d) (λ z. absurd (omega arith)))

  pub stage_two : Exchanged 2 q.p0 q.p2 r.p0 r.p2 → Exchanged 2 q.p1 q.p3 r.p1 r.p3 → Exchanged 2 q.p4 q.p6 r.p4 r.p6 → Exchanged 2 q.p5 q.p7 r.p5 r.p7 → Stage 2 q r
  stage_two a b c d =
      stage_from 2 q r (lit< tt) (below_eight (λ j. j / 2 % 2 ≡ 0 → Exchanged 2 (plane q j) (plane q (j + 2)) (plane r j) (plane r (j + 2)))
      (λ _. a) (λ _. b) (λ z. absurd (omega arith)) (λ z. absurd (omega arith)) (λ _. c) (λ _. d) (λ z. absurd (omega arith)) (λ z. absurd (omega arith)))

  pub stage_four : Exchanged 4 q.p0 q.p4 r.p0 r.p4 → Exchanged 4 q.p1 q.p5 r.p1 r.p5 → Exchanged 4 q.p2 q.p6 r.p2 r.p6 → Exchanged 4 q.p3 q.p7 r.p3 r.p7 → Stage 4 q r
  stage_four a b c d =
      stage_from 4 q r (lit< tt) (below_eight (λ j. j / 4 % 2 ≡ 0 → Exchanged 4 (plane q j) (plane q (j + 4)) (plane r j) (plane r (j + 4)))
      (λ _. a) (λ _. b) (λ _. c) (λ _. d) (λ z. absurd (omega arith)) (λ z. absurd (omega arith)) (λ z. absurd (omega arith)) (λ z. absurd (omega arith)))

-- ---- the three stages, one after the other

-- where the place k of plane j comes from: its place and its plane
abbrev from_place : ℕ → ℕ → ℕ → ℕ
from_place n k j = with_bit n (j / n % 2) k

abbrev source_place : ℕ → ℕ → ℕ
source_place k j = from_place 1 (from_place 2 (from_place 4 k j) (from_place 4 j k)) (from_place 2 (from_place 4 j k) (from_place 4 k j))

abbrev source_plane : ℕ → ℕ → ℕ
source_plane k j = from_place 1 (from_place 2 (from_place 4 j k) (from_place 4 k j)) (from_place 2 (from_place 4 k j) (from_place 4 j k))

-- m is place and plane in one number
source_places : (m : ℕ) → m < 256 → source_place (m / 8) (m % 8) ≡ m / 8 / 8 * 8 + m % 8
source_places = same_below (λ m. source_place (m / 8) (m % 8)) (λ m. m / 8 / 8 * 8 + m % 8) 256 refl

source_planes : (m : ℕ) → m < 256 → source_plane (m / 8) (m % 8) ≡ m / 8 % 8
source_planes = same_below (λ m. source_plane (m / 8) (m % 8)) (λ m. m / 8 % 8) 256 refl

pub transposed : (q a b r : Planes) → Stage 1 q a → Stage 2 a b → Stage 4 b r → Transposed q r
transposed q a b r one two four = record {
  moved = λ row column i j h lc li lj.
      let k = 8 * column + i in
      let k1 = from_place 4 k j in
      let j1 = from_place 4 j k in
      let m = 8 * k + j in
      let place : m / 8 ≡ k = omega arith in
      let number : m % 8 ≡ j = omega arith in
      four.moved row k j h (omega arith) lj
      ∙ two.moved row k1 j1 h (omega arith) (omega arith)
      ∙ one.moved row (from_place 2 k1 j1) (from_place 2 j1 k1) h (omega arith) (omega arith)
      ∙ ap₂ (λ (p n : ℕ). bit row p (plane q n))
      (sym (ap₂ source_place place number) ∙ source_places m (omega arith) ∙ (let e : m / 8 / 8 * 8 + m % 8 ≡ 8 * column + j = omega arith in e))
      (sym (ap₂ source_plane place number) ∙ source_planes m (omega arith) ∙ (let e : m / 8 % 8 ≡ i = omega arith in e));
}
