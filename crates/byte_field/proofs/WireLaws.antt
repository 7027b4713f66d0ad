-- What a circuit of `^` and `&` makes of planes, it makes of each of their bits.
--
-- A circuit is a definition over `Gates`, which says what the two operators are. On wires, each of which is a plane and one
-- of its bits, a circuit is computed on both at once, with the proof that they agree.
use Rattle.std.proofs.Common.{◌≡◌, ℕ, zero, suc, ◌/◌, ◌%◌, ◌^◌, ◌<◌, List, [], ◌∷◌, length, get_or, map, replicate, sym, refl, ap, ◌∙◌, ap₂, mod-lt, lit<, arith, bit_and, bit_xor}
use Rattle.std.proofs.lemmas.Nat.{and_mod, and_shr}
use Rattle.std.proofs.lemmas.Nat.Bits.{bit_at_ones, bit_at-zero}
use Rattle.std.proofs.lemmas.Simd.{get_or-replicate, get_or-zip2, length-zip2}
use Rattle.std.specs.Int.{bit_at}
use Rattle.std.specs.Simd.Lanes.{number_l, zip2}
use Rattle.planes.specs.Planes.{bit}
use Rattle.planes.proofs.BitLaws.{bit_at_sum}
use Rattle.planes.proofs.PlaneLaws.{FourLanes}
use Rattle.byte_field.proofs.NumberLaws.{number_bit}

-- the two operators, and what has a one at every place
pub record Gates (A : Type 0) : Type 0 where
  pub xor : A → A → A
  pub and : A → A → A
  pub ones : A

abbrev pub on_bits : Gates ℕ
on_bits = record { xor = bit_xor; and = bit_and; ones = 1 }

abbrev pub on_planes : Gates (List ℕ)
on_planes = record { xor = zip2 bit_xor; and = zip2 bit_and; ones = replicate 4 0xFFFFFFFF }

-- a plane, and its bit in a row at a place
pub record Wire (row place : ℕ) : Type 0 where
  pub plane : List ℕ
  pub value : ℕ
  pub lanes : length plane ≡ 4
  pub is : bit row place plane ≡ value

-- the wires' bits are those of their planes
pub wires_agree : (row place : ℕ) (ws : List (Wire row place)) → map (bit row place) (map (λ w. w.plane) ws) ≡ map (λ w. w.value) ws
wires_agree row place [] = refl
wires_agree row place (w ∷ ws) = ap₂ (λ (b : ℕ) (bs : List ℕ). b ∷ bs) w.is (wires_agree row place ws)

-- ---- gates

module _ (row place : ℕ) (here : row < 4) (within : place < 32) where
  -- an operator that acts on each bit by itself, on two wires
  abbrev gate : (f : ℕ → ℕ → ℕ) → ((a b : ℕ) → bit_at (f a b) place ≡ f (bit_at a place) (bit_at b place)) → Wire row place → Wire row place → Wire row place
  gate f each u v =
      record {
        plane = zip2 f u.plane v.plane;
        value = f u.value v.value;
        lanes = length-zip2 f u.plane v.plane (u.lanes ∙ sym v.lanes) ∙ u.lanes;
        is =
            ap (λ (x : ℕ). bit_at x place) (get_or-zip2 f u.plane v.plane row 0 0 0 (omega (arith, u.lanes)) (omega (arith, v.lanes)))
            ∙ each (get_or u.plane row 0) (get_or v.plane row 0)
            ∙ ap₂ f u.is v.is;
      }

  pub and_each : (a b : ℕ) → bit_at (bit_and a b) place ≡ bit_and (bit_at a place) (bit_at b place)
  and_each a b = ap (λ (x : ℕ). x % 2) (and_shr a b place) ∙ and_mod (a / 2 ^ place) (b / 2 ^ place) 1

  pub ones_is : bit row place (replicate 4 0xFFFFFFFF) ≡ 1
  ones_is = ap (λ (x : ℕ). bit_at x place) (get_or-replicate 4 row 0xFFFFFFFF 0 here) ∙ bit_at_ones 32 place within

  abbrev pub on_wires : Gates (Wire row place)
  on_wires =
      record {
        xor = gate bit_xor (λ a b. bit_at_sum a b place);
        and = gate bit_and and_each;
        ones = record { plane = replicate 4 0xFFFFFFFF; value = 1; lanes = refl; is = ones_is };
      }

-- ---- the wires of planes

-- plane j, and zeros past the last
abbrev pub plane_of : List (List ℕ) → ℕ → List ℕ
plane_of ps j = get_or ps j (replicate 4 0)

pub bit_lt : (row place : ℕ) (p : List ℕ) → bit row place p < 2
bit_lt row place p = mod-lt (get_or p row 0 / 2 ^ place) (lit< tt)

module _ (row place : ℕ) (here : row < 4) where
  plane_bit : (ps : List (List ℕ)) (j : ℕ) → bit row place (plane_of ps j) ≡ get_or (map (bit row place) ps) j 0
  plane_bit [] j = ap (λ (x : ℕ). bit_at x place) (get_or-replicate 4 row 0 0 here) ∙ bit_at-zero place
  plane_bit (p ∷ ps) zero = refl
  plane_bit (p ∷ ps) (suc j) = plane_bit ps j

  pub wire_lanes : (ps : List (List ℕ)) → FourLanes ps → (j : ℕ) → length (plane_of ps j) ≡ 4
  wire_lanes [] four j = refl
  wire_lanes (p ∷ ps) four zero = four.0
  wire_lanes (p ∷ ps) four (suc j) = wire_lanes ps four.1 j

  pub wire_is : (ps : List (List ℕ)) (j : ℕ) → bit row place (plane_of ps j) ≡ bit_at (number_l 2 (map (bit row place) ps)) j
  wire_is ps j = plane_bit ps j ∙ sym (number_bit (bit row place) (bit_lt row place) ps j)

  -- plane j, and bit j of the number that the planes hold in the row at the place
  abbrev pub wire : (ps : List (List ℕ)) → FourLanes ps → ℕ → Wire row place
  wire ps four j =
      record {
        plane = plane_of ps j;
        value = bit_at (number_l 2 (map (bit row place) ps)) j;
        lanes = wire_lanes ps four j;
        is = wire_is ps j;
      }
