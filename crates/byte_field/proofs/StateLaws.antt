-- A function of bytes, on each byte of eight states, by a circuit.
use Rattle.std.proofs.Common.{◌≡◌, ℕ, ◌+◌, ◌*◌, ◌/◌, ◌%◌, ◌<◌, List, [], map, sym, ap, ◌∙◌, arith}
use Rattle.std.specs.Int.{bit_at}
use Rattle.std.specs.List.{range_with_len}
use Rattle.std.specs.Simd.Lanes.{number_l}
use Rattle.std.proofs.lemmas.Simd.{map-map}
use Rattle.planes.specs.Planes.{bit, byte, planes, state, states}
use Rattle.planes.specs.declared.Planes.{Planes}
use Rattle.planes.proofs.PlaneLaws.{map_same, states_from}
use Rattle.byte_field.proofs.WireLaws.{Wire, bit_lt, plane_of, wires_agree}
use Rattle.byte_field.proofs.NumberLaws.{number_lt}

-- the states of p are those of q with f on each byte, if the bits of p at each place are those of f on the byte that q has there
each_byte :
    (p q : Planes) (f : ℕ → ℕ)
    → ((row place : ℕ) → row < 4 → place < 32 → number_l 2 (map (bit row place) (planes p)) ≡ f (number_l 2 (map (bit row place) (planes q))))
    → states p ≡ map (map f) (states q)
unfolding states state byte
each_byte p q f e =
    states_from p (λ b row column. f (byte q b row column)) (λ b row column lb lr lc. e row (8 * column + b) lr (omega arith))
    ∙ map_same (λ b. map (λ k. f (byte q b (k % 4) (k / 4))) (range_with_len 0 16)) (λ b. map f (state q b)) [] 8
    (λ b h. sym (map-map f (λ k. byte q b (k % 4) (k / 4)) (range_with_len 0 16)))
    ∙ sym (map-map (map f) (state q) (range_with_len 0 8))

-- the first eight planes of a list
abbrev pub from : List (List ℕ) → Planes
from ps =
    let p = plane_of ps in
    record { p0 = p 0; p1 = p 1; p2 = p 2; p3 = p 3; p4 = p 4; p5 = p 5; p6 = p 6; p7 = p 7 }

-- a circuit that gives the planes `outs`, and on bits `circuit`, gives f of each byte, if it does so of each of the 256
pub circuit_on_planes :
    (q : Planes) (outs : List (List ℕ)) (f : ℕ → ℕ) (circuit : (ℕ → ℕ) → List ℕ)
    (run : (row place : ℕ) → row < 4 → place < 32 → List (Wire row place))
    → ((row place : ℕ) (here : row < 4) (within : place < 32) → map (λ w. w.plane) (run row place here within) ≡ planes (from outs))
    → ((row place : ℕ) (here : row < 4) (within : place < 32) → map (λ w. w.value) (run row place here within) ≡ circuit (bit_at (number_l 2 (map (bit row place) (planes q)))))
    → ((b : ℕ) → b < 256 → number_l 2 (circuit (bit_at b)) ≡ f b)
    → states (from outs) ≡ map (map f) (states q)
circuit_on_planes q outs f circuit run on_plane on_bit computed =
    each_byte (from outs) q f (λ row place here within.
    let b = number_l 2 (map (bit row place) (planes q)) in
    ap (λ (ps : List (List ℕ)). number_l 2 (map (bit row place) ps)) (sym (on_plane row place here within))
    ∙ ap (number_l 2) (wires_agree row place (run row place here within) ∙ on_bit row place here within)
    ∙ computed b (number_lt (bit row place) (bit_lt row place) (planes q)))
