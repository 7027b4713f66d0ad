-- Eight states of AES in eight planes.
use Rattle.std.specs.Prelude.{ℕ, ◌+◌, ◌*◌, ◌/◌, ◌%◌, ◌^◌, List, [], ◌∷◌, map, slice_index}
use Rattle.std.specs.List.{range_with_len}
use Rattle.std.specs.Simd.Lanes.{number_l}
use Rattle.planes.specs.declared.Planes.{Planes}

-- the planes, that of the lowest bit first
abbrev pub planes : Planes → List (List ℕ)
planes q = q.p0 ∷ q.p1 ∷ q.p2 ∷ q.p3 ∷ q.p4 ∷ q.p5 ∷ q.p6 ∷ q.p7 ∷ []

-- the bit of a plane in a row, at a place of its lane
abbrev pub bit : ℕ → ℕ → List ℕ → ℕ
bit row place plane = slice_index plane row / 2 ^ place % 2

-- the byte in a row and a column of state b: bit j is in plane j, and column c has the places from 8 c on
unfoldable pub byte : Planes → ℕ → ℕ → ℕ → ℕ
byte q b row column = number_l 2 (map (bit row (8 * column + b)) (planes q))

-- state b, column by column
unfoldable pub state : Planes → ℕ → List ℕ
state q b = map (λ k. byte q b (k % 4) (k / 4)) (range_with_len 0 16)

-- the eight states
unfoldable pub states : Planes → List (List ℕ)
states q = map (state q) (range_with_len 0 8)
