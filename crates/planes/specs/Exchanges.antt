-- How bits change places between planes, so that eight planes of one byte string each become eight planes of one bit each.
use Rattle.std.specs.Prelude.{◌≡◌, ℕ, zero, suc, ◌+◌, ◌-◌, ◌*◌, ◌/◌, ◌%◌, ◌^◌, ◌<◌, List, [], length, slice_index, slice_index_or}
use Rattle.std.specs.Int.{bit_at}
use Rattle.units.specs.Strings.{Octets}
use Rattle.planes.specs.declared.Planes.{Planes}
use Rattle.planes.specs.Planes.{bit, planes}

-- the bit that is worth n in k becomes u
abbrev pub with_bit : ℕ → ℕ → ℕ → ℕ
with_bit n u k = k - k / n % 2 * n + u * n

-- the first of two, or the second
abbrev pub either : {A : Type 0} → A → A → ℕ → A
either a b zero = a
either a b (suc u) = b

-- the mask has just the places whose bit worth n is 0
abbrev pub Masks : ℕ → ℕ → Type 0
Masks n mask = (k : ℕ) → k < 32 → mask / 2 ^ k % 2 + k / n % 2 ≡ 1

-- c and d are a and b with bits exchanged: where the bit worth n of a place is v, plane u of the two has what plane v had at
-- the place with that bit set to u
pub record Exchanged (n : ℕ) (a b c d : List ℕ) : Type 0 where
  pub moved :
      (row place u : ℕ) → row < 4 → place < 32 → u < 2
      → bit row place (either c d u) ≡ bit row (with_bit n u place) (either a b (place / n % 2))

-- the bytes of a state in the lanes of a vector, one row to a lane
pub record Spread (bytes lanes : List ℕ) : Type 0 where
  pub size : length bytes ≡ 16
  pub octets : Octets bytes
  pub there :
      (row column j : ℕ) → row < 4 → column < 4 → j < 8
      → bit row (8 * column + j) lanes ≡ bit_at (slice_index bytes (row + 4 * column)) j

-- plane j
abbrev pub plane : Planes → ℕ → List ℕ
plane q j = slice_index_or (planes q) j []

-- in r, made of q, the bit worth n of a place and that of a plane's number are exchanged
pub record Stage (n : ℕ) (q r : Planes) : Type 0 where
  pub moved :
      (row place j : ℕ) → row < 4 → place < 32 → j < 8
      → bit row place (plane r j) ≡ bit row (with_bit n (j / n % 2) place) (plane q (with_bit n (place / n % 2) j))

-- in r, made of q, the number of a plane and the number of a place in its column are exchanged
pub record Transposed (q r : Planes) : Type 0 where
  pub moved :
      (row column b j : ℕ) → row < 4 → column < 4 → b < 8 → j < 8
      → bit row (8 * column + b) (plane r j) ≡ bit row (8 * column + j) (plane q b)
