-- How the bits of a plane move in ShiftRows and MixColumns.
use Rattle.std.specs.Prelude.{◌≡◌, ℕ, ◌+◌, ◌*◌, ◌%◌, ◌<◌, List}
use Rattle.planes.specs.Planes.{bit}
use Rattle.aes.specs.Cipher.{at, state_of}

-- the byte in row r and column c of the plane `to` is that in row `row r` and column `column r c` of the plane `from`
pub record Moved (row : ℕ → ℕ) (column : ℕ → ℕ → ℕ) (from to : List ℕ) : Type 0 where
  pub moved : (r c b : ℕ) → r < 4 → c < 4 → b < 8 → bit r (8 * c + b) to ≡ bit (row r) (8 * column r c + b) from

-- every row where it is
abbrev pub same_row : ℕ → ℕ
same_row r = r

-- a column as many places on as its row says
abbrev pub next_column : ℕ → ℕ → ℕ
next_column r c = (c + r) % 4

-- the row n places down, the uppermost after the lowest
abbrev pub row_below : ℕ → ℕ → ℕ
row_below n r = (r + n) % 4

-- every column where it is
abbrev pub same_column : ℕ → ℕ → ℕ
same_column r c = c

-- a state with its rows n places up
unfoldable pub turned : ℕ → List ℕ → List ℕ
turned n s = state_of (λ r c. at s ((r + n) % 4) c)
