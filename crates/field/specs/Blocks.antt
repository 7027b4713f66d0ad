-- Blocks: sixteen bytes, and the polynomial that they stand for.
use Rattle.std.specs.Prelude.{ℕ, zero, suc, List, [], ◌∷◌, length, take, drop}
use Rattle.std.specs.Simd.Lanes.{digits_l, number_l}

-- the polynomial of a byte string: the low bit of byte 0 belongs to x^0. Zero bytes at the end leave it as it is
abbrev pub polynomial : List ℕ → ℕ
polynomial xs = number_l 256 xs

-- the sixteen bytes of a polynomial below x^128
unfoldable pub block_bytes : ℕ → List ℕ
block_bytes v = digits_l 256 16 v

-- the polynomials of a byte string, sixteen bytes to each, the last filled with zero bytes. The first number only bounds how many
unfoldable pub blocks_by : ℕ → List ℕ → List ℕ
blocks_by zero xs = []
blocks_by (suc n) [] = []
blocks_by (suc n) (x ∷ xs) = polynomial (take 16 (x ∷ xs)) ∷ blocks_by n (drop 16 (x ∷ xs))

-- all of them
unfoldable pub blocks : List ℕ → List ℕ
blocks xs = blocks_by (length xs) xs
