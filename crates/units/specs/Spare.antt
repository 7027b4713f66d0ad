-- Spare bits: those of a byte string past its length in bits, the most significant bit of the first byte first.
use Rattle.std.specs.Prelude.{ℕ, ◌-◌, ◌*◌, ◌/◌, ◌%◌, ◌^◌, Bool, List, [], ◌∷◌, slice_index}
use Rattle.units.specs.Strings.{same}

-- the n high bits of a byte; the others as zero
unfoldable pub high : ℕ → ℕ → ℕ
high n x = x / 2 ^ (8 - n) * 2 ^ (8 - n)

-- the first n bits of xs; the spare bits as zero
abbrev pub cleared : ℕ → List ℕ → List ℕ
cleared n [] = []
cleared n (x ∷ xs) = high n x ∷ cleared (n - 8) xs

-- whether the spare bits of xs are clear, at a length of n bits
abbrev pub clear : ℕ → List ℕ → Bool
clear n xs = same (cleared n xs) xs

-- bit i of a byte string, the most significant of byte 0 being bit 0
unfoldable pub bit_at : List ℕ → ℕ → ℕ
bit_at xs i = slice_index xs (i / 8) / 2 ^ (7 - i % 8) % 2
