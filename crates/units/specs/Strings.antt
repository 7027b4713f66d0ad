-- Byte strings.
use Rattle.std.specs.Prelude.{ℕ, bit_or, ◌+◌, ◌*◌, ◌/◌, ◌%◌, ◌<◌, Bool, true, false, ◌&&◌, List, [], ◌∷◌, ◌==◌, slice_index}
use Rattle.std.specs.List.{fold}

-- every byte is below 256
abbrev pub Octets : List ℕ → Type 0
Octets xs = (k : ℕ) → slice_index xs k < 256

-- the bits that are set in some byte
abbrev pub united : List ℕ → ℕ
united xs = fold bit_or 0 xs

-- whether two byte strings are equal
abbrev pub same : List ℕ → List ℕ → Bool
same [] [] = true
same [] (y ∷ ys) = false
same (x ∷ xs) [] = false
same (x ∷ xs) (y ∷ ys) = x == y && same xs ys

-- two bytes of a number, the most significant first
unfoldable pub two : ℕ → List ℕ
two n = n / 256 % 256 ∷ n % 256 ∷ []

-- four bytes of a number, the most significant first
unfoldable pub four : ℕ → List ℕ
four n = n / 16777216 % 256 ∷ n / 65536 % 256 ∷ n / 256 % 256 ∷ n % 256 ∷ []

-- the number in the two bytes from the place i on
unfoldable pub two_at : List ℕ → ℕ → ℕ
two_at xs i = slice_index xs i * 256 + slice_index xs (i + 1)

-- the number in the four bytes from the place i on
unfoldable pub four_at : List ℕ → ℕ → ℕ
four_at xs i =
    slice_index xs i * 16777216 + slice_index xs (i + 1) * 65536 + slice_index xs (i + 2) * 256 + slice_index xs (i + 3)
