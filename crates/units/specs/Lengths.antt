-- Lengths in bits, and the bytes and blocks that bits fill.
use Rattle.std.specs.Prelude.{ℕ, ◌+◌, ◌/◌, ◌%◌, Bool, not, ◌==◌}

-- the bytes that n bits fill
unfoldable pub filled : ℕ → ℕ
filled n = (n + 7) / 8

-- a bit length as whole blocks and the bits left over
pub record Split : Type 0 where
  pub whole : ℕ
  pub left : ℕ

unfoldable pub split : ℕ → Split
split n = record { whole = n / 128; left = n % 128 }

-- the blocks that n bits begin
unfoldable pub begun : ℕ → ℕ
begun n = (n + 127) / 128

-- whether two lengths differ
abbrev pub unlike : ℕ → ℕ → Bool
unlike a b = not (a == b)
