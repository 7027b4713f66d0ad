-- How many places of keystream a sealed frame uses.
use Rattle.std.specs.Prelude.{ℕ, ◌+◌}
use Rattle.units.specs.Lengths.{begun}

-- H, Q and P, and one for each 128 message bits begun
abbrev pub places : ℕ → ℕ
places bits = 3 + begun bits
