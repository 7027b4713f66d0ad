-- A word's coefficients at every fifth place, which an integer product can take at a time. Only private functions speak of
-- them in their contracts.
use Rattle.std.specs.Prelude.{ℕ, zero, suc, ◌+◌, ◌*◌, ◌%◌, ◌^◌, bit_and}
use Rattle.units.specs.Sums.{◌⊕◌}

-- the mask of every fifth place: 0, 5, 10 and so on up to 60
abbrev pub holes : ℕ
holes = 0x1084210842108421

-- the coefficients of x at every fifth place from place i on
unfoldable pub part : ℕ → ℕ → ℕ
part x i = bit_and x (holes * 2 ^ i)

-- the place below 5 that with place i adds up to place k, or to that and 5
abbrev pub opposite : ℕ → ℕ → ℕ
opposite k i = (k + 4 * i) % 5

-- the sum of f 0, f 1 and so on, n of them
abbrev pub sum_of : ℕ → (ℕ → ℕ) → ℕ
sum_of zero f = 0
sum_of (suc n) f = sum_of n f ⊕ f n
