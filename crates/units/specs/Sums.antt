-- Bitwise sums.
use Rattle.std.specs.Prelude.{ℕ, List, [], ◌∷◌, bit_xor}

infixl 60 ◌⊕◌
-- the sum of two numbers, bit by bit
abbrev pub ◌⊕◌ : ℕ → ℕ → ℕ
a ⊕ b = bit_xor a b

-- the sums of the numbers of two lists, place by place, as far as both go
abbrev pub sums : List ℕ → List ℕ → List ℕ
sums [] ys = []
sums (x ∷ xs) [] = []
sums (x ∷ xs) (y ∷ ys) = (x ⊕ y) ∷ sums xs ys
