-- A pair of generators.
use Rattle.std.specs.Prelude.{◌≡◌, ℕ, ◌<◌, min, List, replicate}
use Rattle.units.specs.Sums.{sums}
use Rattle.generator.specs.Generators.{IsNonce, Meaning, Same, Sound}

-- the smaller reach, and the sums of the blocks
abbrev pub both : Meaning → Meaning → Meaning
both a b = record { reach = λ n. min (a.reach n) (b.reach n); block = λ n i. sums (a.block n i) (b.block n i) }

-- what holds of every pair
pub record PairStands : Type 0 where
  -- it means the same with its halves the other way round
  pub turned : (a b : Meaning) → Same (both a b) (both b a)
  -- two halves that mean the same give sixteen zero bytes for every block, and nothing detects it
  pub alike :
      (a b : Meaning) → Sound a → Same a b
      → (n : List ℕ) (i : ℕ) → IsNonce n → i < (both a b).reach n
      → (both a b).block n i ≡ replicate 16 0
