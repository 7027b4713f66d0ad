-- The blocks that a generator gives one after another.
use Rattle.std.specs.Prelude.{ℕ, zero, suc, ◌+◌, Bool, cond, ◌||◌, List, [], ◌∷◌, length, Ok, Err, Result, ◌==◌, nat_le}
use Rattle.units.specs.declared.refusals.Refusal.{Refusal}
use Rattle.field.specs.declared.blocks.Block.{Block}
use Rattle.generator.specs.Generators.{Meaning, block_of, short}

-- so many blocks under a nonce, from an index on
abbrev pub blocks_from : Meaning → List ℕ → ℕ → ℕ → List Block
blocks_from m n i zero = []
blocks_from m n i (suc count) = block_of (m.block n i) ∷ blocks_from m n (i + 1) count

-- whether so many blocks from an index on are all below the reach
abbrev pub within : Meaning → List ℕ → ℕ → ℕ → Bool
within m n i count = count == 0 || nat_le (i + count) (m.reach n)

-- the answer to one who asks for so many blocks from an index on
abbrev pub answer : Meaning → List ℕ → ℕ → ℕ → Result (Unit {0}) Refusal
answer m n i count = cond (within m n i count) (Ok tt) (Err (short (m.reach n)))

-- what is then in the place for them: the blocks, or where they are refused what was there
abbrev pub written : Meaning → List ℕ → ℕ → List Block → List Block
written m n i out = cond (within m n i (length out)) (blocks_from m n i (length out)) out
