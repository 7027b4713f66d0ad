-- Keystream, and covering by it.
use Rattle.std.specs.Prelude.{ℕ, zero, suc, List, [], ◌++◌}
use Rattle.units.specs.Lengths.{begun}
use Rattle.units.specs.Spare.{cleared}
use Rattle.units.specs.Sums.{sums}
use Rattle.generator.specs.Generators.{Meaning}

-- the first blocks under a nonce, one after the other
unfoldable pub stream : Meaning → List ℕ → ℕ → List ℕ
stream m n zero = []
stream m n (suc count) = stream m n count ++ m.block n count

-- so many bits of a text plus the keystream under a nonce, the spare bits cleared: so a message is covered, and uncovered too
unfoldable pub covered : Meaning → List ℕ → ℕ → List ℕ → List ℕ
covered m n bits text = cleared bits (sums text (stream m n (begun bits)))
