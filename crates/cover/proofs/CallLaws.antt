-- What the two calls of NCA5 know once their tests are passed.
use Rattle.std.proofs.Common.{◌≡◌, ℕ, ◌≤◌, List, Ok, arith}
use Rattle.std.proofs.lemmas.Bool.Decides.{nat_tests}
use Rattle.units.specs.Refusals.{told}
use Rattle.units.specs.Lengths.{begun}
use Rattle.generator.specs.Generators.{IsNonce, Meaning, Same}
use Rattle.generator.proofs.SameLaws.{Same-trans}
use Rattle.cover.specs.Answers.{too_short}

-- the generator reaches far enough for H, Q and P and for so many bits of keystream, and means after the tests what it meant
-- before
pub record Reaches (m m' : Meaning) (keys stream : List ℕ) (bits : ℕ) : Type 0 where
  pub same : Same m m'
  pub enough : 3 ≤ m.reach keys
  pub far : begun bits ≤ m.reach stream

-- of the two tests of the reach, the second made of what the first left
pub reaches : (m first m' : Meaning) (keys stream : List ℕ) (bits : ℕ)
    → IsNonce stream
    → Same m first
    → Same first m'
    → told (too_short m keys 3) ≡ Ok tt
    → told (too_short first stream (begun bits)) ≡ Ok tt
    → Reaches m m' keys stream bits
reaches m first m' keys stream bits is s t near far =
    let reach = s.reach stream is in
    record {
      same = Same-trans m first m' s t;
      enough = grind (arith, nat_tests, near);
      far = grind (arith, nat_tests, far, reach);
    }
