-- Pairs of generators.
use Rattle.std.proofs.Common.{◌≡◌, ℕ, ◌<◌, List, length, replicate, Ok, sym, ap, ◌∙◌, arith}
use Rattle.std.proofs.lemmas.Bool.Decides.{nat_tests}
use Rattle.units.specs.Sums.{◌⊕◌, sums}
use Rattle.units.proofs.SumLaws.{sums_comm, sums_self}
use Rattle.field.specs.declared.blocks.Block.{Block}
use Rattle.field.proofs.BlockLaws.{polynomial-sums}
use Rattle.generator.specs.Generators.{IsNonce, Meaning, Sound, answered}
use Rattle.generator.specs.Pairs.{PairStands, both}

pub pair_stands : PairStands
pair_stands =
    record {
      turned = λ a b. record { reach = λ n is. omega arith; block = λ n i is h. sums_comm (b.block n i) (a.block n i) };
      alike = λ a b s t n i is h.
          let below : i < a.reach n = omega arith in
          ap (sums (a.block n i)) (t.block n i is below) ∙ sums_self (a.block n i) ∙ ap (λ (k : ℕ). replicate k 0) (s.sixteen n i is below);
    }

-- the block of a pair is the sum of theirs
pub pair_answered :
    (a b : Meaning) (n : List ℕ) (i : ℕ) (x y z : Block) → Sound a → Sound b → IsNonce n → Ok x ≡ answered a n i → Ok y ≡ answered b n i
    → z.0 ≡ x.0 ⊕ y.0 → Ok z ≡ answered (both a b) n i
pair_answered a b n i x y z s t is p q e =
    let below : (i < a.reach n) × (i < b.reach n) = (grind (arith, nat_tests), grind (arith, nat_tests)) in
    let long : length (a.block n i) ≡ length (b.block n i) = s.sixteen n i is below.0 ∙ sym (t.sixteen n i is below.1) in
    let sum = polynomial-sums (a.block n i) (b.block n i) long (s.octets n i is below.0) (t.octets n i is below.1) in
    grind (arith, nat_tests, sum)
