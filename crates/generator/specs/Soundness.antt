-- That what a pair of generators means is sound, as each generator has to show.
use Rattle.std.proofs.Common.{◌≡◌, length, ◌∙◌, arith}
use Rattle.units.proofs.SumLaws.{length-sums, Octets-sums}
use Rattle.generator.specs.Generators.{Meaning, Sound}
use Rattle.generator.specs.Pairs.{both}

-- a pair of two that are sound
pub both_sound : (a b : Meaning) → Sound a → Sound b → Sound (both a b)
both_sound a b s t =
    record {
      near = λ n is. omega (arith, s.near n is);
      sixteen = λ n i is h.
          let p : length (a.block n i) ≡ 16 = s.sixteen n i is (omega arith) in
          let q : length (b.block n i) ≡ 16 = t.sixteen n i is (omega arith) in
          length-sums (a.block n i) (b.block n i) (omega arith) ∙ p;
      octets = λ n i is h. Octets-sums (a.block n i) (b.block n i) (s.octets n i is (omega arith)) (t.octets n i is (omega arith));
    }
