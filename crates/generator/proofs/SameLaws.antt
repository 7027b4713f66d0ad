-- That to mean the same is reflexive and transitive: plain facts of a relation, which proofs of other layers cite too.
use Rattle.std.proofs.Common.{refl, ◌∙◌, arith}
use Rattle.generator.specs.Generators.{Meaning, Same}

pub Same-refl : (a : Meaning) → Same a a
Same-refl a = record { reach = λ n is. refl; block = λ n i is h. refl }

pub Same-trans : (a b c : Meaning) → Same a b → Same b c → Same a c
Same-trans a b c s t = record {
  reach = λ n is. t.reach n is ∙ s.reach n is;
  block = λ n i is h. let e = s.reach n is in t.block n i is (omega arith) ∙ s.block n i is h;
}
