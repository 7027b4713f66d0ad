-- What the calls of the cover test, and how they answer.
use Rattle.std.specs.Prelude.{ℕ, Bool, List, Some, None, Option, Result, nat_lt}
use Rattle.units.specs.Refusals.{refused, told}
use Rattle.units.specs.declared.refusals.Layer.TheVariants.{Cover, Generator}
use Rattle.units.specs.declared.refusals.Reason.{Reason}
use Rattle.units.specs.declared.refusals.Reason.TheVariants.{ShortKeystream}
use Rattle.units.specs.declared.refusals.Refusal.{Refusal}
use Rattle.generator.specs.Generators.{Meaning}

-- a refusal that names the cover, where a test is met
abbrev pub refused_here : Bool → Reason → Option Refusal
refused_here met r = refused met r Cover 0

-- 13: the reach under a nonce is below the blocks that are needed. It names the generator, and that reach
abbrev pub too_short : Meaning → List ℕ → ℕ → Option Refusal
too_short m n need = refused (nat_lt (m.reach n) need) ShortKeystream Generator (m.reach n)

-- what a call answers, and what its output buffer then holds
pub record Written : Type 0 where
  pub answer : Result (Unit {0}) Refusal
  pub output : List ℕ

-- the same, from an answer and a buffer
abbrev pub outcome : Result (Unit {0}) Refusal → List ℕ → Written
outcome answer output = record { answer = answer; output = output }

-- a refusal leaves the buffer as it was
abbrev pub written : Option Refusal → List ℕ → List ℕ → Written
written None before after = outcome (told None) after
written (Some r) before after = outcome (told (Some r)) before
