-- What the calls of the link test, and what they leave.
use Rattle.std.specs.Prelude.{ℕ, Bool, List, ◌++◌, length, drop, Option}
use Rattle.units.specs.Refusals.{refused}
use Rattle.units.specs.declared.refusals.Layer.TheVariants.{Link}
use Rattle.units.specs.declared.refusals.Reason.{Reason}
use Rattle.units.specs.declared.refusals.Refusal.{Refusal}

-- a refusal that names the link, where a test is met
abbrev pub refused_here : Bool → Reason → Option Refusal
refused_here met r = refused met r Link 0

-- xs at the start of a buffer; its later bytes stay
unfoldable pub over : List ℕ → List ℕ → List ℕ
over xs buffer = xs ++ drop (length xs) buffer
