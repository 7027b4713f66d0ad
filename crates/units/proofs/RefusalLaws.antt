-- What an answer says of the refusal that it has or has not.
use Rattle.std.proofs.Common.{◌≡◌, Some, None, Ok, Err, Option, refl}
use Rattle.units.specs.Refusals.{unless}
use Rattle.units.specs.declared.refusals.Refusal.{Refusal}

-- where there is an answer, there was no refusal
pub unless_ok : {A : Type 0} (r : Option Refusal) (a b : A) → unless r a ≡ Ok b → (r ≡ None) × (b ≡ a)
unless_ok None a b e = (refl, cc)
unless_ok (Some r) a b e = absurd (cc)

-- a refusal in place of the answer is the one that there was
pub unless_err : {A : Type 0} (r : Option Refusal) (a : A) (why : Refusal) → unless r a ≡ Err why → r ≡ Some why
unless_err None a why e = absurd (cc)
unless_err (Some r) a why e = cc
