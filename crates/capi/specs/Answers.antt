-- The answer of a call, as C has it.
use Rattle.std.specs.Prelude.{ℕ, Ok, Err, Result}
use Rattle.units.specs.Refusals.{number}
use Rattle.units.specs.declared.refusals.Layer.{Layer}
use Rattle.units.specs.declared.refusals.Layer.TheVariants.{Cover, Link, Generator, Recording, KeyText}
use Rattle.units.specs.declared.refusals.Refusal.{Refusal}
use Rattle.capi.specs.declared.details.Details.{Details}

-- the number of a layer
abbrev pub layer_number : Layer → ℕ
layer_number Cover = 1
layer_number Link = 2
layer_number Generator = 3
layer_number Recording = 4
layer_number KeyText = 5

-- 0 for an accepted call, and else the number of its refusal
abbrev pub number_of : Result (Unit {0}) Refusal → ℕ
number_of (Ok u) = 0
number_of (Err r) = number r.reason

-- the layer and the place of a refusal; zeros for an accepted call
abbrev pub details_of : Result (Unit {0}) Refusal → Details
details_of (Ok u) = record { layer = 0; place = 0 }
details_of (Err r) = record { layer = layer_number r.layer; place = r.place }
