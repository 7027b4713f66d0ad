-- What C passes of a message, as the cover takes it.
use Rattle.std.specs.Prelude.{ℕ, List, Some, slice_index}
use Rattle.nonces.specs.declared.ExtraIv.{ExtraIv}
use Rattle.nonces.specs.declared.Parameters.{Parameters}

-- the six bytes of EXTRA_IV
abbrev pub six : List ℕ → ExtraIv
six bytes =
    record {
      b0 = slice_index bytes 0;
      b1 = slice_index bytes 1;
      b2 = slice_index bytes 2;
      b3 = slice_index bytes 3;
      b4 = slice_index bytes 4;
      b5 = slice_index bytes 5;
    }

-- what a message goes under, beside the key
abbrev pub parameters : ℕ → ℕ → List ℕ → ℕ → Parameters
parameters bearer direction extra_iv count =
    record { bearer = bearer; direction = direction; extra_iv = Some (six extra_iv); count = count }
