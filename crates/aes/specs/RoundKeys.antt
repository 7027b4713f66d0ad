-- Round keys as the code holds them.
use Rattle.std.specs.Prelude.{ℕ, List}
use Rattle.planes.specs.Planes.{state}
use Rattle.aes.specs.declared.round_keys.RoundKey.{RoundKey}

-- the sixteen bytes of a round key
abbrev pub key_of : RoundKey → List ℕ
key_of k = state k.planes 0
