use Rattle.std.proofs.Common.{◌≡◌, length, map, take}
use Rattle.units.proofs.FillLaws.{filled}
use Rattle.aes.specs.KeyExpansion.{round_key_of}
use Rattle.aes.specs.RoundKeys.{key_of}
use Rattle.aes.proofs.cipher.Aes256.new.Given as goal

abbrev pub invariant-loop-round : goal.invariant-loop-round
invariant-loop-round l = (length l.round_keys ≡ 15) × (take l.round (map key_of l.round_keys) ≡ filled (round_key_of l.words) l.round)
