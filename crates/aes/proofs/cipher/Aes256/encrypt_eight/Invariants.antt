use Rattle.std.proofs.Common.{◌≡◌, ◌-◌, map}
use Rattle.planes.specs.Planes.{states}
use Rattle.aes.specs.Cipher.{rounds}
use Rattle.aes.specs.KeyExpansion.{round_keys_of}
use Rattle.aes.proofs.cipher.Aes256.encrypt_eight.Given as goal

abbrev pub invariant-loop-round : goal.invariant-loop-round
invariant-loop-round l = states l.q ≡ map (rounds (round_keys_of l.self.key) (l.round - 1)) l.blocks
