use Rattle.std.proofs.Common.{◌≡◌, ◌-◌, ◌++◌, length, map, take, drop}
use Rattle.aes.specs.KeyExpansion.{aes256}
use Rattle.aes.proofs.cipher.Aes256.encrypt.Given as goal

abbrev pub invariant-loop-done : goal.invariant-loop-done
invariant-loop-done l = l.blocks ≡ map (aes256 l.self.key) (take l.done l.initial.blocks) ++ drop l.done l.initial.blocks

abbrev pub decreases-loop-done : goal.decreases-loop-done
decreases-loop-done l = length l.blocks - l.done
