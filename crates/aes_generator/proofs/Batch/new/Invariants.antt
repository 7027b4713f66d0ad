use Rattle.std.proofs.Common.{◌≡◌, length, take}
use Rattle.units.proofs.FillLaws.{filled}
use Rattle.aes_generator.proofs.AesGeneratorLaws.{counter_from}
use Rattle.aes_generator.proofs.Batch.new.Given as goal

abbrev pub invariant-loop-i : goal.invariant-loop-i
invariant-loop-i l = (length l.counters ≡ 8) × (take l.i l.counters ≡ filled (counter_from l.nonce.0 l.first) l.i)
