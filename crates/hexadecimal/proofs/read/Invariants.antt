use Rattle.std.proofs.Common.{◌≡◌, drop, vec_items}
use Rattle.hexadecimal.specs.Hex.{decoded}
use Rattle.hexadecimal.proofs.HexLaws.{after, paired}
use Rattle.hexadecimal.proofs.read.Given as goal

abbrev pub invariant-loop-high : goal.invariant-loop-high
invariant-loop-high l = after (vec_items l.bytes) (paired (drop l.high-index l.pairs)) ≡ decoded l.text
