use Rattle.std.proofs.Common.{◌≡◌, take}
use Rattle.units.specs.Sums.{sums}
use Rattle.cover.proofs.work_area.add.Given as goal

abbrev pub invariant-loop-i : goal.invariant-loop-i
invariant-loop-i l = take l.i l.sum ≡ take l.i (sums l.text l.key)
