use Rattle.std.proofs.Common.{◌≡◌}
use Rattle.cover.proofs.TagLaws.{difference}
use Rattle.cover.proofs.work_area.begins_with.Given as goal

abbrev pub invariant-loop-i : goal.invariant-loop-i
invariant-loop-i l = l.unlike ≡ difference l.i l.tag l.bytes
