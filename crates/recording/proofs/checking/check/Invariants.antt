use Rattle.std.proofs.Common.{◌≡◌, ◌-◌, length}
use Rattle.recording.proofs.CheckingLaws.{Reached}
use Rattle.recording.proofs.checking.check.Given as goal

abbrev pub invariant-loop-record : goal.invariant-loop-record
invariant-loop-record l = record { same : l.reader.bytes.now ≡ l.bytes; reached : Reached l.bytes l.reader.offset }

abbrev pub decreases-loop-record : goal.decreases-loop-record
decreases-loop-record l = length l.bytes - l.reader.offset
