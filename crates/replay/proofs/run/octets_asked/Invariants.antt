use Rattle.std.proofs.Common.{drop, map}
use Rattle.replay.specs.Asked.{CallsOctets}
use Rattle.replay.specs.Journals.{played}
use Rattle.replay.proofs.run.octets_asked.Given as goal

abbrev pub invariant-loop-call : goal.invariant-loop-call
invariant-loop-call l = CallsOctets (map played (drop l.call-index l.calls)) → CallsOctets (map played l.calls)
