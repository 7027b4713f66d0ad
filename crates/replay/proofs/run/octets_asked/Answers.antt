use Rattle.std.proofs.Common.{arith}
use Rattle.replay.proofs.RunLaws.{asked_all, asked_more}
use Rattle.replay.proofs.run.octets_asked.Goals as goal

pub loop-call-preserved : goal.loop-call-preserved
loop-call-preserved c =
    asked_more c.args.calls.now c.loop-call.call-index c.call-item.result (omega arith) c.call-item.is c.octets_asked.ensures
    c.loop-call.invariant

pub returns : goal.returns
returns c = asked_all c.args.calls.now c.loop-call.call-index (omega arith) c.loop-call.invariant
