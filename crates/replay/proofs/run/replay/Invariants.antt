use Rattle.std.proofs.Common.{drop, map, take, vec_items}
use Rattle.replay.specs.Journals.{played, told}
use Rattle.replay.proofs.RunLaws.{Moment, Running}
use Rattle.replay.proofs.run.replay.Given as goal

abbrev pub invariant-loop-call : goal.invariant-loop-call
invariant-loop-call g l =
    let m = g.G.Generator.meaning in
    let k = g.K.Generator.meaning in
    let start : Moment = record {
      m = m l.fn.sender.generator;
      k = k l.fn.receiver.generator;
      s = l.fn.sender.settings;
      r = l.fn.receiver.settings;
      next = l.fn.sender.next;
      window = l.fn.receiver.window;
    } in
    let now : Moment = record {
      m = m l.sender.generator;
      k = k l.receiver.generator;
      s = l.sender.settings;
      r = l.receiver.settings;
      next = l.sender.next;
      window = l.receiver.window;
    } in
    Running start now
    (map told (vec_items l.journal))
    (map played l.calls)
    (map played (take l.call-index l.calls))
    (map played (drop l.call-index l.calls))
