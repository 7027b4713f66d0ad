use Rattle.std.proofs.Common.{◌≡◌, List, ◌∷◌, ◌++◌, ◌+◌, [], take_all, map, drop, take, refl, vec_items, ap, sym, ◌∙◌, arith, rules}
use Rattle.std.proofs.lemmas.List.{drop_all, map_push}
use Rattle.replay.specs.Journals.{played, told}
use Rattle.replay.specs.Runs.{ends, left}
use Rattle.replay.specs.declared.calls.Call.{Call}
use Rattle.replay.proofs.RunLaws.{journal_is, left_by_some, left_more, left_so_far, moment, on_err, running_more, took_more}
use Rattle.replay.proofs.run.replay.Goals as goal

pub loop-call-preserved : goal.loop-call-preserved
loop-call-preserved g c =
    let m = g.G.Generator.meaning in
    let k = g.K.Generator.meaning in
    let s = c.args.sender.now in
    let r = c.args.receiver.now in
    let l = c.loop-call in
    let s' = c.step.new.sender in
    let r' = c.step.new.receiver in
    let i = l.call-index in
    let calls = c.args.calls.now in
    let call = c.call-item.result in
    let event = c.in_ok-event.event in
    let pushed : vec_items c.push.new.self ≡ vec_items l.journal ++ (event ∷ []) = c.in_ok-push.ensures.items in
    rw (pushed, map_push told (vec_items l.journal) event, took_more calls i call (omega arith) c.call-item.is)
    (running_more c.layers.ensures
    (moment (m s.generator) (k r.generator) s.settings r.settings s.next r.window)
    (moment (m l.sender.generator) (k l.receiver.generator) l.sender.settings l.receiver.settings l.sender.next l.receiver.window)
    (moment (m s'.generator) (k r'.generator) s'.settings r'.settings s'.next r'.window)
    (map told (vec_items l.journal)) (map played calls) (map played (take i calls)) (map played (drop i calls)) (map played (drop (i + 1) calls))
    (played call) (told event)
    (left_more calls i call (omega arith) c.call-item.is)
    l.invariant
    (search rules))

pub returns-clause-journal : goal.returns-clause-journal
returns-clause-journal g c =
    let m = g.G.Generator.meaning in
    let k = g.K.Generator.meaning in
    let s = c.args.sender.now in
    let r = c.args.receiver.now in
    let l = c.loop-call in
    let calls = c.args.calls.now in
    journal_is
    (moment (m s.generator) (k r.generator) s.settings r.settings s.next r.window)
    (moment (m l.sender.generator) (k l.receiver.generator) l.sender.settings l.receiver.settings l.sender.next l.receiver.window)
    (map told (vec_items l.journal)) (map played calls) (map played (take l.call-index calls)) (map played (drop l.call-index calls))
    (ap (map played) (drop_all l.call-index calls (omega arith)))
    l.invariant

pub returns-clause-ends : goal.returns-clause-ends
returns-clause-ends g c =
    let m = g.G.Generator.meaning in
    let k = g.K.Generator.meaning in
    let s = c.args.sender.now in
    let r = c.args.receiver.now in
    let l = c.loop-call in
    let calls = c.args.calls.now in
    left_so_far
    (moment (m s.generator) (k r.generator) s.settings r.settings s.next r.window)
    (moment (m l.sender.generator) (k l.receiver.generator) l.sender.settings l.receiver.settings l.sender.next l.receiver.window)
    (map told (vec_items l.journal)) (map played calls) (map played (take l.call-index calls)) (map played (drop l.call-index calls))
    l.invariant
    ∙ ap (λ (cs : List Call). left (m s.generator) (k r.generator) s.settings.terms r.settings.terms [] s.next r.window (map played cs))
    (take_all l.call-index calls (omega arith))

-- memory ran out in a call: it was not made
pub returns-in_err-event-clause-stopped : goal.returns-in_err-event-clause-stopped
returns-in_err-event-clause-stopped g c =
    let m = g.G.Generator.meaning in
    let k = g.K.Generator.meaning in
    let s = c.args.sender.now in
    let r = c.args.receiver.now in
    let l = c.loop-call in
    let calls = c.args.calls.now in
    let after = ends c.step.new.sender.next c.step.new.receiver.window in
    let some =
    left_by_some
    (moment (m s.generator) (k r.generator) s.settings r.settings s.next r.window)
    (moment (m l.sender.generator) (k l.receiver.generator) l.sender.settings l.receiver.settings l.sender.next l.receiver.window)
    (map told (vec_items l.journal)) (map played calls) (map played (drop l.call-index calls))
    calls l.call-index after l.invariant c.in_err-event.ensures.kept in
    search rules

-- memory ran out in the journal: the call was made
pub returns-in_err-push-clause-stopped : goal.returns-in_err-push-clause-stopped
returns-in_err-push-clause-stopped g c =
    let m = g.G.Generator.meaning in
    let k = g.K.Generator.meaning in
    let s = c.args.sender.now in
    let r = c.args.receiver.now in
    let l = c.loop-call in
    let s' = c.step.new.sender in
    let r' = c.step.new.receiver in
    let i = l.call-index in
    let calls = c.args.calls.now in
    let call = c.call-item.result in
    let event = c.in_ok-event.event in
    let run =
    running_more c.layers.ensures
    (moment (m s.generator) (k r.generator) s.settings r.settings s.next r.window)
    (moment (m l.sender.generator) (k l.receiver.generator) l.sender.settings l.receiver.settings l.sender.next l.receiver.window)
    (moment (m s'.generator) (k r'.generator) s'.settings r'.settings s'.next r'.window)
    (map told (vec_items l.journal)) (map played calls) (map played (take i calls)) (map played (drop i calls)) (map played (drop (i + 1) calls))
    (played call) (told event)
    (left_more calls i call (omega arith) c.call-item.is)
    l.invariant
    (search rules)
    in
    let some =
    left_by_some
    (moment (m s.generator) (k r.generator) s.settings r.settings s.next r.window)
    (moment (m s'.generator) (k r'.generator) s'.settings r'.settings s'.next r'.window)
    (map told (vec_items l.journal) ++ (told event ∷ [])) (map played calls) (map played (drop (i + 1) calls))
    calls (i + 1) (ends s'.next r'.window)
    (rw (sym (took_more calls i call (omega arith) c.call-item.is)) at run)
    refl
    in
    on_err c.from_residual-in_err-push.result c.from_residual-in_err-push.ensures.0 some
