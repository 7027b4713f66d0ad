use Rattle.std.proofs.Common.{rules, ◌≡◌, None, Ok, Err, arith, sym, ◌∙◌}
use Rattle.std.specs.Str.{chars}
use Rattle.std.specs.Str.Iter.{chars_rest}
use Rattle.std.proofs.lemmas.Result.{err_from_is_err_and}
use Rattle.generator.proofs.KeyLaws.{high_faulty, low_faulty, read_all, read_longer, read_more, told, told_digit, told_end, told_first, told_more}
use Rattle.generator.proofs.keys.Key.from_text.Goals as goal

pub returns-in_err-high : goal.returns-in_err-high
returns-in_err-high c =
    let left = c.loop-place.characters in
    let none : c.and_then.result ≡ None = grind arith in
    let ends = sym none ∙ told_first left c.next.new.self c.next.result c.and_then.result c.next.ensures.steps (search rules) in
    let faulty = high_faulty (chars c.args.text.now) (chars (chars_rest left)) c.loop-place.place c.loop-place.byte-items c.loop-place.invariant.read (omega arith) ends in
    let exit = err_from_is_err_and c.from_residual.result c.from_residual.ensures.1 in
    told c.args.text.now c.from_residual.result c.utf8.text (rw (exit.1, exit.2) (grind (arith, faulty)))

pub returns-in_err-low : goal.returns-in_err-low
returns-in_err-low c =
    let l = c.loop-place in
    let left = l.characters in
    let next = c.next.new.self in
    let high = told_digit left next c.next.result c.and_then.result c.in_ok-high.high l.invariant.utf8 c.next.ensures.steps (search rules) (grind arith) in
    let none : c.and_then-in-loop-place.result ≡ None = grind arith in
    let step = c.next-in-loop-place in
    let ends = sym none ∙ told_first next step.new.self step.result c.and_then-in-loop-place.result step.ensures.steps (search rules) in
    let text = chars c.args.text.now in
    let faulty = low_faulty text (chars (chars_rest left)) l.place l.byte-items c.in_ok-high.high (chars (chars_rest next)) l.invariant.read (omega arith) high.digit ends in
    let exit = err_from_is_err_and c.from_residual-in_err-low.result c.from_residual-in_err-low.ensures.1 in
    told c.args.text.now c.from_residual-in_err-low.result c.utf8.text (rw (exit.1, exit.2) (grind (arith, faulty)))

pub loop-place-preserved : goal.loop-place-preserved
loop-place-preserved c =
    let l = c.loop-place in
    let left = l.characters in
    let next = c.next.new.self in
    let step = c.next-in-loop-place in
    let last = step.new.self in
    let high = told_digit left next c.next.result c.and_then.result c.in_ok-high.high l.invariant.utf8 c.next.ensures.steps (search rules) (grind arith) in
    let low = told_digit next last step.result c.and_then-in-loop-place.result c.in_ok-low.low high.utf8 step.ensures.steps (search rules) (grind arith) in
    record {
      utf8 = low.utf8;
      read =
          read_more (chars c.args.text.now) (chars (chars_rest left)) l.place l.byte-items c.in_ok-high.high c.in_ok-low.low (chars (chars_rest next)) (chars (chars_rest last))
          l.invariant.read (omega arith) high.digit low.digit;
    }

pub returns-in-None : goal.returns-in-None
returns-in-None c =
    let left = c.loop-place.characters in
    let end = told_end left c.next-2.new.self (rw c.in-None.is at c.next-2.ensures.steps) in
    told c.args.text.now (Ok (record { 0 = c.loop-place.byte-items })) c.utf8.text
    (read_all (chars c.args.text.now) (chars (chars_rest left)) c.loop-place.byte-items c.loop-place.place c.loop-place.invariant.read (omega arith) (omega arith) end)

pub returns-in-Some : goal.returns-in-Some
returns-in-Some c =
    let left = c.loop-place.characters in
    let more = told_more left c.next-2.new.self c.in-Some.field-0 (rw c.in-Some.is at c.next-2.ensures.steps) in
    let faulty = read_longer (chars c.args.text.now) (chars (chars_rest left)) c.loop-place.byte-items c.loop-place.place c.loop-place.invariant.read (omega arith) (omega arith) more in
    told c.args.text.now (Err c.refuse-in-Some.result) c.utf8.text (rw c.refuse-in-Some.ensures faulty)
