use Rattle.std.proofs.Common.{Ok, arith}
use Rattle.std.proofs.lemmas.Result.{err_from_is_err_and}
use Rattle.recording.specs.Records.{entry}
use Rattle.recording.proofs.CheckingLaws.{ended, faulted, reached_more, told}
use Rattle.recording.proofs.checking.check.Goals as goal

pub returns-in_err-_record : goal.returns-in_err-_record
returns-in_err-_record c =
    let xs = c.args.bytes.now in
    let inv = c.loop-record.invariant in
    let step = rw inv.same at c.in_err-_record.ensures.step in
    let fault = faulted xs c.loop-record.reader.offset c.next_record.new.self.offset c.in_err-_record.field-0.0 inv.reached step in
    let exit = err_from_is_err_and c.from_residual.result c.from_residual.ensures.1 in
    told xs c.from_residual.result (λ k. omega (arith, c.type_inv.bytes k)) (rw (exit.1, exit.2) fault)

pub loop-record-preserved : goal.loop-record-preserved
loop-record-preserved c =
    let inv = c.loop-record.invariant in
    let moved = rw (inv.same, c.in-Some.is) at c.in_ok-_record.ensures.lawful in
    record { same = cc; reached = reached_more c.args.bytes.now c.loop-record.reader.offset c.next_record.new.self.offset (entry c.in-Some._record) inv.reached moved }

pub returns : goal.returns
returns c =
    let xs = c.args.bytes.now in
    let inv = c.loop-record.invariant in
    let step = rw (inv.same, c.in_default.is) at c.in_ok-_record.ensures.step in
    let end = ended xs c.loop-record.reader.offset c.next_record.new.self.offset inv.reached step in
    told xs (Ok tt) (λ k. omega (arith, c.type_inv.bytes k)) end
