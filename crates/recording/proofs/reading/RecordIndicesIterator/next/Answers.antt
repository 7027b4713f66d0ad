use Rattle.std.proofs.Common.{◌≡◌, Some, Ok, arith}
use Rattle.recording.specs.Records.{entry}
use Rattle.recording.proofs.ReadingLaws.{ahead_none, ahead_some}
use Rattle.recording.proofs.reading.RecordIndicesIterator.next.Goals as goal

pub returns-in_err-ok-clause-steps : goal.returns-in_err-ok-clause-steps
returns-in_err-ok-clause-steps c =
    let reader = c.args.self.now.reader in
    rw (c.from_residual.ensures, c.next_record.ensures.same)
    (ahead_none reader.bytes.now reader.offset c.next_record.new.self.offset c.next_record.result (λ found e. grind arith) c.next_record.ensures.step)

pub returns-in_err-record-clause-steps : goal.returns-in_err-record-clause-steps
returns-in_err-record-clause-steps c =
    let reader = c.args.self.now.reader in
    rw (c.from_residual-in_err-record.ensures, c.next_record.ensures.same)
    (ahead_none reader.bytes.now reader.offset c.next_record.new.self.offset c.next_record.result (λ found e. grind arith) c.next_record.ensures.step)

pub returns-clause-steps : goal.returns-clause-steps
returns-clause-steps c =
    let reader = c.args.self.now.reader in
    let e = c.in_ok-record.record in
    let is : c.next_record.result ≡ Ok (Some e) = grind arith in
    let more = ahead_some reader.bytes.now reader.offset c.next_record.new.self.offset (entry e) (rw is at c.next_record.ensures.step) (rw is at c.next_record.ensures.lawful) in
    cc

pub returns-clause-goes : goal.returns-clause-goes
returns-clause-goes c = let next = returns-clause-steps c in grind (arith, next)
