use Rattle.std.proofs.Common.{◌≡◌, Some, arith}
use Rattle.std.proofs.lemmas.List.{take_rest}
use Rattle.recording.specs.Records.{entry}
use Rattle.recording.proofs.ReadingLaws.{moved}
use Rattle.recording.proofs.reading.Reader.next_record.Goals as goal

pub returns-clause-lawful : goal.returns-clause-lawful
returns-clause-lawful c =
    let e = c.in_ok-record.record in
    let rest = c.in_ok-record.rest in
    let found : c.first.result ≡ Some (e, rest) = grind arith in
    let there = rw (found, take_rest) at c.first.ensures.faithful in
    moved c.args.self.now.bytes.now c.args.self.now.offset (entry e) rest.now (omega arith) there
