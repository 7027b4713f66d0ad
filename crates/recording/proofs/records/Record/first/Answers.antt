use Rattle.std.proofs.Common.{arith, rules}
use Rattle.std.specs.Option.{option_map}
use Rattle.recording.specs.Records.{parsed}
use Rattle.recording.proofs.RecordLaws.{found_faithful}
use Rattle.recording.proofs.records.Record.first.Goals as goal

pub returns-in-KEYSTREAM_MARK-clause-faithful : goal.returns-in-KEYSTREAM_MARK-clause-faithful
returns-in-KEYSTREAM_MARK-clause-faithful c = found_faithful c.args.bytes.now (option_map parsed c.keystream.result) (λ k. omega (arith, c.type_inv.bytes k)) (search rules)

pub returns-in-REMARK_MARK-clause-faithful : goal.returns-in-REMARK_MARK-clause-faithful
returns-in-REMARK_MARK-clause-faithful c = found_faithful c.args.bytes.now (option_map parsed c.remark.result) (λ k. omega (arith, c.type_inv.bytes k)) (search rules)
