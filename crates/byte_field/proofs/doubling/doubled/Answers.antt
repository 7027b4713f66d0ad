use Rattle.std.proofs.Common.{rules}
use Rattle.byte_field.proofs.ByteFieldLaws.{byte_field_stands}
use Rattle.byte_field.proofs.CircuitLaws.{doubled_circuit, doubled_states}
use Rattle.byte_field.proofs.doubling.doubled.Goals as goal

pub returns-clause-value : goal.returns-clause-value
unfolding doubled_circuit
returns-clause-value c = doubled_states c.args.q (search rules)

pub returns-clause-stands : goal.returns-clause-stands
returns-clause-stands c = byte_field_stands
