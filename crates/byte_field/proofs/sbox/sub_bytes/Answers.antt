use Rattle.std.proofs.Common.{rules}
use Rattle.byte_field.proofs.ByteFieldLaws.{byte_field_stands}
use Rattle.byte_field.proofs.SboxLaws.{table_stands}
use Rattle.byte_field.proofs.CircuitLaws.{sbox_circuit, sbox_states}
use Rattle.byte_field.proofs.sbox.sub_bytes.Goals as goal

pub returns-clause-value : goal.returns-clause-value
unfolding sbox_circuit
returns-clause-value c = sbox_states c.args.q (search rules)

pub returns-clause-table : goal.returns-clause-table
returns-clause-table c = table_stands

pub returns-clause-stands : goal.returns-clause-stands
returns-clause-stands c = byte_field_stands
