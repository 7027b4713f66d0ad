use Rattle.std.proofs.Common.{rules}
use Rattle.cover.proofs.keystream.cover_block.Goals as goal

pub returns-clause-out : goal.returns-clause-out
returns-clause-out g c = search rules
