use Rattle.std.proofs.Common.{rules}
use Rattle.cover.proofs.refusing.refuse_short.Goals as goal

pub returns-then-reach-need-clause-value : goal.returns-then-reach-need-clause-value
returns-then-reach-need-clause-value g c = search rules
