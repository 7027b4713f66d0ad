use Rattle.std.proofs.Common.{rules}
use Rattle.capi.proofs.integrity.catsvomi_nia5.Goals as goal

pub returns-clause-outcome : goal.returns-clause-outcome
returns-clause-outcome c = search rules
