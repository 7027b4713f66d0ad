use Rattle.std.proofs.Common.{rules}
use Rattle.capi.proofs.combined.catsvomi_nca5_cover.Goals as goal

pub returns-clause-outcome : goal.returns-clause-outcome
returns-clause-outcome c = search rules
