use Rattle.cover.proofs.CoverLaws.{cover_laws}
use Rattle.cover.proofs.laws.Goals as goal

pub returns : goal.returns
returns c = cover_laws c.laws.ensures c.laws-2.ensures
