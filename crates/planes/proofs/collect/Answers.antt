use Rattle.std.proofs.Common.{w32}
use Rattle.std.proofs.lemmas.Simd.{below_from_Fits}
use Rattle.planes.proofs.SpreadLaws.{collected_by_rows}
use Rattle.planes.proofs.collect.Goals as goal

pub returns : goal.returns
returns c = collected_by_rows c.args.rows (below_from_Fits w32 c.args.rows c.fits-rows.1)
