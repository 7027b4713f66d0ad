use Rattle.std.proofs.Common.{w32}
use Rattle.std.proofs.lemmas.Simd.{below_from_Fits}
use Rattle.aes.proofs.StepLaws.{row_shifted}
use Rattle.aes.proofs.steps.shift_row.Goals as goal

pub returns : goal.returns
returns c = row_shifted c.args.x (below_from_Fits w32 c.args.x c.fits-x.1)
