use Rattle.std.proofs.Common.{rules}
use Rattle.cover.proofs.work_area.WorkArea.drop.Goals as goal

pub returns : goal.returns
returns c = search rules
