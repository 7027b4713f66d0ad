use Rattle.std.proofs.Common.{rules}
use Rattle.cover.proofs.work_area.WorkArea.len.Goals as goal

pub returns : goal.returns
returns c = search rules
