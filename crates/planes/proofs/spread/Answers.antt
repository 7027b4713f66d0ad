use Rattle.std.proofs.Common.{rules}
use Rattle.planes.proofs.SpreadLaws.{spread_by_rows}
use Rattle.planes.proofs.spread.Goals as goal

pub returns : goal.returns
returns c = spread_by_rows c.args.state (search rules) (λ k. search rules)
