use Rattle.planes.proofs.SpreadLaws.{to_states}
use Rattle.planes.proofs.Planes.to_blocks.Goals as goal

pub returns : goal.returns
returns c =
    to_states c.collect.result c.collect-2.result c.collect-3.result c.collect-4.result
    c.collect-5.result c.collect-6.result c.collect-7.result c.collect-8.result
    c.transposed-spread.result c.args.self
    c.collect.ensures c.collect-2.ensures c.collect-3.ensures c.collect-4.ensures
    c.collect-5.ensures c.collect-6.ensures c.collect-7.ensures c.collect-8.ensures
    c.transposed-spread.ensures
