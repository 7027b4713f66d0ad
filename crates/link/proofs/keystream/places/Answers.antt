use Rattle.std.proofs.Common.{rules}
use Rattle.units.specs.Lengths.{begun}
use Rattle.link.proofs.keystream.places.Goals as goal

pub returns : goal.returns
unfolding begun
returns c = search rules
