use Rattle.planes.proofs.ExchangeLaws.{exchanged}
use Rattle.planes.proofs.exchange.Goals as goal

pub returns : goal.returns
returns c = exchanged c.args.distance c.args.mask c.args.a c.args.b c.fits-a.0 c.fits-b.0 c.requires.positive c.requires.masks
