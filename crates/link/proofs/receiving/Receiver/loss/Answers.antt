use Rattle.std.proofs.Common.{rules}
use Rattle.link.proofs.receiving.Receiver.loss.Goals as goal

pub returns : goal.returns
returns g c = search rules
