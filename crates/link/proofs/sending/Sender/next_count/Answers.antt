use Rattle.std.proofs.Common.{rules}
use Rattle.link.proofs.sending.Sender.next_count.Goals as goal

pub returns : goal.returns
returns g c = search rules
