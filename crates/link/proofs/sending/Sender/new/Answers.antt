use Rattle.std.proofs.Common.{rules}
use Rattle.link.proofs.sending.Sender.new.Goals as goal

pub returns-clause-next : goal.returns-clause-next
returns-clause-next g c = search rules
