use Rattle.std.proofs.Common.{rules}
use Rattle.link.proofs.receiving.Receiver.new.Goals as goal

pub invariant_of-result : goal.invariant_of-result
invariant_of-result g c = search rules
