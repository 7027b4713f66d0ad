use Rattle.std.proofs.Common.{◌≡◌, ◌≤◌}
use Rattle.windows.specs.Windows.{opened_of}
use Rattle.windows.proofs.opened_of.Given as goal

abbrev pub invariant-loop-k : goal.invariant-loop-k
invariant-loop-k l = record { all : l.found ≡ opened_of l.k l.opened; most : l.found ≤ l.k }
