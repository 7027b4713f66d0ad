use Rattle.std.proofs.Common.{◌≡◌, replicate}
use Rattle.bench.specs.Turns.{again}
use Rattle.bench.proofs.bench_aes256.Given as goal

abbrev pub invariant-loop : goal.invariant-loop
invariant-loop l = (l.aes.key ≡ l.key) × (l.blocks ≡ replicate 8 (again l.counter l.key l.block))
