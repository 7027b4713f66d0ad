use Rattle.std.proofs.Common.{◌≡◌, length}
use Rattle.generator.specs.Generators.{Same}
use Rattle.aes_generator.specs.AesGenerator.{aes_meaning}
use Rattle.bench.specs.Turns.{encrypted_turns}
use Rattle.bench.proofs.messages.bench_nea5.Given as goal

abbrev pub invariant-loop-turn : goal.invariant-loop-turn
invariant-loop-turn l = record {
  same : Same (aes_meaning l.key) (aes_meaning l.generator.aes.key);
  work : length l.work ≡ 64;
  output : l.output ≡ encrypted_turns l.turn l.key l.count l.bits l.input l.fn.output;
}
