use Rattle.std.proofs.Common.{◌≡◌, length}
use Rattle.generator.specs.Generators.{Same}
use Rattle.aes_generator.specs.AesGenerator.{aes_meaning}
use Rattle.bench.specs.Turns.{covered_turns}
use Rattle.bench.proofs.messages.bench_nca5_cover.Given as goal

abbrev pub invariant-loop : goal.invariant-loop
invariant-loop l = record {
  same : Same (aes_meaning l.key) (aes_meaning l.generator.aes.key);
  work : length l.work ≡ 64;
  ciphertext : l.ciphertext ≡ (covered_turns l.counter l.key l.count l.aad_bits l.aad l.bits l.message l.fn.ciphertext l.fn.tag).ciphertext;
  tag : l.tag ≡ (covered_turns l.counter l.key l.count l.aad_bits l.aad l.bits l.message l.fn.ciphertext l.fn.tag).tag;
}
