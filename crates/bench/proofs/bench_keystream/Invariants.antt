use Rattle.std.proofs.Common.{◌≡◌}
use Rattle.polynomials.specs.Words.{sum_of}
use Rattle.field.specs.Blocks.{polynomial}
use Rattle.aes.specs.KeyExpansion.{aes256}
use Rattle.generator.specs.Generators.{Same}
use Rattle.aes_generator.specs.AesGenerator.{aes_meaning, counter_block}
use Rattle.bench.proofs.bench_keystream.Given as goal

abbrev pub invariant-loop-index : goal.invariant-loop-index
invariant-loop-index l =
    Same (aes_meaning l.key) (aes_meaning l.generator.aes.key)
    × (l.sum.0 ≡ sum_of l.index (λ i. polynomial (aes256 l.key (counter_block l.nonce.0 i))))
