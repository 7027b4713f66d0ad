use Rattle.aes_generator.proofs.AesGeneratorLaws.{aes_sound}
use Rattle.aes_generator.proofs.AesGenerator.new.Goals as goal

pub invariant_of-result-clause-sound : goal.invariant_of-result-clause-sound
invariant_of-result-clause-sound c = aes_sound c.new-aes.result.key c.new-aes.ensures.blocks
