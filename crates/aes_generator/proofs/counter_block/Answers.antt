use Rattle.std.proofs.Common.{◌∙◌}
use Rattle.units.specs.Strings.{four}
use Rattle.aes_generator.proofs.AesGeneratorLaws.{counter_written}
use Rattle.aes_generator.proofs.counter_block.Goals as goal

pub returns : goal.returns
unfolding four
returns c =
    counter_written c.args.nonce.now.0 c.copy_from_slice.new.self c.copy_from_slice-2.new.self c.args.index c.copy_from_slice.ensures.len c.copy_from_slice.ensures.after
    (c.copy_from_slice-2.ensures.after ∙ c.to_be_bytes.ensures)
