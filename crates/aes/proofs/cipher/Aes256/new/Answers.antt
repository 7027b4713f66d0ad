use Rattle.std.proofs.Common.{rules, length-set, ◌∙◌, refl}
use Rattle.units.proofs.FillLaws.{filled_none}
use Rattle.aes.specs.KeyExpansion.{round_key_of}
use Rattle.aes.proofs.BlockLaws.{encrypts_to_blocks}
use Rattle.aes.proofs.CipherLaws.{all_keys, key_more}
use Rattle.aes.proofs.cipher.Aes256.new.Goals as goal

pub loop-round-init : goal.loop-round-init
loop-round-init c = (refl, filled_none (round_key_of c.key_expansion-words.result))

pub loop-round-preserved : goal.loop-round-preserved
loop-round-preserved c =
    let l = c.loop-round in (
      length-set l.round_keys l.round _ ∙ l.invariant.0,
      key_more c.key_expansion-words.result l.round_keys l.round c.new.result l.invariant.0 (search rules) l.invariant.1 (c.new.ensures ∙ c.round_key.ensures),
    )

pub invariant_of-result : goal.invariant_of-result
invariant_of-result c =
    let l = c.loop-round in
    record {
      expanded = all_keys c.args.key.now c.key_expansion-words.result l.round_keys l.round l.invariant.0 (search rules) c.key_expansion-words.ensures l.invariant.1;
    }

pub returns-clause-blocks : goal.returns-clause-blocks
returns-clause-blocks c =
    let l = c.loop-round in
    encrypts_to_blocks c.laws.ensures.below c.args.key.now l.round_keys
    (all_keys c.args.key.now c.key_expansion-words.result l.round_keys l.round l.invariant.0 (search rules) c.key_expansion-words.ensures l.invariant.1)
