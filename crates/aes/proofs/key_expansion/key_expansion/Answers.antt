use Rattle.std.proofs.Common.{rules, length-set, ◌∙◌}
use Rattle.aes.proofs.KeyLaws.{expanded_more, expansion_done, word_more}
use Rattle.aes.proofs.key_expansion.key_expansion.Goals as goal

pub loop-i-preserved : goal.loop-i-preserved
loop-i-preserved c =
    let l = c.loop-i in
    (length-set l.words l.i _ ∙ l.invariant.0, word_more c.args.key.now l.words l.i l.invariant.0 c.told-key (search rules) l.invariant.1)

pub loop-i-2-preserved : goal.loop-i-2-preserved
loop-i-2-preserved c =
    let l = c.loop-i-2 in (
      length-set l.words l.i _ ∙ l.invariant.0,
      expanded_more c.args.key.now l.words l.i c.addend.result c.sum.result l.invariant.0 (search rules) (search rules) l.invariant.1 c.addend.ensures c.sum.ensures,
    )

pub returns : goal.returns
returns c = let l = c.loop-i-2 in expansion_done c.args.key.now l.words l.i l.invariant.0 (search rules) l.invariant.1
