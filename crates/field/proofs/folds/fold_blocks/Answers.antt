use Rattle.std.proofs.Common.{rules}
use Rattle.field.proofs.FoldLaws.{folded_from_fold}
use Rattle.field.proofs.folds.fold_blocks.Goals as goal

pub returns : goal.returns
returns g c = λ bs all. folded_from_fold {steps = g.I.Iterator.next_gives} {s = c.args.blocks} _ c.args.h.0 c.args.v c.fold.result bs c.fold.ensures.ran (record { runs = all }) (λ a b w q k. search rules)
