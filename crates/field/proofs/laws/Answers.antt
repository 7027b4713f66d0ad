use Rattle.field.proofs.FoldLaws.{fold_stands}
use Rattle.field.proofs.TagLaws.{tag_long, tag_stands}
use Rattle.field.proofs.laws.Goals as goal

pub returns : goal.returns
returns c = record { folds = fold_stands c.laws.ensures; tags = tag_stands c.laws.ensures; long = tag_long }
