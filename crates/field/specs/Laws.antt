-- What the layers above rest on.
use Rattle.field.specs.Folds.{FoldStands}
use Rattle.field.specs.Tags.{TagLong, TagStands}

-- the laws of the fold and of the tag
pub record FieldLaws : Type 0 where
  pub folds : FoldStands
  pub tags : TagStands
  pub long : TagLong
