use Rattle.field.specs.Tags.{whole_tag}
use Rattle.cover.proofs.tags.put_tag.Goals as goal

pub returns-clause-tag : goal.returns-clause-tag
unfolding whole_tag
returns-clause-tag g c = cc
