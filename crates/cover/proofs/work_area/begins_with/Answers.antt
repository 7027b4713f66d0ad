use Rattle.cover.proofs.TagLaws.{difference_none}
use Rattle.cover.proofs.work_area.begins_with.Goals as goal

pub loop-i-init : goal.loop-i-init
loop-i-init c = difference_none c.args.tag.now c.args.bytes.now
