use Rattle.std.proofs.Common.{refl}
use Rattle.units.specs.Lengths.{begun, filled}
use Rattle.units.specs.Spare.{high}
use Rattle.units.specs.Strings.{four, four_at, two, two_at}
use Rattle.polynomials.specs.Polynomials.{digitwise, lowered, product, remainder}
use Rattle.polynomials.specs.Field.{pdot}
use Rattle.field.specs.Blocks.{block_bytes, blocks, blocks_by}
use Rattle.field.specs.Folds.{fold, folded}
use Rattle.field.specs.Tags.{lengths, tag, whole_tag}
use Rattle.nonces.specs.Nonces.{nonce}
use Rattle.cover.specs.Keystream.{covered, stream}
use Rattle.cover.specs.Tags.{tag_under}
use Rattle.windows.specs.Windows.{mark}
use Rattle.frames.specs.Frames.{frame_length, head, layout, parts}
use Rattle.link.specs.Answers.{over}
use Rattle.link.specs.Seals.{sealed_parts}
use Rattle.known.specs.Known.{table}
use Rattle.known.proofs.FlatLaws.{flat_sound}
use Rattle.known.proofs.known_values.Goals as goal

pub returns : goal.returns
unfolding table block_bytes pdot product remainder digitwise lowered high begun filled four blocks blocks_by fold folded lengths tag whole_tag nonce covered stream tag_under two four_at two_at mark frame_length head layout parts over sealed_parts
returns c = record { count = refl; agree = refl; flat = flat_sound }
