-- What the generators of the commands mean.
use Rattle.std.specs.Vec.{vec_items}
use Rattle.generator.specs.Generators.{Meaning, Sound}
use Rattle.generator.specs.Pairs.{both}
use Rattle.generator.specs.Soundness.{both_sound}
use Rattle.aes_generator.specs.AesGenerator.{aes_meaning}
use Rattle.playing.specs.Playing.{played}
use Rattle.catsvomi.specs.declared.sources.SourceGenerator.{SourceGenerator}
use Rattle.catsvomi.specs.declared.sources.SourceGenerator.TheVariants.{Aes, Playback}
use Rattle.catsvomi.specs.declared.sources.LineGenerator.{LineGenerator}
use Rattle.catsvomi.specs.declared.sources.LineGenerator.TheVariants.{One, Two}

-- the meaning of the one that it is
abbrev pub source_meaning : SourceGenerator → Meaning
source_meaning (Aes g) = aes_meaning g.aes.key
source_meaning (Playback g) = played (vec_items g.bytes)

-- that meaning is sound: at most 2^32 blocks under a nonce, each of sixteen bytes
pub source_sound : (g : SourceGenerator) → Sound (source_meaning g)
source_sound (Aes g) = g.sound
source_sound (Playback g) = g.sound

-- the meaning of the one source, or of the pair
abbrev pub line_meaning : LineGenerator → Meaning
line_meaning (One g) = source_meaning g
line_meaning (Two g) = both (source_meaning g.left) (source_meaning g.right)

-- so is that of a line
pub line_sound : (g : LineGenerator) → Sound (line_meaning g)
line_sound (One g) = source_sound g
line_sound (Two g) = both_sound (source_meaning g.left) (source_meaning g.right) (source_sound g.left) (source_sound g.right)
