use Rattle.std.specs.Str.{IsUtf8, chars}
use Rattle.std.specs.Str.Iter.{chars_rest}
use Rattle.generator.proofs.KeyLaws.{Read}
use Rattle.generator.proofs.keys.Key.from_text.Given as goal

abbrev pub invariant-loop-place : goal.invariant-loop-place
invariant-loop-place l = record {
  utf8 : IsUtf8 (chars_rest l.characters);
  read : Read (chars l.text) (chars (chars_rest l.characters)) l.place l.byte-items;
}
