use Rattle.std.proofs.Common.{rules, arith, false, [], ◌≡◌, ◌+◌, ◌-◌, ◌^◌, ◌++◌, get_or, take}
use Rattle.std.proofs.Output.{has_written_append, has_written_of_eq}
use Rattle.std.proofs.lemmas.Fmt.{hex_byte}
use Rattle.std.proofs.lemmas.List.{flat_map_more, take_more}
use Rattle.std.specs.Fmt.{HasWritten, digits, format_spec, padded_integral}
use Rattle.hexadecimal.specs.Hex.{two_digits, written}
use Rattle.hexadecimal.proofs.HexDisplay.fmt.Goals as goal

pub loop-byte-preserved : goal.loop-byte-preserved
loop-byte-preserved g c = λ plain.
    let bytes = c.args.self.now.0.now in
    let i = c.loop-byte.byte-index in
    let byte = get_or bytes i 0 in
    let padded = padded_integral (format_spec 32 0 4 2 (2 ^ 64 - 1)) false [] (digits 16 false byte) in
    let one : HasWritten g.W.Write.write_str_gives c.loop-byte.f padded c.write.new.self = search rules in
    let more : written (take i bytes) ++ padded ≡ written (take (i + 1) bytes) =
    rw (hex_byte false byte (omega arith), take_more bytes i 0 c.loop-byte-test.true)
    (flat_map_more two_digits [] (take i bytes) byte) in
    has_written_of_eq _ _ _ _ _ more (has_written_append _ _ _ _ _ _ (c.loop-byte.invariant plain) one)
