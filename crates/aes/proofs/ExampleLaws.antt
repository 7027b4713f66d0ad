-- The example of FIPS 197, computed.
use Rattle.std.proofs.Common.{refl}
use Rattle.polynomials.specs.Polynomials.{digitwise}
use Rattle.byte_field.specs.ByteField.{inverse, mul, squares, xtime}
use Rattle.byte_field.specs.Sbox.{sbox}
use Rattle.aes.specs.Cipher.{cipher, mix_columns, rounds, shift_rows}
use Rattle.aes.specs.Example.{ExampleStands}
use Rattle.aes.specs.KeyExpansion.{aes256, expanded, key_expansion, power, round_keys_of, words}

pub example_stands : ExampleStands
unfolding aes256 expanded key_expansion power round_keys_of words cipher mix_columns rounds shift_rows sbox mul xtime inverse squares digitwise
example_stands = refl
