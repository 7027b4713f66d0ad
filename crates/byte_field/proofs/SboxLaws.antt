-- The S-box.
use Rattle.std.proofs.Common.{ℕ, ◌/◌, ◌%◌, ◌^◌, ◌<◌, mod-lt, lit<, refl}
use Rattle.std.proofs.lemmas.Nat.{xor_lt}
use Rattle.std.specs.List.{range_with_len}
use Rattle.units.specs.Sums.{◌⊕◌}
use Rattle.polynomials.specs.Polynomials.{digitwise}
use Rattle.byte_field.specs.ByteField.{inverse, mul, squares, xtime}
use Rattle.byte_field.specs.Laws.{ByteFieldLaws}
use Rattle.byte_field.specs.Sbox.{SboxBelow, TableStands, affine_bit, sbox, table}
use Rattle.byte_field.proofs.ByteFieldLaws.{byte_field_stands}
use Rattle.byte_field.proofs.NumberLaws.{number_lt}

pub table_stands : TableStands
unfolding table sbox inverse squares mul digitwise xtime
table_stands = refl

affine_bit_lt : (b i : ℕ) → affine_bit b i < 2
affine_bit_lt b i = more _ _ (more _ _ (more _ _ (more _ _ (more _ _ (low (b / 2 ^ (i % 8)))))))
  where
    low : (n : ℕ) → n % 2 < 2
    low n = mod-lt n (lit< tt)

    more : (x n : ℕ) → x < 2 → x ⊕ n % 2 < 2
    more x n h = xor_lt 1 x (n % 2) h (low n)

sbox_lt : SboxBelow
unfolding sbox
sbox_lt b = number_lt (affine_bit (inverse b)) (affine_bit_lt (inverse b)) (range_with_len 0 8)

pub byte_field_laws : ByteFieldLaws
byte_field_laws = record { bytes = byte_field_stands; table = table_stands; below = sbox_lt }
