-- What the layers above rest on.
use Rattle.byte_field.specs.ByteField.{ByteFieldStands}
use Rattle.byte_field.specs.Sbox.{SboxBelow, TableStands}

-- the laws of the bytes and of the S-box
pub record ByteFieldLaws : Type 0 where
  pub bytes : ByteFieldStands
  pub table : TableStands
  pub below : SboxBelow
