-- Bytes as hexadecimal text: two characters to a byte, the high digit first.
use Rattle.std.specs.Prelude.{ℕ, ◌+◌, ◌-◌, ◌*◌, ◌/◌, ◌%◌, cond, ◌&&◌, List, [], ◌∷◌, Some, None, Option, nat_le, codes, flat_map}
use Rattle.std.specs.Char.{digit_char}

-- the value of a digit, by its code: 0 to 9, a to f, A to F
abbrev pub digit : ℕ → Option ℕ
digit c =
    cond (nat_le 48 c && nat_le c 57) (Some (c - 48))
    (cond (nat_le 97 c && nat_le c 102) (Some (c - 97 + 10)) (cond (nat_le 65 c && nat_le c 70) (Some (c - 65 + 10)) None))

-- the byte that two digits stand for
abbrev pub byte_of : Option ℕ → Option ℕ → Option ℕ
byte_of (Some high) (Some low) = Some (high * 16 + low)
byte_of (Some high) None = None
byte_of None low = None

abbrev pub byte : ℕ → ℕ → Option ℕ
byte high low = byte_of (digit high) (digit low)

-- a byte before others
abbrev pub before : Option ℕ → Option (List ℕ) → Option (List ℕ)
before (Some b) (Some bytes) = Some (b ∷ bytes)
before (Some b) None = None
before None bytes = None

-- the bytes that a text stands for
abbrev pub decoded : List ℕ → Option (List ℕ)
decoded [] = Some []
decoded (high ∷ []) = None
decoded (high ∷ low ∷ text) = before (byte high low) (decoded text)

-- a byte as two digits in small letters, the high one first
abbrev pub two_digits : ℕ → List ℕ
two_digits b = digit_char (b / 16) ∷ digit_char (b % 16) ∷ []

-- bytes as pairs of digits
abbrev pub written : List ℕ → List ℕ
written bytes = flat_map two_digits bytes

-- bytes as `Hex` shows them, `-` for none
abbrev pub shown : List ℕ → List ℕ
shown [] = codes "-"
shown (b ∷ bytes) = written (b ∷ bytes)
