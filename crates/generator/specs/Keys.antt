-- Keys and their texts.
use Rattle.std.specs.Prelude.{◌≡◌, ℕ, ◌+◌, ◌-◌, ◌*◌, ◌/◌, ◌%◌, min, Bool, cond, ◌&&◌, List, [], ◌∷◌, length, Some, None, Ok, Err, Option, Result, ◌==◌, nat_le, is_some, unwrap_or, flat_map}
use Rattle.std.specs.Char.{digit_char}
use Rattle.std.specs.List.{prefix_len}
use Rattle.std.specs.Str.{chars}
use Rattle.units.specs.Refusals.{refusal}
use Rattle.units.specs.Strings.{Octets}
use Rattle.units.specs.declared.refusals.Layer.TheVariants.{KeyText}
use Rattle.units.specs.declared.refusals.Reason.TheVariants.{FaultyKey}
use Rattle.units.specs.declared.refusals.Refusal.{Refusal}
use Rattle.generator.specs.declared.keys.Key.{Key}

-- 16: a fault of the key text after so many good characters
abbrev pub faulty : ℕ → Refusal
faulty good = refusal FaultyKey KeyText good

-- the value of a digit, by its code: 0 to 9, a to f
abbrev pub digit : ℕ → Option ℕ
digit c =
    cond (nat_le 48 c && nat_le c 57) (Some (c - 48))
    (cond (nat_le 97 c && nat_le c 102) (Some (c - 97 + 10)) None)

-- whether a character is a digit
abbrev pub is_digit : ℕ → Bool
is_digit c = is_some (digit c)

-- the bytes of digits, two to each, the high one first
abbrev pub bytes_of : List ℕ → List ℕ
bytes_of [] = []
bytes_of (high ∷ []) = []
bytes_of (high ∷ low ∷ cs) = (16 * unwrap_or (digit high) 0 + unwrap_or (digit low) 0) ∷ bytes_of cs

-- how many good characters there are before the first fault, at most 64
abbrev pub good : List ℕ → ℕ
good cs = min 64 (prefix_len is_digit cs)

-- the key of these characters: they have to be 64, all of them good
abbrev pub key_of : List ℕ → Result Key Refusal
key_of cs = cond (good cs == 64 && length cs == 64) (Ok (record { 0 = bytes_of cs })) (Err (faulty (good cs)))

-- the key that a text is
abbrev pub key_read : List ℕ → Result Key Refusal
key_read text = key_of (chars text)

-- a byte as two digits, the high one first
abbrev pub two_digits : ℕ → List ℕ
two_digits b = digit_char (b / 16) ∷ digit_char (b % 16) ∷ []

-- the text of a key
abbrev pub key_text : List ℕ → List ℕ
key_text bytes = flat_map two_digits bytes

-- each key is read from its own text, and from no other
pub record OwnText (text : List ℕ) (answer : Result Key Refusal) : Type 0 where
  pub read : (bytes : List ℕ) → length bytes ≡ 32 → Octets bytes → text ≡ key_text bytes → answer ≡ Ok (record { 0 = bytes })
  pub own : (key : Key) → answer ≡ Ok key → text ≡ key_text key.0
