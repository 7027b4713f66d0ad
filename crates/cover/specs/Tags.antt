-- The tag under a nonce.
use Rattle.std.specs.Prelude.{◌≡◌, ℕ, List, length, take}
use Rattle.units.specs.Strings.{Octets}
use Rattle.units.specs.Sums.{sums}
use Rattle.polynomials.specs.Field.{pdot}
use Rattle.field.specs.Blocks.{block_bytes, polynomial}
use Rattle.field.specs.Folds.{fold}
use Rattle.field.specs.Tags.{tag}
use Rattle.generator.specs.Generators.{Meaning}

-- H, Q and P are blocks 0, 1 and 2 under the nonce
abbrev pub key_h : Meaning → List ℕ → ℕ
key_h m n = polynomial (m.block n 0)

abbrev pub key_q : Meaning → List ℕ → ℕ
key_q m n = polynomial (m.block n 1)

abbrev pub key_p : Meaning → List ℕ → ℕ
key_p m n = polynomial (m.block n 2)

-- the tag of t bytes over AAD and ciphertext
unfoldable pub tag_under : Meaning → List ℕ → ℕ → ℕ → List ℕ → ℕ → List ℕ → List ℕ
tag_under m n t aad_bits aad bits ciphertext = tag (key_h m n) (key_q m n) (key_p m n) t aad_bits aad bits ciphertext

-- the first t bytes of the field value of AAD and ciphertext: both folded from zero with H, and the sum multiplied by Q
unfoldable pub field_value : Meaning → List ℕ → ℕ → ℕ → List ℕ → ℕ → List ℕ → List ℕ
field_value m n t aad_bits aad bits ciphertext =
    take t (block_bytes (pdot (fold (key_h m n) (fold (key_h m n) 0 aad_bits aad) bits ciphertext) (key_q m n)))

-- of two ciphertexts and AADs of equal lengths under one nonce, the sum of the tags is the first t bytes of the field value of
-- their difference
abbrev pub TwoTags : Type 0
TwoTags =
    (m : Meaning) (n : List ℕ) (t aad_bits : ℕ) (aad aad' : List ℕ) (bits : ℕ) (ciphertext ciphertext' : List ℕ)
    → length aad ≡ length aad'
    → length ciphertext ≡ length ciphertext'
    → Octets aad
    → Octets aad'
    → Octets ciphertext
    → Octets ciphertext'
    → sums (tag_under m n t aad_bits aad bits ciphertext) (tag_under m n t aad_bits aad' bits ciphertext')
    ≡ field_value m n t aad_bits (sums aad aad') bits (sums ciphertext ciphertext')
