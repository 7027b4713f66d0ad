-- The tag, from H, Q and P.
use Rattle.std.specs.Prelude.{◌≡◌, ℕ, ◌≤◌, List, [], ◌∷◌, ◌++◌, length, take}
use Rattle.std.specs.Simd.Lanes.{digits_l}
use Rattle.units.specs.Strings.{Octets}
use Rattle.units.specs.Sums.{◌⊕◌, sums}
use Rattle.polynomials.specs.Field.{pdot}
use Rattle.field.specs.Blocks.{block_bytes, polynomial}
use Rattle.field.specs.Folds.{fold}

-- the message bits as four bytes at offset 0 and the AAD bits at offset 8, the least significant byte first
unfoldable pub lengths : ℕ → ℕ → ℕ
lengths bits aad_bits = polynomial (digits_l 256 4 bits ++ (0 ∷ 0 ∷ 0 ∷ 0 ∷ (digits_l 256 4 aad_bits ++ (0 ∷ 0 ∷ 0 ∷ 0 ∷ []))))

-- the AAD and then the ciphertext folded with h from zero, the lengths added, multiplied by q, and p added
unfoldable pub whole_tag : ℕ → ℕ → ℕ → ℕ → List ℕ → ℕ → List ℕ → ℕ
whole_tag h q p aad_bits aad bits ciphertext =
    pdot (fold h (fold h 0 aad_bits aad) bits ciphertext ⊕ lengths bits aad_bits) q ⊕ p

-- its first t bytes
unfoldable pub tag : ℕ → ℕ → ℕ → ℕ → ℕ → List ℕ → ℕ → List ℕ → List ℕ
tag h q p t aad_bits aad bits ciphertext = take t (block_bytes (whole_tag h q p aad_bits aad bits ciphertext))

-- two tags with the same H, Q and P, over AADs and ciphertexts of one length each, differ by the field value of the differences
abbrev pub TagStands : Type 0
TagStands =
    (h q p t aad_bits bits : ℕ) (aad aad' ciphertext ciphertext' : List ℕ)
    → length aad ≡ length aad'
    → length ciphertext ≡ length ciphertext'
    → Octets aad
    → Octets aad'
    → Octets ciphertext
    → Octets ciphertext'
    → sums (tag h q p t aad_bits aad bits ciphertext) (tag h q p t aad_bits aad' bits ciphertext')
    ≡ take t (block_bytes (pdot (fold h (fold h 0 aad_bits (sums aad aad')) bits (sums ciphertext ciphertext')) q))

-- a tag of at most sixteen bytes is as long as is asked
abbrev pub TagLong : Type 0
TagLong =
    (h q p t aad_bits bits : ℕ) (aad ciphertext : List ℕ)
    → t ≤ 16
    → length (tag h q p t aad_bits aad bits ciphertext) ≡ t
