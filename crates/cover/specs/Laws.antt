-- What the layers above rest on.
use Rattle.std.specs.Prelude.{◌≡◌, ℕ, ◌≤◌, true, List, length}
use Rattle.units.specs.Lengths.{begun, filled}
use Rattle.units.specs.Spare.{clear, cleared}
use Rattle.units.specs.Strings.{Octets}
use Rattle.units.specs.Sums.{sums}
use Rattle.generator.specs.Generators.{IsNonce, Meaning, Same, Sound}
use Rattle.nonces.specs.Nonces.{extra_bytes}
use Rattle.nonces.specs.declared.Parameters.{Parameters}
use Rattle.cover.specs.Keystream.{covered}
use Rattle.cover.specs.Tags.{tag_under}
use Rattle.cover.specs.Combined.{Nca5Stands, nca5_cover, nca5_open}
use Rattle.cover.specs.Encryption.{Nea5Twice, nea5}
use Rattle.cover.specs.Integrity.{nia5}

-- a text of so many bits, which a sound generator's keystream under a nonce reaches
pub record Coverable (m : Meaning) (n : List ℕ) (bits : ℕ) (text : List ℕ) : Type 0 where
  pub sound : Sound m
  pub nonce : IsNonce n
  pub enough : begun bits ≤ m.reach n
  pub long : length text ≡ filled bits

-- what holds of a text that is covered
pub record CoveredStands : Type 0 where
  -- its spare bits are clear
  pub spare : (m : Meaning) (n : List ℕ) (bits : ℕ) (text : List ℕ) → clear bits (covered m n bits text) ≡ true
  -- it is as long as before
  pub long :
      (m : Meaning) (n : List ℕ) (bits : ℕ) (text : List ℕ)
      → Coverable m n bits text
      → length (covered m n bits text) ≡ filled bits
  -- it is bytes
  pub octets :
      (m : Meaning) (n : List ℕ) (bits : ℕ) (text : List ℕ)
      → Coverable m n bits text
      → Octets text
      → Octets (covered m n bits text)
  -- covered twice, it is as before, its spare bits cleared
  pub twice :
      (m : Meaning) (n : List ℕ) (bits : ℕ) (text : List ℕ)
      → Coverable m n bits text
      → covered m n bits (covered m n bits text) ≡ cleared bits text
  -- another ciphertext as long uncovers to the text plus the difference of the two
  pub other :
      (m : Meaning) (n : List ℕ) (bits : ℕ) (text other : List ℕ)
      → Coverable m n bits text
      → length other ≡ filled bits
      → clear bits other ≡ true
      → covered m n bits other ≡ sums (cleared bits text) (sums (covered m n bits text) other)

-- a tag of at most sixteen bytes is as long as is asked
abbrev pub TagLong : Type 0
TagLong =
    (m : Meaning) (n : List ℕ) (t aad_bits : ℕ) (aad : List ℕ) (bits : ℕ) (ciphertext : List ℕ)
    → t ≤ 16
    → length (tag_under m n t aad_bits aad bits ciphertext) ≡ t

-- a tag is bytes
abbrev pub TagOctets : Type 0
TagOctets =
    (m : Meaning) (n : List ℕ) (t aad_bits : ℕ) (aad : List ℕ) (bits : ℕ) (ciphertext : List ℕ)
    → Octets (tag_under m n t aad_bits aad bits ciphertext)

-- generators that mean the same cover alike and make the same tags, as far as they reach
pub record SameStands : Type 0 where
  pub covered :
      (m m' : Meaning) (n : List ℕ) (bits : ℕ) (text : List ℕ)
      → Same m m'
      → IsNonce n
      → begun bits ≤ m.reach n
      → covered m' n bits text ≡ covered m n bits text
  pub tag :
      (m m' : Meaning) (n : List ℕ) (t aad_bits : ℕ) (aad : List ℕ) (bits : ℕ) (ciphertext : List ℕ)
      → Same m m'
      → IsNonce n
      → 3 ≤ m.reach n
      → tag_under m' n t aad_bits aad bits ciphertext ≡ tag_under m n t aad_bits aad bits ciphertext

-- so each call answers and writes the same over them, whatever it is given
pub record SameCalls : Type 0 where
  pub nea5 :
      (m m' : Meaning) (work : ℕ) (p : Parameters) (bits : ℕ) (input output : List ℕ)
      → Same m m'
      → Octets (extra_bytes p.extra_iv)
      → nea5 m' work p bits input output ≡ nea5 m work p bits input output
  pub nia5 :
      (m m' : Meaning) (work : ℕ) (p : Parameters) (t bits : ℕ) (text out : List ℕ)
      → Same m m'
      → Octets (extra_bytes p.extra_iv)
      → nia5 m' work p t bits text out ≡ nia5 m work p t bits text out
  pub cover :
      (m m' : Meaning) (work : ℕ) (p : Parameters) (t aad_bits : ℕ) (aad : List ℕ) (bits : ℕ) (message ciphertext tag : List ℕ)
      → Same m m'
      → Octets (extra_bytes p.extra_iv)
      → nca5_cover m' work p t aad_bits aad bits message ciphertext tag
      ≡ nca5_cover m work p t aad_bits aad bits message ciphertext tag
  pub opens :
      (m m' : Meaning) (work : ℕ) (p : Parameters) (t aad_bits : ℕ) (aad : List ℕ) (bits : ℕ) (ciphertext tag message : List ℕ)
      → Same m m'
      → Octets (extra_bytes p.extra_iv)
      → nca5_open m' work p t aad_bits aad bits ciphertext tag message
      ≡ nca5_open m work p t aad_bits aad bits ciphertext tag message

-- what holds of the cover
pub record CoverLaws : Type 0 where
  pub nea5 : Nea5Twice
  pub nca5 : Nca5Stands
  pub covered : CoveredStands
  pub long : TagLong
  pub octets : TagOctets
  pub same : SameStands
  pub calls : SameCalls
