-- What AES-256 encrypts to under a key, as bytes.
use Rattle.std.specs.Prelude.{◌≡◌, ℕ, List, length}
use Rattle.units.specs.Strings.{Octets}
use Rattle.aes.specs.KeyExpansion.{aes256}

-- whatever is encrypted, the encryption is a block: sixteen bytes
pub record EncryptsToBlocks (key : List ℕ) : Type 0 where
  pub sixteen : (block : List ℕ) → length (aes256 key block) ≡ 16
  pub octets : (block : List ℕ) → Octets (aes256 key block)
