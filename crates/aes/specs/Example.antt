-- The example vector of FIPS 197 for AES-256.
use Rattle.std.specs.Prelude.{◌≡◌, List, [], ◌∷◌, ℕ}
use Rattle.std.specs.List.{range_with_len}
use Rattle.aes.specs.KeyExpansion.{aes256}

-- its key: 00 to 1F
abbrev pub key : List ℕ
key = range_with_len 0 32

-- its plaintext
abbrev pub plaintext : List ℕ
plaintext = 0x00 ∷ 0x11 ∷ 0x22 ∷ 0x33 ∷ 0x44 ∷ 0x55 ∷ 0x66 ∷ 0x77 ∷ 0x88 ∷ 0x99 ∷ 0xAA ∷ 0xBB ∷ 0xCC ∷ 0xDD ∷ 0xEE ∷ 0xFF ∷ []

-- its ciphertext
abbrev pub ciphertext : List ℕ
ciphertext = 0x8E ∷ 0xA2 ∷ 0xB7 ∷ 0xCA ∷ 0x51 ∷ 0x67 ∷ 0x45 ∷ 0xBF ∷ 0xEA ∷ 0xFC ∷ 0x49 ∷ 0x90 ∷ 0x4B ∷ 0x49 ∷ 0x60 ∷ 0x89 ∷ []

-- the definitions give it
abbrev pub ExampleStands : Type 0
ExampleStands = aes256 key plaintext ≡ ciphertext
