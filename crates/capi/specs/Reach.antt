-- That AES-256 has keystream enough for every call.
use Rattle.std.specs.Prelude.{◌≡◌, ℕ, ◌^◌, ◌<◌, List, None}
use Rattle.units.specs.Lengths.{begun}
use Rattle.aes_generator.specs.AesGenerator.{aes_meaning}
use Rattle.cover.specs.Answers.{too_short}

-- neither the three blocks of H, Q and P nor a message, whose number of bits is below 2^32, go past the reach under a nonce:
-- the test of 13 is never met
pub record Reached : Type 0 where
  pub keys : (key n : List ℕ) → too_short (aes_meaning key) n 3 ≡ None
  pub message : (key n : List ℕ) (bits : ℕ) → bits < 2 ^ 32 → too_short (aes_meaning key) n (begun bits) ≡ None
