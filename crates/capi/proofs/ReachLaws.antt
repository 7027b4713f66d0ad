-- That AES-256 has keystream enough for every call.
use Rattle.std.proofs.Common.{◌≡◌, ℕ, ◌+◌, ◌/◌, ◌^◌, ◌<◌, ◌≤◌, List, None, arith, rules}
use Rattle.units.specs.Lengths.{begun}
use Rattle.aes_generator.specs.AesGenerator.{aes_meaning}
use Rattle.cover.specs.Answers.{too_short}
use Rattle.capi.specs.Reach.{Reached}

-- so many blocks are within the reach
within : (key n : List ℕ) (need : ℕ) → need ≤ 2 ^ 32 → too_short (aes_meaning key) n need ≡ None
within key n need h = search rules

-- a message begins fewer blocks than it has bits, but for the shortest
message_within : (key n : List ℕ) (bits : ℕ) → bits < 2 ^ 32 → too_short (aes_meaning key) n (begun bits) ≡ None
unfolding begun
message_within key n bits h = within key n ((bits + 127) / 128) (omega arith)

pub reached : Reached
reached =
    record {
      keys = λ key n. within key n 3 (omega arith);
      message = message_within;
    }
