-- AES-256 as a generator.
use Rattle.std.specs.Prelude.{◌≡◌, ℕ, ◌+◌, ◌^◌, List, ◌++◌, map}
use Rattle.std.specs.List.{range_with_len}
use Rattle.units.specs.Strings.{four}
use Rattle.aes.specs.KeyExpansion.{aes256}
use Rattle.generator.specs.Generators.{Meaning}
use Rattle.aes_generator.specs.declared.Batch.{Batch}

-- the block that is encrypted for an index: the nonce, and the index as four bytes
abbrev pub counter_block : List ℕ → ℕ → List ℕ
counter_block n i = n ++ four i

-- the generator of a key: its reach is 2^32 under every nonce
abbrev pub aes_meaning : List ℕ → Meaning
aes_meaning key = record { reach = λ n. 2 ^ 32; block = λ n i. aes256 key (counter_block n i) }

-- the blocks that are kept are those of their places
abbrev pub Right : List ℕ → Batch → Type 0
Right key kept = kept.blocks ≡ map (λ i. aes256 key (counter_block kept.nonce.0 (kept.first + i))) (range_with_len 0 8)
