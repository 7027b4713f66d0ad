-- What a generator of keystream means, and how it answers.
use Rattle.std.specs.Prelude.{◌≡◌, ℕ, ◌^◌, ◌<◌, ◌≤◌, true, cond, List, length, Ok, Err, Result, is_ok, nat_lt}
use Rattle.units.specs.Refusals.{refusal}
use Rattle.units.specs.Strings.{Octets}
use Rattle.units.specs.declared.refusals.Layer.TheVariants.{Generator}
use Rattle.units.specs.declared.refusals.Reason.TheVariants.{ShortKeystream}
use Rattle.units.specs.declared.refusals.Refusal.{Refusal}
use Rattle.field.specs.declared.blocks.Block.{Block}
use Rattle.field.specs.Blocks.{polynomial}

-- under each nonce the reach, and the bytes of the block at each index. What `block` says from the reach on means nothing
pub record Meaning : Type 0 where
  pub reach : List ℕ → ℕ
  pub block : List ℕ → ℕ → List ℕ

-- a nonce is twelve bytes
pub record IsNonce (n : List ℕ) : Type 0 where
  pub twelve : length n ≡ 12
  pub octets : Octets n

-- under each nonce the reach is at most 2^32, and below it each block has sixteen bytes
pub record Sound (m : Meaning) : Type 0 where
  pub near : (n : List ℕ) → IsNonce n → m.reach n ≤ 2 ^ 32
  pub sixteen : (n : List ℕ) (i : ℕ) → IsNonce n → i < m.reach n → length (m.block n i) ≡ 16
  pub octets : (n : List ℕ) (i : ℕ) → IsNonce n → i < m.reach n → Octets (m.block n i)

-- the two have the same reach under each nonce, and the same blocks below it. What they say of other lists means nothing
pub record Same (a b : Meaning) : Type 0 where
  pub reach : (n : List ℕ) → IsNonce n → b.reach n ≡ a.reach n
  pub block : (n : List ℕ) (i : ℕ) → IsNonce n → i < a.reach n → b.block n i ≡ a.block n i

-- 13: the generator's reach is too short
abbrev pub short : ℕ → Refusal
short reach = refusal ShortKeystream Generator reach

-- sixteen bytes as a block
abbrev pub block_of : List ℕ → Block
block_of bytes = record { 0 = polynomial bytes }

-- the answer of a generator that is asked for the block at an index
abbrev pub answered : Meaning → List ℕ → ℕ → Result Block Refusal
answered m n i = cond (nat_lt i (m.reach n)) (Ok (block_of (m.block n i))) (Err (short (m.reach n)))

-- below the reach there is always a block, and from the reach on never
pub record Answers (m : Meaning) : Type 0 where
  pub below : (n : List ℕ) (i : ℕ) → i < m.reach n → is_ok (answered m n i) ≡ true
  pub beyond : (n : List ℕ) (i : ℕ) → m.reach n ≤ i → answered m n i ≡ Err (short (m.reach n))
