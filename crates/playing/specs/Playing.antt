-- Playing a recording back.
use Rattle.std.specs.Prelude.{◌≡◌, ℕ, ◌<◌, ◌≤◌, cond, List, [], ◌∷◌, ◌++◌, length, nat_lt, slice_index_or}
use Rattle.std.specs.List.{flat_map, AllByRecursion, Contains}
use Rattle.units.specs.Strings.{Octets, same}
use Rattle.generator.specs.Generators.{Meaning}
use Rattle.recording.specs.Reading.{records}
use Rattle.recording.specs.Records.{Entry, WellFormed, NoRecord, keystream, remark, written}

-- the records of a recording before the first fault; none where it has more than 65,536 bytes
abbrev pub readable : List ℕ → List Entry
readable xs = cond (nat_lt 65536 (length xs)) [] (records xs)

-- the blocks of the first keystream record with the nonce; none where there is no such record
abbrev pub blocks_under : List ℕ → List Entry → List (List ℕ)
blocks_under n [] = []
blocks_under n (keystream nonce blocks ∷ es) = cond (same nonce n) blocks (blocks_under n es)
blocks_under n (remark text ∷ es) = blocks_under n es

-- what a recording means as a generator: under each nonce those blocks
abbrev pub played : List ℕ → Meaning
played xs =
    record {
      reach = λ n. length (blocks_under n (readable xs));
      block = λ n i. slice_index_or (blocks_under n (readable xs)) i [];
    }

-- what holds of every playback
pub record PlaybackStands : Type 0 where
  -- of records that are written one after another, and then bytes with which no record begins, each record is played
  pub damaged :
      (es : List Entry) (rest : List ℕ) → AllByRecursion WellFormed es → Octets rest → NoRecord rest
      → length (flat_map written es ++ rest) ≤ 65536
      → readable (flat_map written es ++ rest) ≡ es
  -- so of records alone each is played
  pub whole : (es : List Entry) → AllByRecursion WellFormed es → length (flat_map written es) ≤ 65536 → readable (flat_map written es) ≡ es
  -- of more than 65,536 bytes none is played
  pub long : (xs : List ℕ) → 65536 < length xs → readable xs ≡ []
  -- the first keystream record with a nonce decides, whatever comes later
  pub first : (n : List ℕ) (blocks : List (List ℕ)) (es later : List Entry) → ((bs : List (List ℕ)) → ¬ Contains es (keystream n bs)) → blocks_under n (es ++ (keystream n blocks ∷ later)) ≡ blocks
  -- where there is none, there are no blocks
  pub none : (n : List ℕ) (es : List Entry) → ((bs : List (List ℕ)) → ¬ Contains es (keystream n bs)) → blocks_under n es ≡ []
