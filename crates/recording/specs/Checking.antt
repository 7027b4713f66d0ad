-- The check of a whole recording.
use Rattle.std.specs.Prelude.{◌≡◌, ◌↔◌, ℕ, ◌<◌, ◌≤◌, cond, List, length, Ok, Err, Result, ◌==◌, nat_lt}
use Rattle.std.specs.List.{flat_map, AllByRecursion}
use Rattle.units.specs.declared.refusals.Refusal.{Refusal}
use Rattle.recording.specs.Reading.{Run, fault, records}
use Rattle.recording.specs.Records.{Entry, WellFormed, written}

-- at most 65,536 bytes, and a run of well-formed records
pub record Sound (xs : List ℕ) : Type 0 where
  pub short : length xs ≤ 65536
  pub entries : List Entry
  pub formed : AllByRecursion WellFormed entries
  pub run : xs ≡ flat_map written entries

-- where the records of xs end
unfoldable pub end : List ℕ → ℕ
end xs = length (flat_map written (records xs))

-- the verdict on a recording
abbrev pub checked : List ℕ → Result (Unit {0}) Refusal
checked xs =
    cond (nat_lt 65536 (length xs)) (Err (fault 65536))
    (cond (end xs == length xs) (Ok tt) (Err (fault (end xs))))

-- the first fault of the bytes xs is at an offset
pub record FirstFault (xs : List ℕ) (at : ℕ) : Type 0 where
  -- the records before it
  pub entries : List Entry
  -- they stand at the front of the bytes, one after another, and no record begins the bytes behind them
  pub run : Run entries xs
  -- the offset is where they end
  pub place : at ≡ length (flat_map written entries)
  -- there are bytes behind them
  pub more : at < length xs

-- what holds of the verdict on the bytes xs where it is a refusal
pub record Refuses (xs : List ℕ) (verdict : Result (Unit {0}) Refusal) : Type 0 where
  -- a refusal tells a fault of the recording at a place
  pub kind : (why : Refusal) → verdict ≡ Err why → why ≡ fault why.place
  -- more than 65,536 bytes are refused at 65,536
  pub long : 65536 < length xs → verdict ≡ Err (fault 65536)
  -- others are refused at an offset exactly where the first fault is there
  pub first : length xs ≤ 65536 → (at : ℕ) → (verdict ≡ Err (fault at)) ↔ FirstFault xs at
