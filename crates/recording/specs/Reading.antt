-- Reading a recording record by record.
use Rattle.std.specs.Prelude.{◌≡◌, ℕ, zero, suc, ◌+◌, ◌-◌, ◌≤◌, cond, List, [], ◌∷◌, ◌++◌, length, drop, Some, None, Ok, Err, Option, Result, ◌==◌, nat_lt}
use Rattle.std.specs.Option.{option_map}
use Rattle.std.specs.List.{flat_map, AllByRecursion}
use Rattle.units.specs.Refusals.{refusal}
use Rattle.units.specs.Strings.{Octets}
use Rattle.units.specs.declared.refusals.Layer.TheVariants.{Recording}
use Rattle.units.specs.declared.refusals.Reason.TheVariants.{FaultyRecording}
use Rattle.units.specs.declared.refusals.Refusal.{Refusal}
use Rattle.recording.specs.declared.records.Record.{Record}
use Rattle.recording.specs.Records.{Entry, WellFormed, NoRecord, entry, first, written}

-- the first n records of xs, or those before the first fault
abbrev pub up_to : ℕ → List ℕ → List Entry
up_to zero xs = []
up_to (suc n) xs = elim (first xs) [ Some p ↦ p.0 ∷ up_to n p.1 | None ↦ [] ]

-- the records of xs, or those before the first fault; a record has at least one byte
unfoldable pub records : List ℕ → List Entry
records xs = up_to (length xs) xs

-- the bytes xs are the records es, one after another, up to bytes that begin with no record
pub record Run (es : List Entry) (xs : List ℕ) : Type 0 where
  -- each record is well-formed
  pub formed : AllByRecursion WellFormed es
  -- the bytes behind the last record, perhaps none
  pub rest : List ℕ
  -- the bytes are the records written out, and the rest
  pub parts : xs ≡ flat_map written es ++ rest
  -- the rest begins with no record
  pub none : NoRecord rest

-- what holds of the records of every byte string
pub record RecordingStands : Type 0 where
  -- every byte string is such a run of its records
  pub every : (xs : List ℕ) → Octets xs → Run (records xs) xs
  -- and of no others
  pub only : (es : List Entry) (xs : List ℕ) (run : Run es xs) → Octets run.rest → records xs ≡ es

-- 15: a fault of the recording at a place
abbrev pub fault : ℕ → Refusal
fault place = refusal FaultyRecording Recording place

-- what a step of the reading answers, and the offset after it
pub record Step : Type 0 where
  pub answer : Result (Option Entry) Refusal
  pub offset : ℕ

abbrev pub step : Result (Option Entry) Refusal → ℕ → Step
step answer offset = record { answer = answer; offset = offset }

-- the record at an offset, if there is one, and the offset of the bytes after it; else a fault, and the offset stays
abbrev pub step_at : ℕ → ℕ → Option (Entry × List ℕ) → Step
step_at long at (Some p) = step (Ok (Some p.0)) (long - length p.1)
step_at long at None = step (Err (fault at)) at

-- a step of the reading of xs at an offset
abbrev pub stepped : List ℕ → ℕ → Step
stepped xs at =
    cond (nat_lt 65536 (length xs)) (step (Err (fault 65536)) at)
    (cond (at == length xs) (step (Ok None) at) (step_at (length xs) at (first (drop at xs))))

-- the answer of the code by what it holds
abbrev pub answered : Result (Option Record) Refusal → Result (Option Entry) Refusal
answered (Ok r) = Ok (option_map entry r)
answered (Err e) = Err e

-- the reading of xs moved over the record e
pub record Moved (xs : List ℕ) (from to : ℕ) (e : Entry) : Type 0 where
  pub formed : WellFormed e
  pub there : drop from xs ≡ written e ++ drop to xs
  pub by : to ≡ from + length (written e)
  pub within : to ≤ length xs
  pub next : records (drop from xs) ≡ e ∷ records (drop to xs)

-- A record is handed out where it stands, and the reading goes on right behind it, to the next record. It ends at the
-- end alone. At a fault it stays, and there is a fault only where no record stands or the recording is too long.
abbrev pub Lawful : List ℕ → ℕ → Result (Option Entry) Refusal → ℕ → Type 0
Lawful xs from (Ok (Some e)) to = Moved xs from to e
Lawful xs from (Ok None) to = (from ≡ length xs) × (to ≡ from)
Lawful xs from (Err r) to = (to ≡ from) × (length xs ≤ 65536 → NoRecord (drop from xs))

-- each record with its offset, where the first stands at the offset `at`
abbrev pub placed : ℕ → List Entry → List (ℕ × Entry)
placed at [] = []
placed at (e ∷ es) = (at, e) ∷ placed (at + length (written e)) es

-- the records that a reading of xs at an offset comes to before the first fault, each with its offset
unfoldable pub ahead : List ℕ → ℕ → List (ℕ × Entry)
ahead xs at = cond (nat_lt 65536 (length xs)) [] (placed at (records (drop at xs)))
