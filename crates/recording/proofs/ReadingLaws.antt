-- The records of a recording, one after the other, and what a step of the reading leaves.
use Rattle.std.proofs.Common.{◌≡◌, ℕ, zero, suc, ◌+◌, ◌-◌, ◌<◌, ◌≤◌, List, [], ◌∷◌, ◌++◌, length, drop, Some, None, Ok, Err, Option, Result, sym, refl, ap, ◌∙◌, arith, append_assoc, length-append, length-drop, drop-drop, drop_at}
use Rattle.std.proofs.lemmas.List.{drop_all, nil_from_length}
use Rattle.std.proofs.lemmas.Bool.Decides.{nat_tests}
use Rattle.std.specs.List.{flat_map, AllByRecursion}
use Rattle.units.specs.Strings.{Octets}
use Rattle.units.proofs.StringLaws.{Octets-append_rest}
use Rattle.units.specs.declared.refusals.Refusal.{Refusal}
use Rattle.recording.specs.Reading.{Moved, RecordingStands, Run, ahead, answered, placed, records, step, stepped, up_to}
use Rattle.recording.specs.Records.{Entry, WellFormed, Begins, NoRecord, first, written}
use Rattle.recording.specs.declared.records.Record.{Record}
use Rattle.recording.proofs.RecordLaws.{first_none, first_shorter, first_there, found_faithful, there_first}

-- what is found at the front of some bytes
abbrev pub Found : Type 0
Found = Option (Entry × List ℕ)

-- any number of records that is large enough gives the same
up_to_same : (n m : ℕ) (xs : List ℕ) → length xs ≤ n → length xs ≤ m → up_to n xs ≡ up_to m xs
up_to_same zero zero xs h k = refl
up_to_same zero (suc m) xs h k = let none = nil_from_length xs (omega arith) in rw none refl
up_to_same (suc n) zero xs h k = let none = nil_from_length xs (omega arith) in rw none refl
up_to_same (suc n) (suc m) xs h k = go (λ ys less. up_to_same n m ys (omega arith) (omega arith)) (first xs) refl
  where
    go : ((ys : List ℕ) → length ys < length xs → up_to n ys ≡ up_to m ys) → (r : Found) → first xs ≡ r
        → ◌≡◌ {A = List Entry} (elim r [ Some p ↦ p.0 ∷ up_to n p.1 | None ↦ [] ]) (elim r [ Some p ↦ p.0 ∷ up_to m p.1 | None ↦ [] ])
    go again (Some p) e = ap (λ (l : List Entry). p.0 ∷ l) (again p.1 (first_shorter xs p.0 p.1 e))
    go again None e = refl

pub records_some : (xs : List ℕ) (e : Entry) (rest : List ℕ) → Begins e rest xs → records xs ≡ e ∷ records rest
unfolding records
records_some xs e rest there =
    let found : first xs ≡ Some (e, rest) = ap first there.parts ∙ there_first e rest there.formed in
    let less = first_shorter xs e rest found in
    up_to_same (length xs) (suc (length xs)) xs (omega arith) (omega arith)
    ∙ ap (λ (r : Found). elim r [ Some p ↦ p.0 ∷ up_to (length xs) p.1 | None ↦ [] ]) found
    ∙ ap (λ (l : List Entry). e ∷ l) (up_to_same (length xs) (length rest) rest (omega arith) (omega arith))

pub records_none : (xs : List ℕ) → first xs ≡ None → records xs ≡ []
unfolding records
records_none xs none =
    up_to_same (length xs) (suc (length xs)) xs (omega arith) (omega arith)
    ∙ ap (λ (r : Found). elim r [ Some p ↦ p.0 ∷ up_to (length xs) p.1 | None ↦ [] ]) none

-- ---- what the records of bytes are

up_to_run : (n : ℕ) (xs : List ℕ) → length xs ≤ n → Octets xs → Run (up_to n xs) xs
up_to_run zero xs h o = let none = nil_from_length xs (omega arith) in record { formed = tt; rest = xs; parts = refl; none = rw none (found_faithful [] None (rw none at o) refl) }
up_to_run (suc n) xs h o = go (λ ys less. up_to_run n ys (omega arith)) (first xs) refl
  where
    go : ((ys : List ℕ) → length ys < length xs → Octets ys → Run (up_to n ys) ys) → (r : Found) → first xs ≡ r
        → Run (elim r [ Some p ↦ p.0 ∷ up_to n p.1 | None ↦ [] ]) xs
    go again (Some p) e =
        let there = first_there xs p o e in
        let later = again p.1 (first_shorter xs p.0 p.1 e) (Octets-append_rest xs (written p.0) p.1 o there.parts) in
        record {
          formed = (there.formed, later.formed);
          rest = later.rest;
          parts = there.parts ∙ ap (λ (l : List ℕ). written p.0 ++ l) later.parts ∙ sym (append_assoc (written p.0) (flat_map written (up_to n p.1)) later.rest);
          none = later.none;
        }
    go again None e = record { formed = tt; rest = xs; parts = refl; none = found_faithful xs None o (sym e) }

run_records : (es : List Entry) (rest : List ℕ) → AllByRecursion WellFormed es → NoRecord rest → Octets rest → records (flat_map written es ++ rest) ≡ es
run_records [] rest w none o = records_none rest (first_none rest o none)
run_records (a ∷ es) rest w none o =
    let parts = append_assoc (written a) (flat_map written es) rest in
    records_some (flat_map written (a ∷ es) ++ rest) a (flat_map written es ++ rest) record { formed = w.0; parts = parts }
    ∙ ap (λ (l : List Entry). a ∷ l) (run_records es rest w.1 none o)

pub recording_stands : RecordingStands
unfolding records
recording_stands =
    record {
      every = λ xs o. up_to_run (length xs) xs (omega arith) o;
      only = λ es xs run o. ap records run.parts ∙ run_records es run.rest run.formed run.none o;
    }

-- the reading moves over the record that stands at its offset
pub moved : (xs : List ℕ) (at : ℕ) (e : Entry) (rest : List ℕ) → at ≤ length xs → Begins e rest (drop at xs) → Moved xs at (length xs - length rest) e
moved xs at e rest h there =
    let by : length xs - length rest ≡ at + length (written e) = omega (arith, length-drop at xs, ap length there.parts, length-append (written e) rest) in
    let back : drop (length xs - length rest) xs ≡ rest = rw (by, ← drop-drop (length (written e)) at xs, there.parts) (drop_at (written e) rest (length (written e)) refl) in
    record {
      formed = there.formed;
      there = rw back there.parts;
      by = by;
      within = omega arith;
      next = rw back (records_some (drop at xs) e rest there);
    }

-- ---- what a reading comes to

-- a record that is handed out was the first ahead
pub ahead_some : (xs : List ℕ) (at to : ℕ) (e : Entry) → step (Ok (Some e)) to ≡ stepped xs at → Moved xs at to e → ahead xs at ≡ (at, e) ∷ ahead xs to
unfolding ahead
ahead_some xs at to e by m =
    let more = ap (placed at) m.next in
    grind (arith, nat_tests, more, m.by)

-- at the end and at a fault none is ahead, and the reading stays
ahead_end : (xs : List ℕ) (at to : ℕ) → step (Ok None) to ≡ stepped xs at → (ahead xs at ≡ []) × (ahead xs to ≡ [])
unfolding ahead
ahead_end xs at to by =
    let empty : length xs ≤ at → records (drop at xs) ≡ [] = λ h. ap records (drop_all at xs h) ∙ records_none [] refl in
    (grind (arith, nat_tests), grind (arith, nat_tests))

ahead_fault : (xs : List ℕ) (at to : ℕ) (why : Refusal) → step (Err why) to ≡ stepped xs at → (ahead xs at ≡ []) × (ahead xs to ≡ [])
unfolding ahead
ahead_fault xs at to why by = go (first (drop at xs)) refl
  where
    go : (f : Found) → first (drop at xs) ≡ f → (ahead xs at ≡ []) × (ahead xs to ≡ [])
    go (Some p) found = (grind (arith, nat_tests), grind (arith, nat_tests))
    go None found = let nothing = records_none (drop at xs) found in (grind (arith, nat_tests), grind (arith, nat_tests))

-- where the code has no record to hand out, none is ahead
pub ahead_none : (xs : List ℕ) (at to : ℕ) (r : Result (Option Record) Refusal) → ((found : Record) → r ≡ Ok (Some found) → ⊥) → step (answered r) to ≡ stepped xs at
    → (ahead xs at ≡ []) × (ahead xs to ≡ [])
ahead_none xs at to (Ok (Some found)) never by = absurd (never found refl)
ahead_none xs at to (Ok None) never by = ahead_end xs at to by
ahead_none xs at to (Err why) never by = ahead_fault xs at to why by
