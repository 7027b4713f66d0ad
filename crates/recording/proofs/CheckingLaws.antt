-- Where the records of a recording end, and what the verdict says.
use Rattle.std.proofs.Common.{◌≡◌, ◌↔◌, ℕ, ◌+◌, ◌≤◌, true, false, Bool, cond, List, [], ◌++◌, length, drop, is_ok, Some, None, Ok, Err, Decides, Result, sym, subst, refl, ap, ◌∙◌, append-nil, arith, length-append}
use Rattle.std.proofs.lemmas.List.{drop_all, nil_from_length}
use Rattle.std.proofs.lemmas.Bool.Decides.{Decides-at, nat_tests}
use Rattle.std.specs.List.{flat_map}
use Rattle.units.specs.Strings.{Octets}
use Rattle.units.proofs.StringLaws.{Octets-append_rest}
use Rattle.units.specs.declared.refusals.Refusal.{Refusal}
use Rattle.recording.specs.Checking.{FirstFault, Refuses, Sound, checked, end}
use Rattle.recording.specs.Reading.{Moved, Run, fault, records, step, stepped}
use Rattle.recording.specs.Records.{Entry, Begins, first, written}
use Rattle.recording.proofs.ReadingLaws.{Found, records_none, records_some, recording_stands}
use Rattle.recording.proofs.RecordLaws.{found_faithful}

pub end_some : (xs : List ℕ) (e : Entry) (rest : List ℕ) → Begins e rest xs → end xs ≡ length (written e) + end rest
unfolding end
end_some xs e rest there =
    ap (λ (l : List Entry). length (flat_map written l)) (records_some xs e rest there) ∙ length-append (written e) (flat_map written (records rest))

pub end_none : (xs : List ℕ) → first xs ≡ None → end xs ≡ 0
unfolding end
end_none xs e = ap (λ (l : List Entry). length (flat_map written l)) (records_none xs e)

-- ---- the verdict

-- the reading has come to `at`: the records from there on are those that are left
pub record Reached (xs : List ℕ) (at : ℕ) : Type 0 where
  pub within : at ≤ length xs
  pub left : end xs ≡ at + end (drop at xs)

pub reached_more : (xs : List ℕ) (from to : ℕ) (e : Entry) → Reached xs from → Moved xs from to e → Reached xs to
reached_more xs from to e r m =
    let next : end (drop from xs) ≡ length (written e) + end (drop to xs) =
    end_some (drop from xs) e (drop to xs) record { formed = m.formed; parts = m.there }
    in
    record { within = m.within; left = r.left ∙ omega (arith, m.by) }

-- what a step from there answers is the verdict, unless it is a record
pub ended : (xs : List ℕ) (at to : ℕ) → Reached xs at → step (Ok None) to ≡ stepped xs at → Ok tt ≡ checked xs
ended xs at to r e =
    let empty : length xs ≤ at → end (drop at xs) ≡ 0 = λ h. ap end (drop_all at xs h) ∙ end_none [] refl in
    grind (arith, nat_tests)

pub faulted : (xs : List ℕ) (at to : ℕ) (why : Refusal) → Reached xs at → step (Err why) to ≡ stepped xs at → Err why ≡ checked xs
faulted xs at to why r e = go (first (drop at xs)) refl
  where
    go : (f : Found) → first (drop at xs) ≡ f → Err why ≡ checked xs
    go (Some p) found = grind (arith, nat_tests)
    go None found = let nothing : end (drop at xs) ≡ 0 = end_none (drop at xs) found in grind (arith, nat_tests)

-- ---- what the verdict says

-- bytes are their records and a rest with which no record begins, and the rest begins where the records end
ends : (xs : List ℕ) (o : Octets xs) → end xs + length (recording_stands.every xs o).rest ≡ length xs
unfolding end
ends xs o =
    let run = recording_stands.every xs o in
    sym (ap length run.parts ∙ length-append (flat_map written (records xs)) run.rest)

end_is : (xs : List ℕ) → end xs ≡ length (flat_map written (records xs))
unfolding end
end_is xs = refl

-- the records of bytes that are such a run
run_end : (es : List Entry) (xs : List ℕ) → Run es xs → Octets xs → end xs ≡ length (flat_map written es)
unfolding end
run_end es xs run o = ap (λ (l : List Entry). length (flat_map written l)) (recording_stands.only es xs run (Octets-append_rest xs (flat_map written es) run.rest o run.parts))

-- the records of an accepted recording, written out again
whole : (xs : List ℕ) → Octets xs → is_ok (checked xs) ≡ true → flat_map written (records xs) ≡ xs
whole xs o h =
    let run = recording_stands.every xs o in
    let all : end xs ≡ length xs = grind (arith, nat_tests) in
    let none = nil_from_length run.rest (omega (arith, ends xs o)) in
    sym (run.parts ∙ ap (λ (l : List ℕ). flat_map written (records xs) ++ l) none ∙ append-nil (flat_map written (records xs)))

sound : (xs : List ℕ) → Octets xs → Decides (is_ok (checked xs)) (Sound xs)
sound xs o = (
  λ h.
      record {
        short = grind (arith, nat_tests);
        entries = records xs;
        formed = (recording_stands.every xs o).formed;
        run = sym (whole xs o h);
      },
  λ s.
      let short = s.short in
      let run : Run s.entries xs = record { formed = s.formed; rest = []; parts = s.run ∙ sym (append-nil (flat_map written s.entries)); none = found_faithful [] None (λ k. omega arith) refl } in
      let all : end xs ≡ length xs = run_end s.entries xs run o ∙ ap length (sym s.run) in
      grind (arith, nat_tests),
)

-- the places of two refusals that are the same
same_place : (a b : ℕ) → ◌≡◌ {A = Result (Unit {0}) Refusal} (Err (fault a)) (Err (fault b)) → a ≡ b
same_place a b e = ap (λ (verdict : Result (Unit {0}) Refusal). elim verdict [ Ok u ↦ 0 | Err why ↦ why.place ]) e

faults : (xs : List ℕ) → Octets xs → length xs ≤ 65536 → (at : ℕ) → (checked xs ≡ Err (fault at)) ↔ FirstFault xs at
faults xs o short at = (
  λ h.
      let there : at ≡ end xs = grind (arith, nat_tests, same_place) in
      record {
        entries = records xs;
        run = recording_stands.every xs o;
        place = there ∙ end_is xs;
        more = grind (arith, nat_tests, ends xs o);
      },
  λ f.
      let there : end xs ≡ at = run_end f.entries xs f.run o ∙ sym f.place in
      let more = f.more in
      grind (arith, nat_tests),
)

-- where the verdict is a refusal, it tells a fault at a place
record Kind (verdict : Result (Unit {0}) Refusal) : Type 0 where
  is : (why : Refusal) → verdict ≡ Err why → why ≡ fault why.place

Kind-cond : (b : Bool) (v w : Result (Unit {0}) Refusal) → Kind v → Kind w → Kind (cond b v w)
Kind-cond true v w k l = k
Kind-cond false v w k l = l

Kind-fault : (place : ℕ) → Kind (Err (fault place))
Kind-fault place = record { is = λ why e. cc }

Kind-ok : Kind (Ok tt)
Kind-ok = record { is = λ why e. cc }

kind : (xs : List ℕ) → Kind (checked xs)
kind xs = Kind-cond _ _ _ (Kind-fault _) (Kind-cond _ _ _ Kind-ok (Kind-fault _))

refuses : (xs : List ℕ) → Octets xs → Refuses xs (checked xs)
refuses xs o = record { kind = (kind xs).is; long = λ h. grind (arith, nat_tests); first = faults xs o }

-- what `check` promises of an answer that is the verdict
pub told : (xs : List ℕ) (answer : Result (Unit {0}) Refusal) → Octets xs → answer ≡ checked xs
    → record { value : answer ≡ checked xs; exact : Decides (is_ok answer) (Sound xs); refuses : Refuses xs answer; rewritten : is_ok answer ≡ true → flat_map written (records xs) ≡ xs }
told xs answer o e =
    record {
      value = e;
      exact = Decides-at (is_ok answer) (is_ok (checked xs)) (ap is_ok e) (sound xs o);
      refuses = subst (Refuses xs) (sym e) (refuses xs o);
      rewritten = λ h. whole xs o (ap is_ok (sym e) ∙ h);
    }
