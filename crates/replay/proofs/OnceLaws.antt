-- A count is opened once.
use Rattle.std.proofs.Common.{◌≡◌, ℕ, true, false, List, [], ◌∷◌, ◌++◌, length, Ok, Err, Some, None, Option, Result, sym, refl, ap, ◌∙◌, nat_eq, arith}
use Rattle.std.proofs.lemmas.Bool.{both_ways, or_parts}
use Rattle.std.proofs.lemmas.Bool.Decides.{Decides-eqb, nat_tests}
use Rattle.std.proofs.lemmas.List.Elements.{All-append, All-cons, All-nil, All-weaker}
use Rattle.std.specs.List.{All}
use Rattle.units.specs.Different.{different}
use Rattle.units.specs.declared.refusals.Refusal.{Refusal}
use Rattle.units.proofs.DifferentLaws.{Apart, Apart-append, among-append, different_all}
use Rattle.generator.specs.Generators.{Meaning}
use Rattle.windows.specs.Windows.{WindowTells, count_refusal, is_in, marked, new_window}
use Rattle.windows.specs.declared.Window.{Window}
use Rattle.frames.specs.Frames.{parts}
use Rattle.link.specs.Seals.{sealed}
use Rattle.link.specs.Opens.{OpenCall, open_by, open_refusal, opened, opened_as}
use Rattle.link.specs.declared.receiving.Opened.{Opened}
use Rattle.link.specs.declared.settings.Terms.{Terms}
use Rattle.replay.specs.Runs.{Event, sealing, opening, losing, OpenEvent, open_event}
use Rattle.replay.specs.Laws.{counts_in, counts_opened}
use Rattle.replay.proofs.Follows.{Follows}

-- ---- of an event that is an open

-- what an event of an accepted open says
pub record Admitted (m : Meaning) (s : Terms) (w : Window) (o : OpenEvent) (a : Opened) : Type 0 where
  pub accepted : open_refusal m s w o.asked ≡ None
  pub answer : a ≡ opened_as (parts o.asked.frame)

admitted_by : (m : Meaning) (s : Terms) (w : Window) (c : OpenCall) (a : Opened) (r : Option Refusal)
    → (open_by r m s w c).answer ≡ Ok a
    → (r ≡ None) × (a ≡ opened_as (parts c.frame))
admitted_by m s w c a None e = (refl, cc)
admitted_by m s w c a (Some r) e = absurd (cc)

pub admitted : (m : Meaning) (s : Terms) (w : Window) (o : OpenEvent) (a : Opened)
    → o ≡ open_event o.asked (opened m s w o.asked)
    → o.answer ≡ Ok a
    → Admitted m s w o a
admitted m s w o a is ok =
    let told = admitted_by m s w o.asked a (open_refusal m s w o.asked) (sym (ap (λ (x : OpenEvent). x.answer) is) ∙ ok) in
    record { accepted = told.0; answer = told.1 }

-- its count was open
pub admitted_count : (m : Meaning) (s : Terms) (w : Window) (o : OpenEvent) (a : Opened)
    → Admitted m s w o a
    → count_refusal w a.count ≡ None
admitted_count m s w o a h =
    let accepted = h.accepted in
    let own : count_refusal w (parts o.asked.frame).count ≡ None = grind (arith, nat_tests, accepted) in
    ap (λ (x : Opened). count_refusal w x.count) h.answer ∙ own

-- ---- over a journal

-- a count is not among those opened, or it is
abbrev New : List ℕ → ℕ → Type 0
New done c = is_in c done ≡ false

abbrev Old : List ℕ → ℕ → Type 0
Old done c = is_in c done ≡ true

-- the last of a list is in it
is_in_last : (c : ℕ) (done : List ℕ) → is_in c (done ++ c ∷ []) ≡ true
is_in_last c done =
    let own : nat_eq c c ≡ true = (Decides-eqb c c).1 refl in
    among-append nat_eq c done (c ∷ []) ∙ grind (arith, nat_tests, own)

module _ (tells : WindowTells) (m : Meaning) (s : Terms) (first : ℕ) where
  -- the count of an accepted open was not opened before
  pub not_opened : (done : List ℕ) (o : OpenEvent) (a : Opened)
      → Admitted m s (marked (new_window first) done) o a
      → New done a.count
  not_opened done o a h =
      ((tells.still first done a.count).0
      (sym (tells.judged first done a.count) ∙ admitted_count m s (marked (new_window first) done) o a h)).fresh

  -- so what an open answers is new
  answer_new : (done : List ℕ) (o : OpenEvent) → o ≡ open_event o.asked (opened m s (marked (new_window first) done) o.asked)
      → All (New done) (counts_in o.answer)
  answer_new done o is = at o.answer refl
    where
      at : (r : Result Opened Refusal) → o.answer ≡ r → All (New done) (counts_in r)
      at (Err r) e = All-nil (New done)
      at (Ok a) e =
          All-cons (New done) a.count []
          (not_opened done o a (admitted m s (marked (new_window first) done) o a is e))
          (All-nil (New done))

  -- and so is all that is opened later
  later_new : (next : ℕ) (done : List ℕ) (journal : List Event) → Follows m s first next done journal
      → All (New done) (counts_opened journal)
  later_new next done [] h = All-nil (New done)
  later_new next done (sealing e ∷ es) h = later_new (sealed m s next e.asked).next done es h.1
  later_new next done (opening o ∷ es) h =
      let more = done ++ counts_in o.answer in
      let fewer : (c : ℕ) → New more c → New done c =
      λ c e.
      (or_parts (is_in c done) (is_in c (counts_in o.answer)) (sym (among-append nat_eq c done (counts_in o.answer)) ∙ e)).0
      in
      All-append (New done) (counts_in o.answer) (counts_opened es) (answer_new done o h.0)
      (All-weaker (New more) (New done) fewer (counts_opened es) (later_new next more es h.1))
  later_new next done (losing n ∷ es) h = later_new next done es h

  counts_apart : (next : ℕ) (done : List ℕ) (journal : List Event) → Follows m s first next done journal
      → Apart nat_eq (counts_opened journal)
  counts_apart next done [] h = tt
  counts_apart next done (sealing e ∷ es) h = counts_apart (sealed m s next e.asked).next done es h.1
  counts_apart next done (opening o ∷ es) h =
      let more = done ++ counts_in o.answer in
      Apart-append nat_eq Decides-eqb (Old more) (New more)
      (λ c d p q e. both_ways (is_in c more) (ap (λ (x : ℕ). is_in x more) e ∙ q) p)
      (counts_in o.answer) (counts_opened es)
      (one o.answer) (counts_apart next more es h.1) (there o.answer) (later_new next more es h.1)
    where
      one : (r : Result Opened Refusal) → Apart nat_eq (counts_in r)
      one (Err r) = tt
      one (Ok a) = (refl, tt)

      there : (r : Result Opened Refusal) → All (Old (done ++ counts_in r)) (counts_in r)
      there (Err r) = All-nil (Old (done ++ []))
      there (Ok a) =
          All-cons (Old (done ++ a.count ∷ [])) a.count []
          (is_in_last a.count done)
          (All-nil (Old (done ++ a.count ∷ [])))
  counts_apart next done (losing n ∷ es) h = counts_apart next done es h

  -- a count is opened once
  pub opened_once : (next : ℕ) (done : List ℕ) (journal : List Event) → Follows m s first next done journal
      → length (counts_opened journal) ≡ different nat_eq (counts_opened journal)
  opened_once next done journal h = different_all nat_eq (counts_opened journal) (counts_apart next done journal h)
