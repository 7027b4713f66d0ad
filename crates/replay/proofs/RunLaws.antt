-- The calls of a run, one after another.
use Rattle.std.proofs.Common.{◌≡◌, ℕ, ◌+◌, ◌<◌, ◌≤◌, List, [], ◌∷◌, ◌++◌, map, length, drop, take, get_or, sym, ap, ap₂, subst, ◌∙◌}
use Rattle.std.specs.Prelude.{Err, IsErr, Ok, OnErr, Result}
use mathlib.Core.List.{append_assoc, append-nil}
use Rattle.std.proofs.lemmas.List.{drop_all, drop_more, map_push, take-map, take_more}
use Rattle.generator.specs.Generators.{Meaning, Same}
use Rattle.generator.proofs.SameLaws.{Same-trans}
use Rattle.windows.specs.declared.Window.{Window}
use Rattle.link.specs.declared.settings.Settings.{Settings}
use Rattle.replay.specs.Asked.{CallOctets, CallsOctets}
use Rattle.replay.specs.Journals.{played}
use Rattle.replay.specs.declared.calls.Call.{Call}
use Rattle.replay.specs.Layers.{Layers}
use Rattle.replay.specs.Runs.{Ends, Event as Told, Call as Played, LeftBySome, Turn, ends, left, play, stepped}
use Rattle.replay.proofs.SameMeaning.{stepped_same}

-- with one call fewer left to look at
pub asked_more :
    (cs : List Call) (i : ℕ) (c : Call) → i < length cs → c ≡ get_or cs i c → CallOctets (played c)
    → (CallsOctets (map played (drop i cs)) → CallsOctets (map played cs))
    → CallsOctets (map played (drop (i + 1) cs))
    → CallsOctets (map played cs)
asked_more cs i c h is octets so rest =
    so (subst (λ (l : List Call). CallsOctets (map played l)) (sym (drop_more cs i c h ∙ ap (λ (y : Call). y ∷ drop (i + 1) cs) (sym is))) (octets, rest))

-- with none left
pub asked_all :
    (cs : List Call) (i : ℕ) → length cs ≤ i → (CallsOctets (map played (drop i cs)) → CallsOctets (map played cs))
    → CallsOctets (map played cs)
asked_all cs i h so = so (subst (λ (l : List Call). CallsOctets (map played l)) (sym (drop_all i cs h)) tt)

-- ---- a run

-- the two ends at a moment: what their generators mean, their settings, the next count and the window
pub record Moment : Type 0 where
  pub m : Meaning
  pub k : Meaning
  pub s : Settings
  pub r : Settings
  pub next : ℕ
  pub window : Window

-- the same, from the six
abbrev pub moment : Meaning → Meaning → Settings → Settings → ℕ → Window → Moment
moment m k s r next window = record { m = m; k = k; s = s; r = r; next = next; window = window }

-- what came of calls made from a moment on, and what is then left, told of what the ends meant and were set to at the start
abbrev pub play_from : Moment → List Told → Moment → List Played → List Told
play_from x done y cs = play x.m x.k x.s.terms x.r.terms done y.next y.window cs

abbrev pub left_from : Moment → List Told → Moment → List Played → Ends
left_from x done y cs = left x.m x.k x.s.terms x.r.terms done y.next y.window cs

-- after the calls of `before`, which gave `done`, with `rest` of `all` calls left: the ends mean the same as at the start, keep
-- their settings, and whatever is still to come gives the journal of the whole run, and leaves what the whole run leaves
pub record Running (x y : Moment) (done : List Told) (all before rest : List Played) : Type 0 where
  pub sender_same : Same x.m y.m
  pub receiver_same : Same x.k y.k
  pub sender_settings : y.s ≡ x.s
  pub receiver_settings : y.r ≡ x.r
  pub plays : done ++ play_from x done y rest ≡ play_from x [] x all
  pub leaves : (more : List Played) → left_from x done y more ≡ left_from x [] x (before ++ more)

-- what a call came to, and the moment after it
pub record Stepped (y z : Moment) (done : List Told) (c : Played) (e : Told) : Type 0 where
  pub event : e ≡ (stepped y.m y.k y.s.terms y.r.terms done y.next y.window c).event
  pub next_is : z.next ≡ (stepped y.m y.k y.s.terms y.r.terms done y.next y.window c).next
  pub window_is : z.window ≡ (stepped y.m y.k y.s.terms y.r.terms done y.next y.window c).window
  pub sender_settings : z.s ≡ y.s
  pub receiver_settings : z.r ≡ y.r
  pub sender_same : Same y.m z.m
  pub receiver_same : Same y.k z.k

-- one call more
pub running_more :
    Layers → (x y z : Moment) (done : List Told) (all before rest cs : List Played) (c : Played) (e : Told)
    → rest ≡ c ∷ cs
    → Running x y done all before rest
    → Stepped y z done c e
    → Running x z (done ++ (e ∷ [])) all (before ++ (c ∷ [])) cs
running_more layers x y z done all before rest cs c e is run step =
    let t = stepped x.m x.k x.s.terms x.r.terms done y.next y.window c in
    let same : stepped y.m y.k y.s.terms y.r.terms done y.next y.window c ≡ t =
    ap₂ (λ (s r : Settings). stepped y.m y.k s.terms r.terms done y.next y.window c) run.sender_settings run.receiver_settings
    ∙ stepped_same layers x.m y.m x.k y.k x.s.terms x.r.terms done y.next y.window c x.s.lawful x.r.lawful run.sender_same run.receiver_same
    in
    let event : e ≡ t.event = step.event ∙ ap (λ (u : Turn). u.event) same in
    let next_is : z.next ≡ t.next = step.next_is ∙ ap (λ (u : Turn). u.next) same in
    let window_is : z.window ≡ t.window = step.window_is ∙ ap (λ (u : Turn). u.window) same in
    record {
      sender_same = Same-trans x.m y.m z.m run.sender_same step.sender_same;
      receiver_same = Same-trans x.k y.k z.k run.receiver_same step.receiver_same;
      sender_settings = step.sender_settings ∙ run.sender_settings;
      receiver_settings = step.receiver_settings ∙ run.receiver_settings;
      plays = rw (event, next_is, window_is)
          (append_assoc done (t.event ∷ []) (play x.m x.k x.s.terms x.r.terms (done ++ (t.event ∷ [])) t.next t.window cs)
          ∙ ap (λ (l : List Played). done ++ play_from x done y l) (sym is)
          ∙ run.plays);
      leaves = λ more. rw (event, next_is, window_is)
          (run.leaves (c ∷ more) ∙ ap (left_from x [] x) (sym (append_assoc before (c ∷ []) more)));
    }

-- with no call left
pub journal_is : (x y : Moment) (done : List Told) (all before rest : List Played) → rest ≡ [] → Running x y done all before rest
    → done ≡ play_from x [] x all
journal_is x y done all before rest none run =
    sym (append-nil done) ∙ ap (λ (l : List Played). done ++ play_from x done y l) (sym none) ∙ run.plays

-- what the calls so far leave
pub left_so_far : (x y : Moment) (done : List Told) (all before rest : List Played) → Running x y done all before rest
    → ends y.next y.window ≡ left_from x [] x before
left_so_far x y done all before rest run = run.leaves [] ∙ ap (left_from x [] x) (append-nil before)

-- the same where they are the first calls of a list, and the ends are as these left them
pub left_by_some : (x y : Moment) (done : List Told) (all rest : List Played) (calls : List Call) (n : ℕ) (e : Ends)
    → Running x y done all (map played (take n calls)) rest
    → e ≡ ends y.next y.window
    → LeftBySome x.m x.k x.s.terms x.r.terms x.next x.window (map played calls) e
left_by_some x y done all rest calls n e run is = (
  n,
  is
      ∙ left_so_far x y done all (map played (take n calls)) rest run
      ∙ ap (left_from x [] x) (sym (take-map played n calls)),
)

-- the first calls of a list, and one more
pub took_more : (calls : List Call) (i : ℕ) (c : Call) → i < length calls → c ≡ get_or calls i c
    → map played (take (i + 1) calls) ≡ map played (take i calls) ++ (played c ∷ [])
took_more calls i c h is =
    ap (map played) (take_more calls i c h ∙ ap (λ (x : Call). take i calls ++ (x ∷ [])) (sym is))
    ∙ map_push played (take i calls) c

-- those that are left
pub left_more : (calls : List Call) (i : ℕ) (c : Call) → i < length calls → c ≡ get_or calls i c
    → map played (drop i calls) ≡ played c ∷ map played (drop (i + 1) calls)
left_more calls i c h is = ap (map played) (drop_more calls i c h ∙ ap (λ (x : Call). x ∷ drop (i + 1) calls) (sym is))

-- what holds, holds of an error
pub on_err : {A E P : Type 0} (r : Result A E) → IsErr r → P → OnErr r P
on_err (Ok x) h p = tt
on_err (Err e) h p = p
