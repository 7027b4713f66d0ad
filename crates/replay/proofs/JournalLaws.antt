-- What a run leaves is a journal of which each event follows, and where an event of such a journal comes from.
use Rattle.std.proofs.Common.{◌≡◌, ℕ, ◌+◌, Bool, true, false, List, [], ◌∷◌, ◌++◌, length, Some, None, Option, sym, refl, ap, ◌∙◌, subst, append-nil, append_assoc, arith, length-append}
use Rattle.units.specs.declared.refusals.Refusal.{Refusal}
use Rattle.generator.specs.Generators.{Meaning, Same}
use Rattle.nonces.specs.Nonces.{nonce}
use Rattle.windows.specs.Windows.{mark, marked, new_window}
use Rattle.windows.specs.declared.Window.{Window}
use Rattle.frames.specs.Frames.{parts}
use Rattle.link.specs.Opens.{OpenCall, open_by, open_refusal, opened}
use Rattle.link.specs.Seals.{seal_by, seal_refusal, sealed}
use Rattle.link.specs.Settings.{Lawful, parameters}
use Rattle.link.specs.declared.settings.Terms.{Terms}
use Rattle.replay.specs.Layers.{Layers}
use Rattle.replay.specs.Runs.{Call, Event, OpenEvent, SealEvent, asked, loss_figure, losing, open_event, open_frame, opening, play, seal, seal_event, sealing, stepped}
use Rattle.replay.specs.Laws.{SameTerms, counts_in, counts_opened, frames_in, frames_sealed}
use Rattle.replay.specs.RoundTrip.{count_after}
use Rattle.replay.proofs.Follows.{AllAsked, Follows, OctetsAsked}
use Rattle.replay.proofs.SameMeaning.{opened_same}

-- ---- runs

-- one count more
marked_more : (w : Window) (done : List ℕ) (c : ℕ) → mark (marked w done) c ≡ marked w (done ++ c ∷ [])
marked_more w [] c = refl
marked_more w (d ∷ done) c = marked_more (mark w d) done c

-- an open marks the count that it answers, and none where it is refused
window_after :
    (r : Option Refusal) (m : Meaning) (s : Terms) (first : ℕ) (done : List ℕ) (w : Window) (c : OpenCall)
    → w ≡ marked (new_window first) done
    → (open_by r m s w c).window ≡ marked (new_window first) (done ++ counts_in (open_by r m s w c).answer)
window_after (Some r) m s first done w c e = e ∙ ap (marked (new_window first)) (sym (append-nil done))
window_after None m s first done w c e =
    let count = (parts c.frame).count in ap (λ (v : Window). mark v count) e ∙ marked_more (new_window first) done count

-- a nonce mentions the terms by these four alone
nonce_shared : (s r : Terms) (instance : Bool) (count : ℕ) → SameTerms s r
    → nonce r.tag_size true instance (parameters r count) ≡ nonce s.tag_size true instance (parameters s count)
unfolding nonce
nonce_shared s r instance count t = rw (t.bearer, t.direction, t.tag_size, t.extra_iv) refl

-- and so does an open
refusal_shared : (m : Meaning) (s r : Terms) (w : Window) (c : OpenCall) → SameTerms s r
    → open_refusal m r w c ≡ open_refusal m s w c
refusal_shared m s r w c t =
    let count = (parts c.frame).count in
    rw (nonce_shared s r true count t, nonce_shared s r false count t, t.bearer, t.direction, t.tag_size) refl

open_by_shared : (x : Option Refusal) (m : Meaning) (s r : Terms) (w : Window) (c : OpenCall) → SameTerms s r
    → open_by x m r w c ≡ open_by x m s w c
open_by_shared (Some x) m s r w c t = refl
open_by_shared None m s r w c t = rw (nonce_shared s r false (parts c.frame).count t) refl

opened_shared : (m : Meaning) (s r : Terms) (w : Window) (c : OpenCall) → SameTerms s r → opened m r w c ≡ opened m s w c
opened_shared m s r w c t =
    ap (λ (x : Option Refusal). open_by x m r w c) (refusal_shared m s r w c t) ∙ open_by_shared (open_refusal m s w c) m s r w c t

-- ends of the same terms, whose generators mean the same
module _ (layers : Layers) (m k : Meaning) (alike : Same m k) (s r : Terms) (lawful : Lawful s) (shared : SameTerms s r) (first : ℕ) where
  pub play_follows : (journal : List Event) (next : ℕ) (w : Window) (done : List ℕ) (cs : List Call)
      → w ≡ marked (new_window first) done
      → Follows m s first next done (play m k s r journal next w cs)
  play_follows journal next w done [] e = tt
  play_follows journal next w done (seal c ∷ cs) e =
      let t = stepped m k s r journal next w (seal c) in
      (refl, play_follows (journal ++ (t.event ∷ [])) t.next t.window done cs e)
  play_follows journal next w done (open_frame work frame buffer ∷ cs) e =
      let c = asked journal work frame buffer in
      let t = stepped m k s r journal next w (open_frame work frame buffer) in
      let o = opened k r w c in (
        ap (open_event c)
            (opened_shared k s r w c shared ∙ opened_same layers m k alike s w c lawful ∙ ap (λ (v : Window). opened m s v c) e),
        play_follows (journal ++ (t.event ∷ [])) next o.window (done ++ counts_in o.answer) cs
            (window_after (open_refusal k r w c) k r first done w c e),
      )
  play_follows journal next w done (loss_figure ∷ cs) e =
      let t = stepped m k s r journal next w loss_figure in
      play_follows (journal ++ (t.event ∷ [])) next w done cs e

-- ---- an event of a journal

pub asked_in : (early late : List Event) (x : Event) → AllAsked (early ++ (x ∷ late)) → OctetsAsked x
asked_in [] late x h = h.0
asked_in (y ∷ early) late x h = asked_in early late x h.1

module _ (m : Meaning) (s : Terms) (first : ℕ) where
  -- a seal uses a count exactly where it is accepted
  next_counted : (next : ℕ) (e : SealEvent) → e ≡ seal_event e.asked (sealed m s next e.asked)
      → (sealed m s next e.asked).next ≡ next + length (frames_in e.answer e.buffer)
  next_counted next e is = at (seal_refusal m s next e.asked) ∙ ap (λ (x : SealEvent). next + length (frames_in x.answer x.buffer)) (sym is)
    where
      at : (r : Option Refusal) → (seal_by r m s next e.asked).next
          ≡ next + length (frames_in (seal_by r m s next e.asked).answer (seal_by r m s next e.asked).buffer)
      at None = refl
      at (Some r) = omega arith

  -- a seal was made with the count that came after those of the accepted seals before it
  pub record Sealed (next : ℕ) (early : List Event) (e : SealEvent) : Type 0 where
    pub count : ℕ
    pub is : e ≡ seal_event e.asked (sealed m s count e.asked)
    pub used : count ≡ count_after next early

  pub sealed_in : (next : ℕ) (done : List ℕ) (early late : List Event) (e : SealEvent)
      → Follows m s first next done (early ++ (sealing e ∷ late))
      → Sealed next early e
  sealed_in next done [] late e f = record { count = next; is = f.0; used = omega arith }
  sealed_in next done (sealing x ∷ early) late e f =
      let from = sealed_in (sealed m s next x.asked).next done early late e f.1 in
      let long = length-append (frames_in x.answer x.buffer) (frames_sealed early) in
      record { count = from.count; is = from.is; used = omega (arith, from.used, next_counted next x f.0, long) }
  sealed_in next done (opening x ∷ early) late e f =
      let from = sealed_in next (done ++ counts_in x.answer) early late e f.1 in
      record { count = from.count; is = from.is; used = from.used }
  sealed_in next done (losing n ∷ early) late e f =
      let from = sealed_in next done early late e f in
      record { count = from.count; is = from.is; used = from.used }

  -- an open was made with a window in which the counts opened before are marked
  abbrev pub OpenedAfter : List ℕ → OpenEvent → Type 0
  OpenedAfter done o = o ≡ open_event o.asked (opened m s (marked (new_window first) done) o.asked)

  pub opened_in : (next : ℕ) (done : List ℕ) (before after : List Event) (o : OpenEvent)
      → Follows m s first next done (before ++ (opening o ∷ after))
      → OpenedAfter (done ++ counts_opened before) o
  opened_in next done [] after o f = subst (λ (d : List ℕ). OpenedAfter d o) (sym (append-nil done)) f.0
  opened_in next done (sealing x ∷ before) after o f = opened_in (sealed m s next x.asked).next done before after o f.1
  opened_in next done (opening x ∷ before) after o f =
      subst (λ (d : List ℕ). OpenedAfter d o) (append_assoc done (counts_in x.answer) (counts_opened before))
      (opened_in next (done ++ counts_in x.answer) before after o f.1)
  opened_in next done (losing n ∷ before) after o f = opened_in next done before after o f
