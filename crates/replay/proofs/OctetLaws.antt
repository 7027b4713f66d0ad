-- Where callers hand over bytes, each frame that is sealed or offered is bytes.
use Rattle.std.proofs.Common.{◌≡◌, ℕ, zero, suc, ◌<◌, List, [], ◌∷◌, ◌++◌, Ok, Err, None, Result, sym, refl, subst, arith}
use Rattle.std.proofs.lemmas.Nat.{xor_lt}
use Rattle.units.specs.Strings.{Octets}
use Rattle.units.specs.declared.lengths.Bytes.{Bytes}
use Rattle.units.specs.declared.refusals.Refusal.{Refusal}
use Rattle.units.proofs.SpareLaws.{Octets-cleared}
use Rattle.generator.specs.Generators.{Meaning, Sound}
use Rattle.cover.specs.Combined.{ciphertext_of, instance_nonce, stream_nonce}
use Rattle.windows.specs.declared.Window.{Window}
use Rattle.link.specs.Seals.{SealCall, seal_refusal, sealed, sealed_frame, sealed_parts}
use Rattle.link.specs.Settings.{Lawful, parameters}
use Rattle.link.specs.declared.settings.Terms.{Terms}
use Rattle.replay.specs.Asked.{CallOctets, CallsOctets, OctetsOffered}
use Rattle.replay.specs.Layers.{Layers}
use Rattle.replay.specs.Runs.{Call, Event, Offered, SealEvent, bytes, changed, damaged, frame_at, frame_of, frame_offered, loss_figure, open_frame, play, seal, seal_event, sealed_by, sealing, stepped, whole}
use Rattle.replay.proofs.Follows.{AllAsked}
use Rattle.replay.proofs.SealedLaws.{coverable, made, seal_passed, sealed_fits}

-- ---- a sealed frame

Octets-none : Octets []
Octets-none k = omega arith

module _ (layers : Layers) (m : Meaning) (sound : Sound m) (s : Terms) (lawful : Lawful s) where
  -- the frame of an AAD and a message that are bytes
  Octets-sealed : (next : ℕ) (c : SealCall) → CallOctets (seal c) → seal_refusal m s next c ≡ None → Octets (sealed_frame m s next c)
  unfolding sealed_parts
  Octets-sealed next c given accepted =
      let passed = seal_passed m s next c accepted in
      let p = parameters s next in
      let t = s.tag_size in
      let ciphertext = ciphertext_of m p t c.bits c.message in
      layers.frames.octets (sealed_parts m s next c) (sealed_fits layers m s next c sound lawful accepted)
      (Octets-cleared c.aad_bits c.aad given.0)
      (layers.cover.covered.octets m (stream_nonce t p) c.bits c.message (coverable layers m s next c sound lawful passed) given.1)
      (layers.cover.octets m (instance_nonce t p) t c.aad_bits c.aad c.bits ciphertext)

  -- whatever a seal answers
  Octets-seal : (next : ℕ) (c : SealCall) → CallOctets (seal c) → Octets (sealed_by (sealing (seal_event c (sealed m s next c))))
  Octets-seal next c given = at (sealed m s next c).answer refl
    where
      event : SealEvent
      event = seal_event c (sealed m s next c)

      at : (r : Result Bytes Refusal) → event.answer ≡ r → Octets (frame_of r event.buffer)
      at (Err r) is = Octets-none
      at (Ok n) is =
          let h = made m s next event n refl is in
          subst Octets (sym h.frame) (Octets-sealed next c given h.accepted)

-- ---- a frame that is offered

Octets-changed : (place sum : ℕ) (xs : List ℕ) → sum < 256 → Octets xs → Octets (changed place sum xs)
Octets-changed place sum [] h o k = omega arith
Octets-changed zero sum (x ∷ xs) h o zero = xor_lt 8 x sum (o 0) h
Octets-changed zero sum (x ∷ xs) h o (suc k) = o (suc k)
Octets-changed (suc place) sum (x ∷ xs) h o zero = o 0
Octets-changed (suc place) sum (x ∷ xs) h o (suc k) = Octets-changed place sum xs h (λ i. o (suc i)) k

-- every frame that the calls of a journal sealed is bytes
abbrev FramesOctets : List Event → Type 0
FramesOctets [] = Unit {0}
FramesOctets (e ∷ es) = Octets (sealed_by e) × FramesOctets es

frames_more : (es : List Event) (e : Event) → FramesOctets es → Octets (sealed_by e) → FramesOctets (es ++ (e ∷ []))
frames_more [] e all one = (one, tt)
frames_more (x ∷ es) e all one = (all.0, frames_more es e all.1 one)

Octets-frame_at : (es : List Event) (k : ℕ) → FramesOctets es → Octets (frame_at es k)
Octets-frame_at [] k all = Octets-none
Octets-frame_at (e ∷ es) zero all = all.0
Octets-frame_at (e ∷ es) (suc k) all = Octets-frame_at es k all.1

Octets-offered : (journal : List Event) (f : Offered) → FramesOctets journal → OctetsOffered f → Octets (frame_offered journal f)
Octets-offered journal (bytes frame) all given = given
Octets-offered journal (whole call) all given = Octets-frame_at journal call all
Octets-offered journal (damaged call place sum) all given =
    Octets-changed place sum (frame_at journal call) given (Octets-frame_at journal call all)

-- ---- a run

-- only what is sealed has to be bytes, so the receiving end may mean anything
module _ (layers : Layers) (m : Meaning) (sound : Sound m) (k : Meaning) (s : Terms) (lawful : Lawful s) (r : Terms) where
  pub play_asked : (journal : List Event) (next : ℕ) (w : Window) (cs : List Call) → FramesOctets journal → CallsOctets cs
      → AllAsked (play m k s r journal next w cs)
  play_asked journal next w [] all given = tt
  play_asked journal next w (seal c ∷ cs) all given =
      let t = stepped m k s r journal next w (seal c) in (
        given.0,
        play_asked (journal ++ (t.event ∷ [])) t.next t.window cs
            (frames_more journal t.event all (Octets-seal layers m sound s lawful next c given.0)) given.1,
      )
  play_asked journal next w (open_frame work frame buffer ∷ cs) all given =
      let t = stepped m k s r journal next w (open_frame work frame buffer) in (
        Octets-offered journal frame all given.0,
        play_asked (journal ++ (t.event ∷ [])) t.next t.window cs (frames_more journal t.event all Octets-none) given.1,
      )
  play_asked journal next w (loss_figure ∷ cs) all given =
      let t = stepped m k s r journal next w loss_figure in
      (tt, play_asked (journal ++ (t.event ∷ [])) t.next t.window cs (frames_more journal t.event all Octets-none) given.1)
