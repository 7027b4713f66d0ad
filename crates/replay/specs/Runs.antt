-- Any list of calls on the two ends of a link, and the journal of what came of each.
use Rattle.std.specs.Prelude.{◌≡◌, ℕ, zero, suc, List, [], ◌∷◌, ◌++◌, take, Ok, Err, Result}
use Rattle.units.specs.Sums.{◌⊕◌}
use Rattle.units.specs.declared.lengths.Bytes.{Bytes}
use Rattle.units.specs.declared.refusals.Refusal.{Refusal}
use Rattle.generator.specs.Generators.{Meaning}
use Rattle.windows.specs.Windows.{loss}
use Rattle.windows.specs.declared.Window.{Window}
use Rattle.link.specs.Seals.{SealCall, SealOutcome, sealed}
use Rattle.link.specs.Opens.{OpenCall, OpenOutcome, opened}
use Rattle.link.specs.declared.receiving.Opened.{Opened}
use Rattle.link.specs.declared.settings.Terms.{Terms}

-- a call of seal, or of open, with its answer and what its buffer then held
pub record SealEvent : Type 0 where
  pub asked : SealCall
  pub answer : Result Bytes Refusal
  pub buffer : List ℕ

pub record OpenEvent : Type 0 where
  pub asked : OpenCall
  pub answer : Result Opened Refusal
  pub buffer : List ℕ

-- what came of a call: of a seal, of an open, or of the loss figure
pub data Event : Type 0 where
  sealing : SealEvent → Event
  opening : OpenEvent → Event
  losing : ℕ → Event

abbrev pub seal_event : SealCall → SealOutcome → SealEvent
seal_event c o = record { asked = c; answer = o.answer; buffer = o.buffer }

abbrev pub open_event : OpenCall → OpenOutcome → OpenEvent
open_event c o = record { asked = c; answer = o.answer; buffer = o.buffer }

-- the frame of a seal, if it was accepted
abbrev pub frame_of : Result Bytes Refusal → List ℕ → List ℕ
frame_of (Ok n) buffer = take n.0 buffer
frame_of (Err r) buffer = []

-- the frame that a call sealed, if it is a seal that was accepted
abbrev pub sealed_by : Event → List ℕ
sealed_by (sealing e) = frame_of e.answer e.buffer
sealed_by (opening e) = []
sealed_by (losing n) = []

-- the frame of the call at a place of the journal; no bytes where no accepted seal stands there
abbrev pub frame_at : List Event → ℕ → List ℕ
frame_at [] k = []
frame_at (e ∷ es) zero = sealed_by e
frame_at (e ∷ es) (suc k) = frame_at es k

-- bytes of which one is changed, by a sum; past the end there is none
abbrev pub changed : ℕ → ℕ → List ℕ → List ℕ
changed place sum [] = []
changed zero sum (x ∷ xs) = (x ⊕ sum) ∷ xs
changed (suc place) sum (x ∷ xs) = x ∷ changed place sum xs

-- the frame that is offered to an open: bytes, or the frame of an earlier call, whole or with one byte changed
pub data Offered : Type 0 where
  bytes : List ℕ → Offered
  whole : ℕ → Offered
  damaged : ℕ → ℕ → ℕ → Offered

-- the bytes of it, after the calls of a journal
abbrev pub frame_offered : List Event → Offered → List ℕ
frame_offered journal (bytes frame) = frame
frame_offered journal (whole call) = frame_at journal call
frame_offered journal (damaged call place sum) = changed place sum (frame_at journal call)

-- a call, with all that its caller chooses: of an open the length of the work area, the frame and the message buffer
pub data Call : Type 0 where
  seal : SealCall → Call
  open_frame : ℕ → Offered → List ℕ → Call
  loss_figure : Call

-- an open, with the bytes that are offered to it after the calls of a journal
abbrev pub asked : List Event → ℕ → Offered → List ℕ → OpenCall
asked journal work frame buffer = record { work = work; frame = frame_offered journal frame; buffer = buffer }

-- one call: what came of it, and then the next count of the sending end and the window of the receiving end
pub record Turn : Type 0 where
  pub event : Event
  pub next : ℕ
  pub window : Window

abbrev pub turn : Event → ℕ → Window → Turn
turn event next window = record { event = event; next = next; window = window }

-- the sending end means m, has the terms s and the next count; the receiving end means k, has the terms r and the window w
abbrev pub stepped : Meaning → Meaning → Terms → Terms → List Event → ℕ → Window → Call → Turn
stepped m k s r journal next w (seal c) = turn (sealing (seal_event c (sealed m s next c))) (sealed m s next c).next w
stepped m k s r journal next w (open_frame work frame buffer) =
    let c = asked journal work frame buffer in turn (opening (open_event c (opened k r w c))) next (opened k r w c).window
stepped m k s r journal next w loss_figure = turn (losing (loss w)) next w

-- what came of each of a list of calls, made one after another after those of a journal
abbrev pub play : Meaning → Meaning → Terms → Terms → List Event → ℕ → Window → List Call → List Event
play m k s r journal next w [] = []
play m k s r journal next w (c ∷ cs) =
    let t = stepped m k s r journal next w c in t.event ∷ play m k s r (journal ++ (t.event ∷ [])) t.next t.window cs

-- the next count of the sending end, and the window of the receiving end
pub record Ends : Type 0 where
  pub next : ℕ
  pub window : Window

-- the same, from the two
abbrev pub ends : ℕ → Window → Ends
ends next window = record { next = next; window = window }

-- those that a list of calls leaves
abbrev pub left : Meaning → Meaning → Terms → Terms → List Event → ℕ → Window → List Call → Ends
left m k s r journal next w [] = ends next w
left m k s r journal next w (c ∷ cs) =
    let t = stepped m k s r journal next w c in left m k s r (journal ++ (t.event ∷ [])) t.next t.window cs

-- those that the first calls of a list leave, of however many
abbrev pub LeftBySome : Meaning → Meaning → Terms → Terms → ℕ → Window → List Call → Ends → Type 0
LeftBySome m k s r next w calls e = (n : ℕ) × (e ≡ left m k s r [] next w (take n calls))
