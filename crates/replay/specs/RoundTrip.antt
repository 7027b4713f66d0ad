-- What was sealed opens, to the same bits and under the same numbers, as long as its count is open.
use Rattle.std.specs.Prelude.{◌≡◌, ◌↔◌, ℕ, ◌+◌, ◌≤◌, List, ◌∷◌, ◌++◌, length, take, drop, Ok}
use Rattle.units.specs.Lengths.{filled}
use Rattle.units.specs.Spare.{cleared}
use Rattle.units.specs.declared.lengths.Bytes.{Bytes}
use Rattle.windows.specs.Windows.{StillOpen}
use Rattle.frames.specs.Frames.{parts}
use Rattle.link.specs.declared.receiving.Opened.{Opened}
use Rattle.replay.specs.Runs.{Event, sealing, opening, SealEvent, OpenEvent}
use Rattle.replay.specs.Laws.{Accepted, Tells, counts_opened, frames_sealed}

-- the count that the next accepted seal uses, after those of a journal that begins with the count `next`
abbrev pub count_after : ℕ → List Event → ℕ
count_after next journal = next + length (frames_sealed journal)

-- the open o, after the counts in `before` were opened, of the very frame that the seal e made with the count `used`
pub record Returned (first : ℕ) (before : List ℕ) (used : ℕ) (e : SealEvent) (o : OpenEvent) : Type 0 where
  -- the frame carries that count
  pub carried : (parts o.asked.frame).count ≡ used
  pub accepted : Accepted o ↔ StillOpen first before used
  -- the numbers of an accepted open are those of the seal
  pub numbers : (a : Opened) → o.answer ≡ Ok a → Tells used e.asked a
  -- the message is at the start of the buffer
  pub message : (a : Opened) → o.answer ≡ Ok a → take (filled a.bits.0) o.buffer ≡ cleared e.asked.bits e.asked.message
  -- the AAD is at its place in the frame
  pub aad :
      (a : Opened) → o.answer ≡ Ok a
      → take (filled a.aad_bits.0) (drop a.aad_place.0 o.asked.frame) ≡ cleared e.asked.aad_bits e.asked.aad

-- so it is with every seal and every open of a journal that begins with the count `next`
abbrev pub RoundTrip : ℕ → ℕ → List Event → Type 0
RoundTrip next first journal =
    (before after : List Event) (o : OpenEvent) → journal ≡ before ++ (opening o ∷ after)
    → o.asked.work ≡ 64 → 1400 ≤ length o.asked.buffer
    → (early late : List Event) (e : SealEvent) (n : Bytes) → journal ≡ early ++ (sealing e ∷ late) → e.answer ≡ Ok n
    → o.asked.frame ≡ take n.0 e.buffer
    → Returned first (counts_opened before) (count_after next early) e o
