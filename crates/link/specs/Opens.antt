-- What opening comes to, for every input.
use Rattle.std.specs.Prelude.{◌≡◌, ℕ, Bool, not, ◌||◌, List, length, Ok, Err, Some, None, Option, Result, nat_lt}
use Rattle.units.specs.Lengths.{unlike}
use Rattle.units.specs.Refusals.{◌⊳◌, refused}
use Rattle.units.specs.Spare.{clear}
use Rattle.units.specs.declared.refusals.Layer.TheVariants.{Cover}
use Rattle.units.specs.declared.refusals.Reason.TheVariants.{WorkArea, OutputBytes, OtherLink, SpareBits}
use Rattle.units.specs.declared.refusals.Refusal.{Refusal}
use Rattle.generator.specs.Generators.{Meaning}
use Rattle.cover.specs.Combined.{ciphertext_of, too_short_for, wrong_tag}
use Rattle.windows.specs.Windows.{count_refusal, mark}
use Rattle.windows.specs.declared.Window.{Window}
use Rattle.frames.specs.Frames.{Parts, layout_refusal, parts}
use Rattle.link.specs.Answers.{over, refused_here}
use Rattle.link.specs.Settings.{line, parameters}
use Rattle.link.specs.declared.receiving.Opened.{Opened}
use Rattle.link.specs.declared.settings.Terms.{Terms}

-- all that the caller of an open chooses; the work area by its length
pub record OpenCall : Type 0 where
  pub work : ℕ
  pub frame : List ℕ
  pub buffer : List ℕ

-- 9: the frame is of another link
abbrev pub other_link : Terms → Parts → Bool
other_link s p = unlike p.line (line s) || unlike p.size s.tag_size

-- 10: spare bits are set in AAD or ciphertext
abbrev pub spare_set : Parts → Bool
spare_set p = not (clear p.aad_bits p.aad) || not (clear p.bits p.ciphertext)

-- 8, 9 and 10
abbrev pub frame_refusal : Terms → List ℕ → Option Refusal
frame_refusal s f =
    layout_refusal f
    ⊳ refused_here (other_link s (parts f)) OtherLink
    ⊳ refused (spare_set (parts f)) SpareBits Cover 0

-- a frame that meets none of them is well formed for an end
abbrev pub WellFormed : Terms → List ℕ → Type 0
WellFormed s f = frame_refusal s f ≡ None

-- 13 and 14
abbrev pub tag_refusal : Meaning → Terms → Parts → Option Refusal
tag_refusal m s p =
    too_short_for m (parameters s p.count) s.tag_size p.bits
    ⊳ wrong_tag m (parameters s p.count) s.tag_size p.aad_bits p.aad p.bits p.ciphertext p.tag

-- why an open is refused: the first test that is met
abbrev pub open_refusal : Meaning → Terms → Window → OpenCall → Option Refusal
open_refusal m s w c =
    refused_here (unlike c.work 64) WorkArea
    ⊳ refused_here (nat_lt (length c.buffer) 1400) OutputBytes
    ⊳ frame_refusal s c.frame
    ⊳ count_refusal w (parts c.frame).count
    ⊳ tag_refusal m s (parts c.frame)

-- what an accepted open answers: the count, the message bits, and the place of the AAD in the frame and its bits
abbrev pub opened_as : Parts → Opened
opened_as p =
    record {
      count = p.count;
      bits = record { 0 = p.bits };
      aad_place = record { 0 = 12 };
      aad_bits = record { 0 = p.aad_bits };
    }

-- the message of a frame, its spare bits cleared
abbrev pub opened_message : Meaning → Terms → Parts → List ℕ
opened_message m s p = ciphertext_of m (parameters s p.count) s.tag_size p.bits p.ciphertext

-- the answer, what the message buffer then holds, and the window
pub record OpenOutcome : Type 0 where
  pub answer : Result Opened Refusal
  pub buffer : List ℕ
  pub window : Window

-- the same, from the three
abbrev pub open_outcome : Result Opened Refusal → List ℕ → Window → OpenOutcome
open_outcome answer buffer window = record { answer = answer; buffer = buffer; window = window }

-- an open that is refused marks nothing and leaves the buffer as it was
abbrev pub open_by : Option Refusal → Meaning → Terms → Window → OpenCall → OpenOutcome
open_by (Some r) m s w c = open_outcome (Err r) c.buffer w
open_by None m s w c =
    open_outcome (Ok (opened_as (parts c.frame))) (over (opened_message m s (parts c.frame)) c.buffer) (mark w (parts c.frame).count)

-- the whole call, by an end of these terms with this window
abbrev pub opened : Meaning → Terms → Window → OpenCall → OpenOutcome
opened m s w c = open_by (open_refusal m s w c) m s w c
