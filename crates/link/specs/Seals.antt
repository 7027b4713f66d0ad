-- What sealing comes to, for every input.
use Rattle.std.specs.Prelude.{ℕ, ◌+◌, ◌^◌, ◌||◌, List, length, Ok, Err, Some, None, Option, Result, cond, nat_lt, nat_le}
use Rattle.units.specs.Lengths.{filled, unlike}
use Rattle.units.specs.Refusals.{◌⊳◌}
use Rattle.units.specs.Spare.{cleared}
use Rattle.units.specs.declared.lengths.Bytes.{Bytes}
use Rattle.units.specs.declared.refusals.Reason.TheVariants.{WorkArea, BitLength, InputBytes, OutputBytes, CountsUsed}
use Rattle.units.specs.declared.refusals.Refusal.{Refusal}
use Rattle.generator.specs.Generators.{Meaning}
use Rattle.cover.specs.Combined.{ciphertext_of, tag_of, too_short_for}
use Rattle.frames.specs.Frames.{Parts, frame_length, layout}
use Rattle.link.specs.Answers.{over, refused_here}
use Rattle.link.specs.Settings.{line, parameters}
use Rattle.link.specs.declared.settings.Terms.{Terms}

-- all that the caller of a seal chooses; the work area by its length
pub record SealCall : Type 0 where
  pub work : ℕ
  pub aad_bits : ℕ
  pub aad : List ℕ
  pub bits : ℕ
  pub message : List ℕ
  pub buffer : List ℕ

-- the next count, as long as one is left
abbrev pub count_left : ℕ → Option ℕ
count_left next = cond (nat_lt next (2 ^ 32)) (Some next) None

-- why a seal with the next count is refused: the first test that is met
abbrev pub seal_refusal : Meaning → Terms → ℕ → SealCall → Option Refusal
seal_refusal m s next c =
    refused_here (unlike c.work 64) WorkArea
    ⊳ refused_here (nat_lt 512 c.aad_bits || nat_lt 11200 c.bits) BitLength
    ⊳ refused_here (unlike (length c.aad) (filled c.aad_bits) || unlike (length c.message) (filled c.bits)) InputBytes
    ⊳ refused_here (nat_lt (length c.buffer) (frame_length s.tag_size c.aad_bits c.bits)) OutputBytes
    ⊳ refused_here (nat_le (2 ^ 32) next) CountsUsed
    ⊳ too_short_for m (parameters s next) s.tag_size c.bits

-- the parts of the frame that is sealed with a count
unfoldable pub sealed_parts : Meaning → Terms → ℕ → SealCall → Parts
sealed_parts m s count c =
    record {
      line = line s;
      size = s.tag_size;
      count = count;
      aad_bits = c.aad_bits;
      bits = c.bits;
      aad = cleared c.aad_bits c.aad;
      ciphertext = ciphertext_of m (parameters s count) s.tag_size c.bits c.message;
      tag = tag_of m (parameters s count) s.tag_size c.aad_bits c.aad c.bits (ciphertext_of m (parameters s count) s.tag_size c.bits c.message);
    }

-- the frame itself
abbrev pub sealed_frame : Meaning → Terms → ℕ → SealCall → List ℕ
sealed_frame m s count c = layout (sealed_parts m s count c)

-- the answer, what the frame buffer then holds, and the next count
pub record SealOutcome : Type 0 where
  pub answer : Result Bytes Refusal
  pub buffer : List ℕ
  pub next : ℕ

-- the same, from the three
abbrev pub seal_outcome : Result Bytes Refusal → List ℕ → ℕ → SealOutcome
seal_outcome answer buffer next = record { answer = answer; buffer = buffer; next = next }

-- a seal that is refused uses no count and leaves the buffer as it was
abbrev pub seal_by : Option Refusal → Meaning → Terms → ℕ → SealCall → SealOutcome
seal_by (Some r) m s next c = seal_outcome (Err r) c.buffer next
seal_by None m s next c =
    seal_outcome (Ok (record { 0 = length (sealed_frame m s next c) })) (over (sealed_frame m s next c) c.buffer) (next + 1)

-- the whole call, by an end of these terms with this next count
abbrev pub sealed : Meaning → Terms → ℕ → SealCall → SealOutcome
sealed m s next c = seal_by (seal_refusal m s next c) m s next c
