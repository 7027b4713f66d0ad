-- What the cover's answer says of the open.
use Rattle.std.proofs.Common.{◌≡◌, ℕ, ◌≤◌, false, List, ◌++◌, length, take, drop, Some, None, Err, Option, Result, refl, sym, ap, ◌∙◌, arith, take-append-drop}
use Rattle.std.proofs.lemmas.Bool.Decides.{nat_tests}
use Rattle.units.specs.Lengths.{filled}
use Rattle.units.specs.Refusals.{told}
use Rattle.units.specs.declared.refusals.Refusal.{Refusal}
use Rattle.generator.specs.Generators.{Meaning}
use Rattle.cover.specs.Answers.{Written, outcome, written}
use Rattle.cover.specs.Combined.{open_refusal}
use Rattle.windows.specs.Windows.{after, count_refusal, mark, mark_unless}
use Rattle.windows.specs.declared.Window.{Window}
use Rattle.frames.specs.Frames.{Fits, Parts}
use Rattle.link.specs.Answers.{over}
use Rattle.link.specs.Opens.{other_link, spare_set, tag_refusal}
use Rattle.link.specs.Settings.{Lawful, parameters}
use Rattle.link.specs.declared.settings.Terms.{Terms}

-- the refusal that was answered is the one that there was
pub told_some : (o : Option Refusal) (e : Refusal) → Err e ≡ told o → o ≡ Some e
told_some None e h = absurd (cc)
told_some (Some r) e h = let q : r ≡ e = cc in ap (λ (v : Refusal). Some v) q

-- once the link's tests are passed, of the cover's only those of reach and tag can be met
pub tests_left : (m : Meaning) (s : Terms) (p : Parts) (work : ℕ) (message : List ℕ)
    → Lawful s
    → Fits p
    → other_link s p ≡ false
    → spare_set p ≡ false
    → work ≡ 64
    → length message ≡ filled p.bits
    → open_refusal m work (parameters s p.count) s.tag_size p.aad_bits p.aad p.bits p.ciphertext p.tag message ≡ tag_refusal m s p
tests_left m s p work message lawful fits link spare full room = grind (arith, nat_tests, lawful, fits, link, spare, full, room)

-- a refusal left the buffer as it was
pub written_err : (o : Option Refusal) (before after out : List ℕ) (e : Refusal)
    → outcome (Err e) out ≡ written o before after
    → (o ≡ Some e) × (out ≡ before)
written_err None before after out e h = absurd (let q = ap (λ (v : Written). v.answer) h in cc)
written_err (Some r) before after out e h = (told_some (Some r) e (λ i. (h i).answer), λ i. (h i).output)

-- what was written to the first n bytes of a buffer, for the whole buffer
pub written_over : (n : ℕ) (o : Option Refusal) (answer : Result (Unit {0}) Refusal) (out after buffer : List ℕ)
    → length out ≡ n
    → outcome answer out ≡ written o (take n buffer) after
    → outcome answer (out ++ drop n buffer) ≡ written o buffer (over after buffer)
unfolding over
written_over n None answer out after buffer e h =
    (λ i. outcome answer (out ++ drop (sym e i) buffer))
    ∙ (λ i. outcome (h i).answer ((h i).output ++ drop (length (h i).output) buffer))
written_over n (Some r) answer out after buffer e h =
    (λ i. outcome (h i).answer ((h i).output ++ drop n buffer)) ∙ ap (outcome (Err r)) (take-append-drop n buffer)

-- the message of a well-formed frame is within a buffer for the longest
pub message_within : (p : Parts) (buffer : List ℕ) → Fits p → 1400 ≤ length buffer → filled p.bits ≤ length buffer
unfolding filled
message_within p buffer fits room = omega (arith, fits.bits, room)

-- marking leaves the first count
first_kept : (r : Option Refusal) (w : Window) (count : ℕ) → (mark_unless r w count).first ≡ w.first
unfolding mark
first_kept None w count = refl
first_kept (Some r) w count = refl

pub first_after : (w : Window) (count : ℕ) → (after w count).first ≡ w.first
first_after w count = first_kept (count_refusal w count) w count
