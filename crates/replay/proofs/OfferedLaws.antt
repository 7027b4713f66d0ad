-- The frames that calls name.
use Rattle.std.proofs.Common.{◌≡◌, ℕ, zero, suc, ◌<◌, ◌≤◌, min, List, [], ◌∷◌, map, length, take, set, get_or, refl, ap, arith}
use native.Mathlib.Numerals.{unary_clauses}
use Rattle.units.specs.Sums.{◌⊕◌}
use Rattle.replay.specs.Journals.{told}
use Rattle.replay.specs.Runs.{changed, frame_at, sealed_by}
use Rattle.replay.specs.declared.calls.Event.{Event}

-- a byte that is there
pub changed_at : (xs : List ℕ) (place sum : ℕ) → place < length xs → set xs place (get_or xs place 0 ⊕ sum) ≡ changed place sum xs
changed_at [] place sum h = absurd (omega arith)
changed_at (x ∷ xs) zero sum h = refl
changed_at (x ∷ xs) (suc place) sum h = ap (λ (ys : List ℕ). x ∷ ys) (changed_at xs place sum (omega arith))

pub changed_past : (xs : List ℕ) (place sum : ℕ) → length xs ≤ place → xs ≡ changed place sum xs
changed_past [] place sum h = refl
changed_past (x ∷ xs) zero sum h = absurd (omega arith)
changed_past (x ∷ xs) (suc place) sum h = ap (λ (ys : List ℕ). x ∷ ys) (changed_past xs place sum (omega arith))

-- an event that is there
pub frame_there : (es : List Event) (k : ℕ) (e d : Event) → k < length es → e ≡ get_or es k d → sealed_by (told e) ≡ frame_at (map told es) k
frame_there [] k e d h p = absurd (omega arith)
frame_there (x ∷ es) zero e d h p = ap (λ (y : Event). sealed_by (told y)) p
frame_there (x ∷ es) (suc k) e d h p = frame_there es k e d (omega arith) p

pub frame_past : (es : List Event) (k : ℕ) → length es ≤ k → [] ≡ frame_at (map told es) k
frame_past [] k h = refl
frame_past (x ∷ es) zero h = absurd (omega arith)
frame_past (x ∷ es) (suc k) h = frame_past es k (omega arith)

-- no more is taken than there is
pub take_least : (xs : List ℕ) (n : ℕ) → take (min n (length xs)) xs ≡ take n xs
take_least [] zero = refl
take_least [] (suc n) = simp unary_clauses refl
take_least (x ∷ xs) zero = simp unary_clauses refl
take_least (x ∷ xs) (suc n) = simp unary_clauses (ap (λ (ys : List ℕ). x ∷ ys) (take_least xs n))
