-- How many different things a list holds.
use Rattle.std.specs.Prelude.{ℕ, ◌+◌, Bool, false, cond, ◌||◌, List, [], ◌∷◌}

-- whether a thing is among those of a list, by a test of equality
abbrev pub among : {A : Type 0} → (A → A → Bool) → A → List A → Bool
among equal x [] = false
among equal x (y ∷ ys) = equal x y || among equal x ys

-- how many there are: each counts where it stands for the last time
abbrev pub different : {A : Type 0} → (A → A → Bool) → List A → ℕ
different equal [] = 0
different equal (x ∷ xs) = cond (among equal x xs) 0 1 + different equal xs
