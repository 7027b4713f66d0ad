-- The work area.
use Rattle.std.specs.Prelude.{◌≡◌, ℕ, List, length, take, drop, replicate}
use Rattle.cover.specs.declared.work_area.WorkArea.{WorkArea}

-- a work area of whatever length after a call: all its bytes are zero
abbrev pub wiped : List ℕ → List ℕ
wiped xs = replicate (length xs) 0

-- the bytes that a guard holds
abbrev pub held : WorkArea → List ℕ
held area = area.bytes.now

-- a guard holds the caller's bytes as before, as many, whatever they are
pub record Holds (old new : WorkArea) : Type 0 where
  pub name : new.bytes.ghost_name ≡ old.bytes.ghost_name
  pub long : length (held new) ≡ length (held old)

-- the sixteen bytes from a place on
unfoldable pub slot : List ℕ → ℕ → List ℕ
slot xs at = take 16 (drop at xs)
