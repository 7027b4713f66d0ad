-- The records of a recording, and what each looks like written out.
use Rattle.std.specs.Prelude.{◌≡◌, ℕ, ◌+◌, ◌*◌, ◌≤◌, cond, ◌&&◌, List, [], ◌∷◌, ◌++◌, length, take, drop, Some, None, Option, nat_le, slice_index}
use Rattle.std.specs.Borrow.{Bor}
use Rattle.std.specs.List.{flat_map, AllByRecursion}
use Rattle.std.specs.Simd.{first_chunks}
use Rattle.units.specs.Strings.{same, two, two_at}
use Rattle.recording.specs.declared.records.Record.{Record}
use Rattle.recording.specs.declared.records.Record.TheVariants.{Keystream, Remark}

-- a record by what it holds
pub data Entry : Type 0 where
  keystream : List ℕ → List (List ℕ) → Entry
  remark : List ℕ → Entry

abbrev pub keystream_mark : List ℕ
keystream_mark = 0x4B ∷ 0x53 ∷ []

abbrev pub remark_mark : List ℕ
remark_mark = 0x52 ∷ 0x4D ∷ []

-- a record written out
abbrev pub written : Entry → List ℕ
written (keystream nonce blocks) = keystream_mark ++ (nonce ++ (two (length blocks) ++ flat_map (λ block. block) blocks))
written (remark text) = remark_mark ++ (length text ∷ text)

-- a nonce of 12 bytes and 1 to 1,024 blocks of 16, or a remark whose length fits one byte
abbrev pub WellFormed : Entry → Type 0
WellFormed (keystream nonce blocks) = (length nonce ≡ 12) × (1 ≤ length blocks) × (length blocks ≤ 1024) × AllByRecursion (λ block. length block ≡ 16) blocks
WellFormed (remark text) = length text ≤ 255

-- the bytes xs are the record e and then the rest
pub record Begins (e : Entry) (rest xs : List ℕ) : Type 0 where
  pub formed : WellFormed e
  pub parts : xs ≡ written e ++ rest

-- the bytes xs begin with no record, as where there are none
abbrev pub NoRecord : List ℕ → Type 0
NoRecord xs = (e : Entry) (rest : List ℕ) → Begins e rest xs → ⊥

-- a keystream record and the rest, from the bytes after the mark: nonce, block count, blocks
abbrev pub first_keystream : List ℕ → Option (Entry × List ℕ)
first_keystream xs =
    cond (nat_le 1 (two_at xs 12) && nat_le (two_at xs 12) 1024 && nat_le (14 + 16 * two_at xs 12) (length xs))
    (Some (keystream (take 12 xs) (first_chunks 16 (two_at xs 12) (drop 14 xs)), drop (14 + 16 * two_at xs 12) xs))
    None

-- a remark and the rest, from the bytes after the mark: length, text
abbrev pub first_remark : List ℕ → Option (Entry × List ℕ)
first_remark xs =
    cond (nat_le (1 + slice_index xs 0) (length xs))
    (Some (remark (take (slice_index xs 0) (drop 1 xs)), drop (1 + slice_index xs 0) xs))
    None

-- the record with which the bytes xs begin, if they begin with one, and the rest
abbrev pub first : List ℕ → Option (Entry × List ℕ)
first xs =
    cond (same (take 2 xs) keystream_mark) (first_keystream (drop 2 xs))
    (cond (same (take 2 xs) remark_mark) (first_remark (drop 2 xs)) None)

-- what was found at the front of xs is there, and where nothing was found, no record is there
abbrev pub Faithful : List ℕ → Option (Entry × List ℕ) → Type 0
Faithful xs None = NoRecord xs
Faithful xs (Some p) = Begins p.0 p.1 xs

-- a record of the code by what it holds
abbrev pub entry : Record → Entry
entry (Keystream nonce blocks) = keystream nonce.now blocks.now
entry (Remark text) = remark text.now

-- the same, with the bytes after it
abbrev pub parsed : Record × Bor (List ℕ) → Entry × List ℕ
parsed p = (entry p.0, p.1.now)
