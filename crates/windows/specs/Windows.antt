-- The window of a receiving end.
use Rattle.std.specs.Prelude.{◌≡◌, ◌↔◌, ℕ, zero, suc, ◌+◌, ◌-◌, ◌*◌, ◌/◌, ◌%◌, ◌^◌, ◌<◌, ◌≤◌, min, max, bit_or, Bool, false, cond, ◌&&◌, ◌||◌, List, [], ◌∷◌, Some, None, Option, ◌==◌, nat_eq, nat_lt, nat_le}
use Rattle.std.specs.Int.{bit_at}
use Rattle.units.specs.Different.{among}
use Rattle.units.specs.Refusals.{◌⊳◌, refused}
use Rattle.units.specs.declared.refusals.Layer.TheVariants.{Link}
use Rattle.units.specs.declared.refusals.Reason.TheVariants.{OldCount, OpenedBefore}
use Rattle.units.specs.declared.refusals.Refusal.{Refusal}
use Rattle.windows.specs.declared.Window.{Window}

-- nothing has been opened
abbrev pub new_window : ℕ → Window
new_window first = record { first = first; highest = None; opened = 0 }

-- whether a count is 64 or more below the highest opened
abbrev pub left_behind : Option ℕ → ℕ → Bool
left_behind None count = false
left_behind (Some highest) count = nat_le (count + 64) highest

-- whether a count, of the 64 up to the highest, has been opened
abbrev pub held : Option ℕ → ℕ → ℕ → Bool
held None opened count = false
held (Some highest) opened count = nat_le count highest && (bit_at opened (highest - count) == 1)

-- why a count is not open: 11, and then 12
abbrev pub count_refusal : Window → ℕ → Option Refusal
count_refusal w count =
    refused (nat_lt count w.first || left_behind w.highest count) OldCount Link 0
    ⊳ refused (held w.highest w.opened count) OpenedBefore Link 0

-- the 64 bits once a count has been opened: all move up where it is the highest, and its own is set
abbrev pub bits_after : Option ℕ → ℕ → ℕ → ℕ
bits_after None opened count = 1
bits_after (Some highest) opened count =
    cond (nat_lt highest count) (bit_or (opened * 2 ^ (count - highest) % 2 ^ 64) 1) (bit_or opened (2 ^ (highest - count)))

-- the highest once a count has been opened
abbrev pub higher : Option ℕ → ℕ → ℕ
higher None count = count
higher (Some highest) count = max highest count

-- the window once a count that is open has been opened
unfoldable pub mark : Window → ℕ → Window
mark w count =
    record { first = w.first; highest = Some (higher w.highest count); opened = bits_after w.highest w.opened count }

-- a count that is not open is not marked
abbrev pub mark_unless : Option Refusal → Window → ℕ → Window
mark_unless None w count = mark w count
mark_unless (Some r) w count = w

-- the window after a count was to be marked
abbrev pub after : Window → ℕ → Window
after w count = mark_unless (count_refusal w count) w count

-- how many of the n counts up to the highest have been opened
abbrev pub opened_of : ℕ → ℕ → ℕ
opened_of zero opened = 0
opened_of (suc n) opened = bit_at opened n + opened_of n opened

-- m missing of w, in percent, to the nearest whole, a half upward
abbrev pub percent : ℕ → ℕ → ℕ
percent m w = (200 * m + w) / (2 * w)

-- the loss figure, from the first count, the highest opened and the bits
abbrev pub loss_from : ℕ → Option ℕ → ℕ → ℕ
loss_from first None opened = 0
loss_from first (Some highest) opened =
    let w = min 64 (highest + 1 - first) in percent (w - opened_of w opened) w

-- the loss figure
abbrev pub loss : Window → ℕ
loss w = loss_from w.first w.highest w.opened

-- the window after counts have been opened one after the other
abbrev pub marked : Window → List ℕ → Window
marked w [] = w
marked w (c ∷ cs) = marked (mark w c) cs

-- ---- the same, told by the list of the counts that have been opened

-- whether a count is in a list
abbrev pub is_in : ℕ → List ℕ → Bool
is_in c ds = among nat_eq c ds

-- the greatest count of a list
abbrev pub greatest : List ℕ → ℕ
greatest [] = 0
greatest (c ∷ cs) = max c (greatest cs)

-- why a count is not open, by the counts opened before
abbrev pub refusal_by : ℕ → List ℕ → ℕ → Option Refusal
refusal_by first opened count =
    refused (nat_lt count first || nat_le (count + 64) (greatest opened)) OldCount Link 0
    ⊳ refused (is_in count opened) OpenedBefore Link 0

-- a count is still open: not below the first, not opened, fewer than 64 below the greatest opened
pub record StillOpen (first : ℕ) (opened : List ℕ) (count : ℕ) : Type 0 where
  pub from : first ≤ count
  pub fresh : is_in count opened ≡ false
  pub near : greatest opened < count + 64

-- how many of the n counts up to the highest are not among those opened
abbrev pub missing : ℕ → List ℕ → ℕ → ℕ
missing highest opened zero = 0
missing highest opened (suc n) = cond (is_in (highest - n) opened) 0 1 + missing highest opened n

-- the loss figure, by the counts opened before
abbrev pub loss_by : ℕ → List ℕ → ℕ
loss_by first [] = 0
loss_by first (c ∷ cs) =
    let h = greatest (c ∷ cs) in let w = min 64 (h + 1 - first) in percent (missing h (c ∷ cs) w) w

-- a window reached from a new one judges, and gives the loss figure, by the list of the counts opened
pub record WindowTells : Type 0 where
  pub judged : (first : ℕ) (opened : List ℕ) (count : ℕ)
      → count_refusal (marked (new_window first) opened) count ≡ refusal_by first opened count
  pub still : (first : ℕ) (opened : List ℕ) (count : ℕ) → refusal_by first opened count ≡ None ↔ StillOpen first opened count
  pub lost : (first : ℕ) (opened : List ℕ) → loss (marked (new_window first) opened) ≡ loss_by first opened
