-- A link over the flat keystream, and what a run of it shows.
use Rattle.std.specs.Prelude.{ℕ, ◌-◌, ◌^◌, List, [], ◌∷◌, ◌++◌, None, Some, Option, replicate}
use Rattle.units.specs.Refusals.{number}
use Rattle.units.specs.declared.refusals.Refusal.{Refusal}
use Rattle.windows.specs.Windows.{count_refusal, loss, mark, new_window}
use Rattle.link.specs.Seals.{SealCall}
use Rattle.link.specs.declared.settings.Terms.{Terms}
use Rattle.replay.specs.Runs.{Event, damaged, loss_figure, losing, open_frame, opening, play, seal, sealing, whole}
use Rattle.known.specs.Flat.{flat, number_of}

-- the number of a refusal, or 0
abbrev pub number_or_0 : Option Refusal → ℕ
number_or_0 None = 0
number_or_0 (Some r) = number r.reason

-- whether a count is open once 100 was opened, from the first count 0 on
abbrev pub judged : ℕ → ℕ
judged count = number_or_0 (count_refusal (mark (new_window 0) 100) count)

-- the loss figure where, of the 64 counts up to 100, the eight below 100 have not been opened
abbrev pub eight_lost : ℕ
eight_lost = loss (record { first = 0; highest = Some 100; opened = 2 ^ 64 - 1 - (2 ^ 9 - 2) })

-- bearer 5, direction 0, tags of 4 bytes
abbrev pub flat_terms : Terms
flat_terms = record { bearer = 5; direction = 0; tag_size = 4; extra_iv = None }

-- 13 bits without AAD, into a frame buffer full of FF
abbrev pub sealing_13_bits : SealCall
sealing_13_bits =
    record { work = 64; aad_bits = 0; aad = []; bits = 13; message = 0xAB ∷ 0xCD ∷ []; buffer = replicate 18 0xFF }

-- the frame of them, with the count 0
abbrev pub frame_of_13_bits : List ℕ
frame_of_13_bits =
    0x54 ∷ 0x46 ∷ 0x0A ∷ 0x04 ∷ 0 ∷ 0 ∷ 0 ∷ 0 ∷ 0 ∷ 0 ∷ 0 ∷ 13 ∷ 0x54 ∷ 0x30 ∷ 0x59 ∷ 0x30 ∷ 0x00 ∷ 0x00 ∷ []

-- the message buffer of an open, full of FF
abbrev pub room : List ℕ
room = replicate 1400 0xFF

-- the same once AB C8 was written to it
abbrev pub room_written : List ℕ
room_written = 0xAB ∷ 0xC8 ∷ replicate 1398 0xFF

-- a seal; an open of its frame with a bit of the tag changed, one of the frame itself, the same again; and the loss figure
abbrev pub flat_run : List Event
flat_run =
    play flat flat flat_terms flat_terms [] 0 (new_window 0)
    (seal sealing_13_bits
    ∷ open_frame 64 (damaged 0 17 1) room
    ∷ open_frame 64 (whole 0) room
    ∷ open_frame 64 (whole 0) room
    ∷ loss_figure
    ∷ [])

-- what a run shows: of each seal the refusal's number or 0, and the frame buffer; of each open that number, and the whole message
-- buffer; the loss figure
abbrev pub run_shown : List Event → List ℕ
run_shown [] = []
run_shown (sealing e ∷ es) = number_of e.answer ∷ (e.buffer ++ run_shown es)
run_shown (opening e ∷ es) = number_of e.answer ∷ (e.buffer ++ run_shown es)
run_shown (losing n ∷ es) = n ∷ run_shown es
