-- What the calls and the events of a run say: the bytes that they hold, and not where they lie.
use Rattle.std.specs.Prelude.{vec_items}
use Rattle.link.specs.Seals.{SealCall}
use Rattle.replay.specs.Runs.{Call as Played, Offered as Named, Event as Told, SealEvent as SealTold, OpenEvent as OpenTold, bytes, whole, damaged, seal, open_frame, loss_figure, sealing, opening, losing}
use Rattle.replay.specs.declared.calls.Sealing.{Sealing}
use Rattle.replay.specs.declared.calls.Offered.{Offered}
use Rattle.replay.specs.declared.calls.Offered.TheVariants.{Bytes, Sealed, Damaged}
use Rattle.replay.specs.declared.calls.Call.{Call}
use Rattle.replay.specs.declared.calls.Call.TheVariants.{Seal, Open, Loss}
use Rattle.replay.specs.declared.calls.Event.{Event}
use Rattle.replay.specs.declared.calls.SealEvent.{SealEvent}
use Rattle.replay.specs.declared.calls.OpenEvent.{OpenEvent}
use Rattle.replay.specs.declared.calls.Event.TheVariants.{Seal as SealMade, Open as OpenMade, Loss as LossMade}

abbrev pub seal_call : Sealing → SealCall
seal_call a =
    record {
      work = a.work.0;
      aad_bits = a.aad_bits.0;
      aad = vec_items a.aad;
      bits = a.bits.0;
      message = vec_items a.message;
      buffer = vec_items a.buffer;
    }

abbrev pub named : Offered → Named
named (Bytes frame) = bytes (vec_items frame)
named (Sealed call) = whole call
named (Damaged call place sum) = damaged call place sum

-- a call
abbrev pub played : Call → Played
played (Seal a) = seal (seal_call a)
played (Open a) = open_frame a.work.0 (named a.frame) (vec_items a.buffer)
played Loss = loss_figure

abbrev pub seal_told : SealEvent → SealTold
seal_told e = record { asked = seal_call e.asked; answer = e.answer; buffer = vec_items e.buffer }

abbrev pub open_told : OpenEvent → OpenTold
open_told e =
    record {
      asked = record { work = e.work.0; frame = vec_items e.frame; buffer = vec_items e.before };
      answer = e.answer;
      buffer = vec_items e.buffer;
    }

-- an event
abbrev pub told : Event → Told
told (SealMade e) = sealing (seal_told e)
told (OpenMade e) = opening (open_told e)
told (LossMade n) = losing n
