-- What the callers of a run hand over is bytes.
use Rattle.std.specs.Prelude.{◌<◌, List, [], ◌∷◌}
use Rattle.units.specs.Strings.{Octets}
use Rattle.replay.specs.Runs.{Call, Offered, bytes, whole, damaged, seal, open_frame, loss_figure}

-- the bytes that are offered to an open, or the sum that changes one of an earlier frame
abbrev pub OctetsOffered : Offered → Type 0
OctetsOffered (bytes frame) = Octets frame
OctetsOffered (whole call) = Unit {0}
OctetsOffered (damaged call place sum) = sum < 256

-- the AAD and the message of a seal, and what is offered to an open
abbrev pub CallOctets : Call → Type 0
CallOctets (seal c) = Octets c.aad × Octets c.message
CallOctets (open_frame work frame buffer) = OctetsOffered frame
CallOctets loss_figure = Unit {0}

-- of all calls of a list
abbrev pub CallsOctets : List Call → Type 0
CallsOctets [] = Unit {0}
CallsOctets (c ∷ cs) = CallOctets c × CallsOctets cs
