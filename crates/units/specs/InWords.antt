-- Why a call says no, in words for people.
use Rattle.std.specs.Prelude.{ℕ, List, ◌++◌, codes}
use Rattle.units.specs.Refusals.{line}
use Rattle.units.specs.declared.refusals.Reason.{Reason}
use Rattle.units.specs.declared.refusals.Reason.TheVariants.{WorkArea, BearerDirection, TagSize, BitLength, InputBytes, OutputBytes, CountsUsed, Layout, OtherLink, SpareBits, OldCount, OpenedBefore, ShortKeystream, WrongTag, FaultyRecording, FaultyKey}
use Rattle.units.specs.declared.refusals.Refusal.{Refusal}

-- a reason in a few words
abbrev pub words : Reason → List ℕ
words WorkArea = codes "work area is not 64 bytes"
words BearerDirection = codes "bearer or direction out of range"
words TagSize = codes "tag size out of range"
words BitLength = codes "bit length out of range"
words InputBytes = codes "input has not the bytes its bits fill"
words OutputBytes = codes "output buffer has the wrong size"
words CountsUsed = codes "all counts are used"
words Layout = codes "frame layout is broken"
words OtherLink = codes "frame of another link"
words SpareBits = codes "spare bits are set"
words OldCount = codes "count is too old"
words OpenedBefore = codes "count was opened before"
words ShortKeystream = codes "keystream is too short"
words WrongTag = codes "tag does not match"
words FaultyRecording = codes "recording is faulty"
words FaultyKey = codes "key text is faulty"

-- a refusal as programs read it, and after it the reason in words
abbrev pub explained : Refusal → List ℕ
explained r = line r ++ (codes ": " ++ words r.reason)
