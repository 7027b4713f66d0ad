-- Why a call says no: the reasons, their numbers, and how a refusal is written.
use Rattle.std.specs.Prelude.{ℕ, Bool, cond, List, ◌++◌, Some, None, Option, Ok, Err, Result, codes, decimal}
use Rattle.units.specs.declared.refusals.Layer.{Layer}
use Rattle.units.specs.declared.refusals.Layer.TheVariants.{Cover, Link, Generator, Recording, KeyText}
use Rattle.units.specs.declared.refusals.Reason.{Reason}
use Rattle.units.specs.declared.refusals.Reason.TheVariants.{WorkArea, BearerDirection, TagSize, BitLength, InputBytes, OutputBytes, CountsUsed, Layout, OtherLink, SpareBits, OldCount, OpenedBefore, ShortKeystream, WrongTag, FaultyRecording, FaultyKey}
use Rattle.units.specs.declared.refusals.Refusal.{Refusal}

-- the number of a reason
abbrev pub number : Reason → ℕ
number WorkArea = 1
number BearerDirection = 2
number TagSize = 3
number BitLength = 4
number InputBytes = 5
number OutputBytes = 6
number CountsUsed = 7
number Layout = 8
number OtherLink = 9
number SpareBits = 10
number OldCount = 11
number OpenedBefore = 12
number ShortKeystream = 13
number WrongTag = 14
number FaultyRecording = 15
number FaultyKey = 16

-- a refusal for a reason, which names a layer and a place
abbrev pub refusal : Reason → Layer → ℕ → Refusal
refusal r l p = record { reason = r; layer = l; place = p }

-- the outcome of a test: a refusal where it is met
abbrev pub refused : Bool → Reason → Layer → ℕ → Option Refusal
refused met r l p = cond met (Some (refusal r l p)) None

infixr 40 ◌⊳◌
-- the first refusal of two tests, made one after the other
abbrev pub ◌⊳◌ : Option Refusal → Option Refusal → Option Refusal
(Some r) ⊳ b = Some r
None ⊳ b = b

-- an answer, unless there is a refusal
abbrev pub unless : {A : Type 0} → Option Refusal → A → Result A Refusal
unless None a = Ok a
unless (Some r) a = Err r

-- the answer of a test: nothing, or its refusal
abbrev pub told : Option Refusal → Result (Unit {0}) Refusal
told None = Ok tt
told (Some r) = Err r

-- a layer as one word
abbrev pub word : Layer → List ℕ
word Cover = codes "cover"
word Link = codes "link"
word Generator = codes "generator"
word Recording = codes "recording"
word KeyText = codes "key-text"

-- a refusal as programs read it: refused NUMBER LAYER PLACE
abbrev pub line : Refusal → List ℕ
line r = codes "refused " ++ (decimal (number r.reason) ++ (codes " " ++ (word r.layer ++ (codes " " ++ decimal r.place))))
