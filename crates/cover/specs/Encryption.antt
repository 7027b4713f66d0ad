-- NEA5: a message plus the keystream.
use Rattle.std.specs.Prelude.{◌≡◌, ℕ, false, List, length, Ok, Option, None, ◌==◌}
use Rattle.units.specs.Lengths.{begun, filled, unlike}
use Rattle.units.specs.Refusals.{◌⊳◌}
use Rattle.units.specs.Spare.{cleared}
use Rattle.units.specs.Strings.{Octets}
use Rattle.units.specs.declared.refusals.Reason.TheVariants.{WorkArea, BitLength, InputBytes, OutputBytes}
use Rattle.units.specs.declared.refusals.Refusal.{Refusal}
use Rattle.generator.specs.Generators.{Meaning, Sound}
use Rattle.nonces.specs.Nonces.{extra_bytes, nonce, nonce_refusal}
use Rattle.nonces.specs.declared.Parameters.{Parameters}
use Rattle.cover.specs.Answers.{Written, refused_here, too_short, written}
use Rattle.cover.specs.Keystream.{covered}

-- the tag size counts as 0
abbrev pub nea5_nonce : Parameters → List ℕ
nea5_nonce p = nonce 0 false false p

-- why it refuses: the first test that is met. `work` is the length of the work area
abbrev pub nea5_refusal : Meaning → ℕ → Parameters → ℕ → List ℕ → List ℕ → Option Refusal
nea5_refusal m work p bits input output =
    refused_here (unlike work 64) WorkArea
    ⊳ nonce_refusal None p
    ⊳ refused_here (bits == 0) BitLength
    ⊳ refused_here (unlike (length input) (filled bits)) InputBytes
    ⊳ refused_here (unlike (length output) (filled bits)) OutputBytes
    ⊳ too_short m (nea5_nonce p) (begun bits)

-- the whole call
abbrev pub nea5 : Meaning → ℕ → Parameters → ℕ → List ℕ → List ℕ → Written
nea5 m work p bits input output =
    written (nea5_refusal m work p bits input output) output (covered m (nea5_nonce p) bits input)

-- NEA5 on what an accepted NEA5 wrote gives the input again, its spare bits cleared
abbrev pub Nea5Twice : Type 0
Nea5Twice =
    (m : Meaning) (work : ℕ) (p : Parameters) (bits : ℕ) (input output : List ℕ)
    → Sound m
    → Octets (extra_bytes p.extra_iv)
    → nea5_refusal m work p bits input output ≡ None
    → nea5 m work p bits (nea5 m work p bits input output).output output ≡ record { answer = Ok tt; output = cleared bits input }
