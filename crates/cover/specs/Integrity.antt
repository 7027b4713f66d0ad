-- NIA5: a tag over a text, which stands as AAD, with an empty message.
use Rattle.std.specs.Prelude.{ℕ, false, true, List, [], length, Option, Some, ◌==◌}
use Rattle.units.specs.Lengths.{filled, unlike}
use Rattle.units.specs.Refusals.{◌⊳◌}
use Rattle.units.specs.declared.refusals.Reason.TheVariants.{WorkArea, BitLength, InputBytes, OutputBytes}
use Rattle.units.specs.declared.refusals.Refusal.{Refusal}
use Rattle.generator.specs.Generators.{Meaning}
use Rattle.nonces.specs.Nonces.{nonce, nonce_refusal}
use Rattle.nonces.specs.declared.Parameters.{Parameters}
use Rattle.cover.specs.Answers.{Written, refused_here, too_short, written}
use Rattle.cover.specs.Tags.{tag_under}

-- with the instance bit, for H, Q and P
abbrev pub nia5_nonce : ℕ → Parameters → List ℕ
nia5_nonce t p = nonce t false true p

-- why it refuses: the first test that is met
abbrev pub nia5_refusal : Meaning → ℕ → Parameters → ℕ → ℕ → List ℕ → List ℕ → Option Refusal
nia5_refusal m work p t bits text out =
    refused_here (unlike work 64) WorkArea
    ⊳ nonce_refusal (Some t) p
    ⊳ refused_here (bits == 0) BitLength
    ⊳ refused_here (unlike (length text) (filled bits)) InputBytes
    ⊳ refused_here (unlike (length out) t) OutputBytes
    ⊳ too_short m (nia5_nonce t p) 3

-- the whole call
abbrev pub nia5 : Meaning → ℕ → Parameters → ℕ → ℕ → List ℕ → List ℕ → Written
nia5 m work p t bits text out =
    written (nia5_refusal m work p t bits text out) out (tag_under m (nia5_nonce t p) t bits text 0 [])
