-- NCA5: a message covered, with a tag over AAD and ciphertext.
use Rattle.std.specs.Prelude.{◌≡◌, ℕ, ◌||◌, false, true, not, List, length, Ok, Err, Result, Option, Some, None}
use Rattle.units.specs.Lengths.{begun, filled, unlike}
use Rattle.units.specs.Refusals.{◌⊳◌}
use Rattle.units.specs.Spare.{clear, cleared}
use Rattle.units.specs.Strings.{Octets, same}
use Rattle.units.specs.declared.refusals.Reason.TheVariants.{WorkArea, InputBytes, OutputBytes, SpareBits, WrongTag}
use Rattle.units.specs.declared.refusals.Refusal.{Refusal}
use Rattle.generator.specs.Generators.{Meaning, Sound}
use Rattle.nonces.specs.Nonces.{extra_bytes, nonce, nonce_refusal}
use Rattle.nonces.specs.declared.Parameters.{Parameters}
use Rattle.cover.specs.Answers.{Written, refused_here, too_short, written}
use Rattle.cover.specs.Keystream.{covered}
use Rattle.cover.specs.Tags.{TwoTags, tag_under}

-- the nonce with the instance bit, for H, Q and P
abbrev pub instance_nonce : ℕ → Parameters → List ℕ
instance_nonce t p = nonce t true true p

-- the nonce without it, for the keystream
abbrev pub stream_nonce : ℕ → Parameters → List ℕ
stream_nonce t p = nonce t true false p

-- a message covered; the same uncovers it
abbrev pub ciphertext_of : Meaning → Parameters → ℕ → ℕ → List ℕ → List ℕ
ciphertext_of m p t bits message = covered m (stream_nonce t p) bits message

-- the tag over AAD and ciphertext
abbrev pub tag_of : Meaning → Parameters → ℕ → ℕ → List ℕ → ℕ → List ℕ → List ℕ
tag_of m p t aad_bits aad bits ciphertext = tag_under m (instance_nonce t p) t aad_bits aad bits ciphertext

-- 13: the reach for H, Q and P first, then for the keystream of so many bits
abbrev pub too_short_for : Meaning → Parameters → ℕ → ℕ → Option Refusal
too_short_for m p t bits = too_short m (instance_nonce t p) 3 ⊳ too_short m (stream_nonce t p) (begun bits)

-- why covering refuses: the first test that is met
abbrev pub cover_refusal : Meaning → ℕ → Parameters → ℕ → ℕ → List ℕ → ℕ → List ℕ → List ℕ → List ℕ → Option Refusal
cover_refusal m work p t aad_bits aad bits message ciphertext tag =
    refused_here (unlike work 64) WorkArea
    ⊳ nonce_refusal (Some t) p
    ⊳ refused_here (unlike (length aad) (filled aad_bits) || unlike (length message) (filled bits)) InputBytes
    ⊳ refused_here (unlike (length ciphertext) (filled bits) || unlike (length tag) t) OutputBytes
    ⊳ too_short_for m p t bits

-- what covering answers, and what the buffers for ciphertext and tag then hold
pub record Covering : Type 0 where
  pub answer : Result (Unit {0}) Refusal
  pub ciphertext : List ℕ
  pub tag : List ℕ

-- the same, from an answer and the two buffers
abbrev pub covering : Result (Unit {0}) Refusal → List ℕ → List ℕ → Covering
covering answer ciphertext tag = record { answer = answer; ciphertext = ciphertext; tag = tag }

-- a refusal leaves both buffers as they were
abbrev pub both_written : Option Refusal → List ℕ → List ℕ → List ℕ → List ℕ → Covering
both_written None ciphertext tag ciphertext_after tag_after = covering (Ok tt) ciphertext_after tag_after
both_written (Some r) ciphertext tag ciphertext_after tag_after = covering (Err r) ciphertext tag

-- the whole call that covers
abbrev pub nca5_cover : Meaning → ℕ → Parameters → ℕ → ℕ → List ℕ → ℕ → List ℕ → List ℕ → List ℕ → Covering
nca5_cover m work p t aad_bits aad bits message ciphertext tag =
    both_written (cover_refusal m work p t aad_bits aad bits message ciphertext tag) ciphertext tag
    (ciphertext_of m p t bits message)
    (tag_of m p t aad_bits aad bits (ciphertext_of m p t bits message))

-- 14: the tag is not that of AAD and ciphertext
abbrev pub wrong_tag : Meaning → Parameters → ℕ → ℕ → List ℕ → ℕ → List ℕ → List ℕ → Option Refusal
wrong_tag m p t aad_bits aad bits ciphertext tag =
    refused_here (not (same tag (tag_of m p t aad_bits aad bits ciphertext))) WrongTag

-- why opening refuses: the first test that is met
abbrev pub open_refusal : Meaning → ℕ → Parameters → ℕ → ℕ → List ℕ → ℕ → List ℕ → List ℕ → List ℕ → Option Refusal
open_refusal m work p t aad_bits aad bits ciphertext tag message =
    refused_here (unlike work 64) WorkArea
    ⊳ nonce_refusal (Some t) p
    ⊳ refused_here ((unlike (length aad) (filled aad_bits) || unlike (length ciphertext) (filled bits)) || unlike (length tag) t) InputBytes
    ⊳ refused_here (unlike (length message) (filled bits)) OutputBytes
    ⊳ refused_here (not (clear bits ciphertext)) SpareBits
    ⊳ too_short_for m p t bits
    ⊳ wrong_tag m p t aad_bits aad bits ciphertext tag

-- the whole call that opens
abbrev pub nca5_open : Meaning → ℕ → Parameters → ℕ → ℕ → List ℕ → ℕ → List ℕ → List ℕ → List ℕ → Written
nca5_open m work p t aad_bits aad bits ciphertext tag message =
    written (open_refusal m work p t aad_bits aad bits ciphertext tag message) message (ciphertext_of m p t bits ciphertext)

-- what was covered opens, with the same number of bits: to the message, its spare bits cleared
abbrev pub CoveredOpens : Type 0
CoveredOpens =
    (m : Meaning) (work : ℕ) (p : Parameters) (t aad_bits : ℕ) (aad : List ℕ) (bits : ℕ) (message ciphertext tag buffer : List ℕ)
    → Sound m
    → Octets (extra_bytes p.extra_iv)
    → cover_refusal m work p t aad_bits aad bits message ciphertext tag ≡ None
    → length buffer ≡ filled bits
    → nca5_open m work p t aad_bits aad bits
    (nca5_cover m work p t aad_bits aad bits message ciphertext tag).ciphertext
    (nca5_cover m work p t aad_bits aad bits message ciphertext tag).tag
    buffer
    ≡ record { answer = Ok tt; output = cleared bits message }

-- the spare bits of AAD and message make no difference
pub record SpareIgnored : Type 0 where
  pub message :
      (m : Meaning) (p : Parameters) (t bits : ℕ) (message : List ℕ)
      → ciphertext_of m p t bits (cleared bits message) ≡ ciphertext_of m p t bits message
  pub aad :
      (m : Meaning) (p : Parameters) (t aad_bits : ℕ) (aad : List ℕ) (bits : ℕ) (ciphertext : List ℕ)
      → tag_of m p t aad_bits (cleared aad_bits aad) bits ciphertext ≡ tag_of m p t aad_bits aad bits ciphertext

-- what holds of NCA5
pub record Nca5Stands : Type 0 where
  pub opens : CoveredOpens
  pub tags : TwoTags
  pub spare : SpareIgnored
