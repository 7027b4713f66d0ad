-- The calls of the cover over AES-256, as C has them: what each answers, and what it leaves in its buffers.
use Rattle.std.specs.Prelude.{ℕ, List}
use Rattle.aes_generator.specs.AesGenerator.{aes_meaning}
use Rattle.cover.specs.Answers.{Written}
use Rattle.cover.specs.Combined.{Covering, nca5_cover, nca5_open}
use Rattle.cover.specs.Encryption.{nea5}
use Rattle.cover.specs.Integrity.{nia5}
use Rattle.capi.specs.Answers.{details_of, number_of}
use Rattle.capi.specs.Messages.{parameters}
use Rattle.capi.specs.declared.details.Details.{Details}

-- what a call answers, what it says of a refusal, and what its output buffer then holds
pub record Called : Type 0 where
  pub number : ℕ
  pub details : Details
  pub output : List ℕ

-- the same, from its parts
abbrev pub called : ℕ → Details → List ℕ → Called
called number details output = record { number = number; details = details; output = output }

-- the same of a call that has a buffer for the ciphertext and one for the tag
pub record CoverCalled : Type 0 where
  pub number : ℕ
  pub details : Details
  pub ciphertext : List ℕ
  pub tag : List ℕ

-- the same, from its parts
abbrev pub cover_called : ℕ → Details → List ℕ → List ℕ → CoverCalled
cover_called number details ciphertext tag = record { number = number; details = details; ciphertext = ciphertext; tag = tag }

-- an outcome of the cover, as C has it
abbrev pub for_c : Written → Called
for_c o = called (number_of o.answer) (details_of o.answer) o.output

-- an outcome of NCA5, covering, as C has it
abbrev pub covered_for_c : Covering → CoverCalled
covered_for_c o = cover_called (number_of o.answer) (details_of o.answer) o.ciphertext o.tag

-- NEA5 under a key. `work` is the length of the work area
abbrev pub nea5_called : List ℕ → ℕ → ℕ → ℕ → List ℕ → ℕ → ℕ → List ℕ → List ℕ → Called
nea5_called key work bearer direction extra_iv count bits input output =
    for_c (nea5 (aes_meaning key) work (parameters bearer direction extra_iv count) bits input output)

-- NIA5 under a key, with tags of t bytes
abbrev pub nia5_called : List ℕ → ℕ → ℕ → ℕ → List ℕ → ℕ → ℕ → ℕ → List ℕ → List ℕ → Called
nia5_called key work bearer direction extra_iv count t bits text tag =
    for_c (nia5 (aes_meaning key) work (parameters bearer direction extra_iv count) t bits text tag)

-- NCA5 under a key, covering
abbrev pub nca5_cover_called : List ℕ → ℕ → ℕ → ℕ → List ℕ → ℕ → ℕ → ℕ → List ℕ → ℕ → List ℕ → List ℕ → List ℕ → CoverCalled
nca5_cover_called key work bearer direction extra_iv count t aad_bits aad bits message ciphertext tag =
    covered_for_c
    (nca5_cover (aes_meaning key) work (parameters bearer direction extra_iv count) t aad_bits aad bits message ciphertext tag)

-- NCA5 under a key, opening
abbrev pub nca5_open_called : List ℕ → ℕ → ℕ → ℕ → List ℕ → ℕ → ℕ → ℕ → List ℕ → ℕ → List ℕ → List ℕ → List ℕ → Called
nca5_open_called key work bearer direction extra_iv count t aad_bits aad bits ciphertext tag message =
    for_c
    (nca5_open (aes_meaning key) work (parameters bearer direction extra_iv count) t aad_bits aad bits ciphertext tag message)
