-- A flat keystream, and what calls under it answer.
use Rattle.std.specs.Prelude.{ℕ, ◌%◌, ◌^◌, cond, List, [], ◌∷◌, ◌++◌, replicate, Ok, Err, None, Result, slice_index, ◌==◌, nat_lt}
use Rattle.units.specs.Refusals.{number}
use Rattle.units.specs.declared.refusals.Refusal.{Refusal}
use Rattle.generator.specs.Generators.{Meaning, Sound}
use Rattle.nonces.specs.declared.Parameters.{Parameters}
use Rattle.cover.specs.Answers.{Written}
use Rattle.cover.specs.Combined.{Covering, nca5_cover, nca5_open}
use Rattle.cover.specs.Integrity.{nia5}

-- 01, fourteen 00, C2
abbrev pub e_bytes : List ℕ
e_bytes = 0x01 ∷ (replicate 14 0 ++ (0xC2 ∷ []))

-- under a nonce with the instance bit blocks 0 and 1 are E and the later ones 00; without it every block is FF
abbrev pub flat : Meaning
flat =
    record {
      reach = λ n. 2 ^ 32;
      block = λ n i. cond (slice_index n 0 % 2 == 1) (cond (nat_lt i 2) e_bytes (replicate 16 0)) (replicate 16 0xFF);
    }

-- it is sound
abbrev pub FlatSound : Type 0
FlatSound = Sound flat

-- a bearer, a direction and a count, without EXTRA_IV
abbrev pub parameters : ℕ → ℕ → ℕ → Parameters
parameters bearer direction count = record { bearer = bearer; direction = direction; extra_iv = None; count = count }

-- the number of the refusal, or 0
abbrev pub number_of : {A : Type 0} → Result A Refusal → ℕ
number_of (Ok v) = 0
number_of (Err r) = number r.reason

-- what is shown of a call: that number, and then what the buffer holds
abbrev pub shown : Written → List ℕ
shown w = number_of w.answer ∷ w.output

-- the same where there are two buffers, for ciphertext and tag
abbrev pub both_shown : Covering → List ℕ
both_shown c = number_of c.answer ∷ (c.ciphertext ++ c.tag)

-- a tag of 16 bytes by NIA5 over so many bits, into FF
abbrev pub flat_nia5 : ℕ → List ℕ → List ℕ
flat_nia5 bits text = shown (nia5 flat 64 (parameters 0 0 0) 16 bits text (replicate 16 0xFF))

-- so many bits covered by NCA5 without AAD, with a tag of 4 bytes, into two buffers
abbrev pub flat_cover : ℕ → List ℕ → List ℕ → List ℕ → List ℕ
flat_cover bits message ciphertext tag =
    both_shown (nca5_cover flat 64 (parameters 0 0 0) 4 0 [] bits message ciphertext tag)

-- 13 bits opened by NCA5 without AAD, with a tag of 4 bytes, into a buffer that holds FF FF before
abbrev pub flat_open : List ℕ → List ℕ → List ℕ
flat_open ciphertext tag = shown (nca5_open flat 64 (parameters 0 0 0) 4 0 [] 13 ciphertext tag (replicate 2 0xFF))
