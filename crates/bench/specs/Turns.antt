-- What the measured calls do many times over.
use Rattle.std.specs.Prelude.{ℕ, zero, suc, ◌+◌, ◌%◌, ◌^◌, min, List, length, Ok, None}
use Rattle.aes.specs.KeyExpansion.{aes256}
use Rattle.aes_generator.specs.AesGenerator.{aes_meaning}
use Rattle.cover.specs.Combined.{Covering, covering, nca5_cover, nca5_open}
use Rattle.cover.specs.Encryption.{nea5}
use Rattle.nonces.specs.declared.Parameters.{Parameters}

-- a block encrypted n times
abbrev pub again : ℕ → List ℕ → List ℕ → List ℕ
again zero key block = block
again (suc n) key block = aes256 key (again n key block)

-- what the measured messages go under, each with its count
abbrev pub parameters : ℕ → Parameters
parameters count = record { bearer = 5; direction = 0; extra_iv = None; count = count }

-- the size of a tag of so many bytes
abbrev pub tag_size : ℕ → ℕ
tag_size bytes = min bytes 255

-- the output after n turns of NEA5, each under the count after that of the turn before
abbrev pub encrypted_turns : ℕ → List ℕ → ℕ → ℕ → List ℕ → List ℕ → List ℕ
encrypted_turns zero key count bits input output = output
encrypted_turns (suc n) key count bits input output =
    (nea5 (aes_meaning key) 64 (parameters ((count + n) % 2 ^ 32)) bits input (encrypted_turns n key count bits input output)).output

-- the buffers for ciphertext and tag after n turns of NCA5, covering; and the last answer
abbrev pub covered_turns : ℕ → List ℕ → ℕ → ℕ → List ℕ → ℕ → List ℕ → List ℕ → List ℕ → Covering
covered_turns zero key count aad_bits aad bits message ciphertext tag = covering (Ok tt) ciphertext tag
covered_turns (suc n) key count aad_bits aad bits message ciphertext tag =
    nca5_cover (aes_meaning key) 64 (parameters count) (tag_size (length tag)) aad_bits aad bits message
    (covered_turns n key count aad_bits aad bits message ciphertext tag).ciphertext
    (covered_turns n key count aad_bits aad bits message ciphertext tag).tag

-- the buffer for the message after n turns of NCA5, opening
abbrev pub opened_turns : ℕ → List ℕ → ℕ → ℕ → List ℕ → ℕ → List ℕ → List ℕ → List ℕ → List ℕ
opened_turns zero key count aad_bits aad bits ciphertext tag message = message
opened_turns (suc n) key count aad_bits aad bits ciphertext tag message =
    (nca5_open (aes_meaning key) 64 (parameters count) (tag_size (length tag)) aad_bits aad bits ciphertext tag
    (opened_turns n key count aad_bits aad bits ciphertext tag message)).output
