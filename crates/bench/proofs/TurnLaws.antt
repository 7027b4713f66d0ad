-- One turn more of a measured call.
use Rattle.std.proofs.Common.{◌≡◌, ℕ, zero, suc, ◌+◌, ◌%◌, ◌^◌, ◌<◌, List, [], ◌∷◌, Result, length, sym, ap, ap₂, ◌∙◌, subst, add-one, arith}
use Rattle.units.specs.Strings.{Octets}
use Rattle.units.specs.declared.refusals.Refusal.{Refusal}
use Rattle.generator.specs.Generators.{Same}
use Rattle.nonces.specs.Nonces.{extra_bytes}
use Rattle.nonces.specs.declared.Parameters.{Parameters}
use Rattle.cover.specs.Answers.{Written, outcome}
use Rattle.cover.specs.Combined.{covering, nca5_cover, nca5_open}
use Rattle.cover.specs.Encryption.{nea5}
use Rattle.cover.specs.Laws.{SameCalls}
use Rattle.aes_generator.specs.AesGenerator.{aes_meaning}
use Rattle.bench.specs.Turns.{covered_turns, encrypted_turns, opened_turns, parameters, tag_size}

-- an absent EXTRA_IV is bytes
zeros : Octets (0 ∷ 0 ∷ 0 ∷ 0 ∷ 0 ∷ 0 ∷ [])
zeros zero = omega arith
zeros (suc zero) = omega arith
zeros (suc (suc zero)) = omega arith
zeros (suc (suc (suc zero))) = omega arith
zeros (suc (suc (suc (suc zero)))) = omega arith
zeros (suc (suc (suc (suc (suc zero))))) = omega arith
zeros (suc (suc (suc (suc (suc (suc k)))))) = omega arith

no_extra : (p : Parameters) (count : ℕ) → p ≡ parameters count → Octets (extra_bytes p.extra_iv)
no_extra p count q = subst (λ (x : Parameters). Octets (extra_bytes x.extra_iv)) (sym q) zeros

-- of NEA5
pub encrypted_more :
    SameCalls → (key key' : List ℕ) (count turn work : ℕ) (p : Parameters) (bits : ℕ) (input output before after : List ℕ)
    (answer : Result (Unit {0}) Refusal)
    → Same (aes_meaning key) (aes_meaning key')
    → work ≡ 64
    → p ≡ parameters ((count + turn) % 2 ^ 32)
    → before ≡ encrypted_turns turn key count bits input output
    → outcome answer after ≡ nea5 (aes_meaning key') work p bits input before
    → after ≡ encrypted_turns (turn + 1) key count bits input output
encrypted_more same key key' count turn work p bits input output before after answer s w q b e =
    let m = aes_meaning key in
    ap (λ (x : Written). x.output) (e ∙ same.nea5 m (aes_meaning key') work p bits input before s (no_extra _ _ q))
    ∙ ap₂ (λ (v : ℕ) (r : Parameters). (nea5 m v r bits input before).output) w q
    ∙ ap (λ (l : List ℕ). (nea5 m 64 (parameters ((count + turn) % 2 ^ 32)) bits input l).output) b
    ∙ ap (λ (n : ℕ). encrypted_turns n key count bits input output) (sym (add-one turn))

-- of NCA5, covering
pub covered_more :
    SameCalls → (key key' : List ℕ) (count turn work : ℕ) (p : Parameters) (t aad_bits : ℕ) (aad : List ℕ) (bits : ℕ)
    (message ciphertext tag c u c_after u_after : List ℕ)
    (answer : Result (Unit {0}) Refusal)
    → Same (aes_meaning key) (aes_meaning key')
    → work ≡ 64
    → p ≡ parameters count
    → t ≡ tag_size (length tag)
    → c ≡ (covered_turns turn key count aad_bits aad bits message ciphertext tag).ciphertext
    → u ≡ (covered_turns turn key count aad_bits aad bits message ciphertext tag).tag
    → covering answer c_after u_after ≡ nca5_cover (aes_meaning key') work p t aad_bits aad bits message c u
    → covering answer c_after u_after ≡ covered_turns (turn + 1) key count aad_bits aad bits message ciphertext tag
covered_more same key key' count turn work p t aad_bits aad bits message ciphertext tag c u c_after u_after answer s w q z b d e =
    let m = aes_meaning key in
    e
    ∙ same.cover m (aes_meaning key') work p t aad_bits aad bits message c u s (no_extra _ _ q)
    ∙ ap₂ (λ (v : ℕ) (r : Parameters). nca5_cover m v r t aad_bits aad bits message c u) w q
    ∙ ap (λ (v : ℕ). nca5_cover m 64 (parameters count) v aad_bits aad bits message c u) z
    ∙ ap₂ (λ (l k : List ℕ). nca5_cover m 64 (parameters count) (tag_size (length tag)) aad_bits aad bits message l k) b d
    ∙ ap (λ (n : ℕ). covered_turns n key count aad_bits aad bits message ciphertext tag) (sym (add-one turn))

-- and opening
pub opened_more :
    SameCalls → (key key' : List ℕ) (count turn work : ℕ) (p : Parameters) (t aad_bits : ℕ) (aad : List ℕ) (bits : ℕ)
    (ciphertext tag message before after : List ℕ)
    (answer : Result (Unit {0}) Refusal)
    → Same (aes_meaning key) (aes_meaning key')
    → work ≡ 64
    → p ≡ parameters count
    → t ≡ tag_size (length tag)
    → before ≡ opened_turns turn key count aad_bits aad bits ciphertext tag message
    → outcome answer after ≡ nca5_open (aes_meaning key') work p t aad_bits aad bits ciphertext tag before
    → after ≡ opened_turns (turn + 1) key count aad_bits aad bits ciphertext tag message
opened_more same key key' count turn work p t aad_bits aad bits ciphertext tag message before after answer s w q z b e =
    let m = aes_meaning key in
    ap (λ (x : Written). x.output) (e ∙ same.opens m (aes_meaning key') work p t aad_bits aad bits ciphertext tag before s (no_extra _ _ q))
    ∙ ap₂ (λ (v : ℕ) (r : Parameters). (nca5_open m v r t aad_bits aad bits ciphertext tag before).output) w q
    ∙ ap (λ (v : ℕ). (nca5_open m 64 (parameters count) v aad_bits aad bits ciphertext tag before).output) z
    ∙ ap (λ (l : List ℕ). (nca5_open m 64 (parameters count) (tag_size (length tag)) aad_bits aad bits ciphertext tag l).output) b
    ∙ ap (λ (n : ℕ). opened_turns n key count aad_bits aad bits ciphertext tag message) (sym (add-one turn))
