-- The calls of the cover over generators that mean the same.
use Rattle.std.proofs.Common.{◌≡◌, ℕ, ◌≤◌, true, false, not, ◌||◌, List, [], None, Some, Ok, Option, length, refl, ap, ap₂, ◌∙◌, arith}
use Rattle.std.proofs.lemmas.Bool.Decides.{nat_tests}
use Rattle.units.specs.Lengths.{filled, unlike}
use Rattle.units.specs.Refusals.{told, ◌⊳◌}
use Rattle.units.specs.Spare.{clear}
use Rattle.units.specs.Strings.{Octets, same}
use Rattle.units.specs.declared.refusals.Reason.TheVariants.{WorkArea, InputBytes, OutputBytes, SpareBits, WrongTag}
use Rattle.units.specs.declared.refusals.Refusal.{Refusal}
use Rattle.field.specs.Blocks.{block_bytes}
use Rattle.field.specs.Tags.{tag, whole_tag}
use Rattle.generator.specs.Generators.{IsNonce, Meaning, Same}
use Rattle.nonces.specs.Nonces.{NoncesStand, extra_bytes, nonce_refusal}
use Rattle.nonces.specs.declared.Parameters.{Parameters}
use Rattle.cover.specs.Answers.{outcome, refused_here, written}
use Rattle.cover.specs.Keystream.{covered}
use Rattle.cover.specs.Combined.{both_written, cover_refusal, covering, instance_nonce, nca5_cover, nca5_open, open_refusal, stream_nonce, tag_of, too_short_for, wrong_tag}
use Rattle.cover.specs.Encryption.{nea5, nea5_nonce, nea5_refusal}
use Rattle.cover.specs.Integrity.{nia5, nia5_nonce, nia5_refusal}
use Rattle.cover.specs.Laws.{SameCalls, SameStands}
use Rattle.cover.specs.Tags.{key_h, key_p, key_q, tag_under}
use Rattle.cover.proofs.StreamLaws.{covered_same}
use Rattle.cover.proofs.TagLaws.{tag_same}

-- what would be written counts where nothing is refused
written_same :
    (r : Option Refusal) (before after after' : List ℕ)
    → (r ≡ None → after' ≡ after)
    → written r before after' ≡ written r before after
written_same None before after after' f = ap (outcome (told None)) (f refl)
written_same (Some r) before after after' f = refl

both_written_same :
    (r : Option Refusal) (c t c_after t_after c_after' t_after' : List ℕ) → (r ≡ None → (c_after' ≡ c_after) × (t_after' ≡ t_after))
    → both_written r c t c_after' t_after' ≡ both_written r c t c_after t_after
both_written_same None c t c_after t_after c_after' t_after' f = ap₂ (covering (Ok tt)) (f refl).0 (f refl).1
both_written_same (Some r) c t c_after t_after c_after' t_after' f = refl

-- a later test counts where the earlier ones are not met
pub later_same : (a b b' : Option Refusal) → (a ≡ None → b' ≡ b) → (a ⊳ b') ≡ (a ⊳ b)
later_same None b b' f = f refl
later_same (Some r) b b' f = refl

-- tags are the same
tag_under_same : (m m' : Meaning) (n : List ℕ) (t aad_bits : ℕ) (aad : List ℕ) (bits : ℕ) (ciphertext : List ℕ)
    → Same m m'
    → IsNonce n
    → 3 ≤ m.reach n
    → tag_under m' n t aad_bits aad bits ciphertext ≡ tag_under m n t aad_bits aad bits ciphertext
unfolding tag_under tag
tag_under_same m m' n t aad_bits aad bits ciphertext s is h =
    tag_same m m' n t aad_bits aad bits ciphertext
    (block_bytes (whole_tag (key_h m' n) (key_q m' n) (key_p m' n) aad_bits aad bits ciphertext))
    s is h refl

pub same_stands : SameStands
same_stands = record { covered = covered_same; tag = tag_under_same }

-- ---- the calls

-- the tests that come after that of the nonce
after_nonce : (t : Option ℕ) (p : Parameters) (a c c' : Option Refusal) → (nonce_refusal t p ≡ None → c' ≡ c)
    → (a ⊳ (nonce_refusal t p ⊳ c')) ≡ (a ⊳ (nonce_refusal t p ⊳ c))
after_nonce t p a c c' f = later_same a (nonce_refusal t p ⊳ c) (nonce_refusal t p ⊳ c') (λ first. later_same (nonce_refusal t p) c c' f)

module _ (nonces : NoncesStand) (m m' : Meaning) (s : Same m m') (p : Parameters) (extra : Octets (extra_bytes p.extra_iv)) where
  -- NEA5
  nea5_same : (work bits : ℕ) (input output : List ℕ) → nea5 m' work p bits input output ≡ nea5 m work p bits input output
  nea5_same work bits input output =
      let n = nea5_nonce p in
      let refusal = nea5_refusal m work p bits input output in
      let is : nonce_refusal None p ≡ None → IsNonce n = λ given. nonces.twelve None false false p given extra in
      let refusals : nea5_refusal m' work p bits input output ≡ refusal =
      after_nonce None p (refused_here (unlike work 64) WorkArea) _ _ (λ given. let reach = s.reach n (is given) in rw reach refl)
      in
      let alike : refusal ≡ None → covered m' n bits input ≡ covered m n bits input =
      λ accepted. covered_same m m' n bits input s (is (grind (arith, nat_tests, accepted))) (grind (arith, nat_tests, accepted))
      in
      ap (λ (r : Option Refusal). written r output (covered m' n bits input)) refusals
      ∙ written_same refusal output (covered m n bits input) (covered m' n bits input) alike

  -- NIA5
  nia5_same : (work t bits : ℕ) (text out : List ℕ) → nia5 m' work p t bits text out ≡ nia5 m work p t bits text out
  nia5_same work t bits text out =
      let n = nia5_nonce t p in
      let refusal = nia5_refusal m work p t bits text out in
      let is : nonce_refusal (Some t) p ≡ None → IsNonce n = λ given. nonces.twelve (Some t) false true p given extra in
      let refusals : nia5_refusal m' work p t bits text out ≡ refusal =
      after_nonce (Some t) p (refused_here (unlike work 64) WorkArea) _ _ (λ given. let reach = s.reach n (is given) in rw reach refl)
      in
      let alike : refusal ≡ None → tag_under m' n t bits text 0 [] ≡ tag_under m n t bits text 0 [] =
      λ accepted. tag_under_same m m' n t bits text 0 [] s (is (grind (arith, nat_tests, accepted))) (grind (arith, nat_tests, accepted))
      in
      ap (λ (r : Option Refusal). written r out (tag_under m' n t bits text 0 [])) refusals
      ∙ written_same refusal out (tag_under m n t bits text 0 []) (tag_under m' n t bits text 0 []) alike

  -- the two nonces of NCA5
  keys_is : (t : ℕ) → nonce_refusal (Some t) p ≡ None → IsNonce (instance_nonce t p)
  keys_is t given = nonces.twelve (Some t) true true p given extra

  stream_is : (t : ℕ) → nonce_refusal (Some t) p ≡ None → IsNonce (stream_nonce t p)
  stream_is t given = nonces.twelve (Some t) true false p given extra

  -- the tests of the reach
  short_same : (t bits : ℕ) → nonce_refusal (Some t) p ≡ None → too_short_for m' p t bits ≡ too_short_for m p t bits
  short_same t bits given =
      let keys = s.reach (instance_nonce t p) (keys_is t given) in
      let stream = s.reach (stream_nonce t p) (stream_is t given) in
      rw (keys, stream) refl

  -- and that of a tag after them
  wrong_same : (t aad_bits : ℕ) (aad : List ℕ) (bits : ℕ) (ciphertext tag : List ℕ) → nonce_refusal (Some t) p ≡ None
      → (too_short_for m' p t bits ⊳ wrong_tag m' p t aad_bits aad bits ciphertext tag)
      ≡ (too_short_for m p t bits ⊳ wrong_tag m p t aad_bits aad bits ciphertext tag)
  wrong_same t aad_bits aad bits ciphertext tag given =
      let short = too_short_for m p t bits in
      let wrong = wrong_tag m p t aad_bits aad bits ciphertext tag in
      let wrong' = wrong_tag m' p t aad_bits aad bits ciphertext tag in
      let tags_alike : short ≡ None → wrong' ≡ wrong =
      λ near.
      ap (λ (u : List ℕ). refused_here (not (same tag u)) WrongTag)
      (tag_under_same m m' (instance_nonce t p) t aad_bits aad bits ciphertext s (keys_is t given) (grind (arith, nat_tests, near)))
      in
      ap (λ (r : Option Refusal). r ⊳ wrong') (short_same t bits given) ∙ later_same short wrong wrong' tags_alike

  -- NCA5, covering
  nca5_cover_same : (work t aad_bits : ℕ) (aad : List ℕ) (bits : ℕ) (message ciphertext tag : List ℕ)
      → nca5_cover m' work p t aad_bits aad bits message ciphertext tag ≡ nca5_cover m work p t aad_bits aad bits message ciphertext tag
  nca5_cover_same work t aad_bits aad bits message ciphertext tag =
      let keys = instance_nonce t p in
      let stream = stream_nonce t p in
      let refusal = cover_refusal m work p t aad_bits aad bits message ciphertext tag in
      let c = covered m stream bits message in
      let c' = covered m' stream bits message in
      let given : refusal ≡ None → nonce_refusal (Some t) p ≡ None = λ accepted. grind (arith, nat_tests, accepted) in
      let refusals : cover_refusal m' work p t aad_bits aad bits message ciphertext tag ≡ refusal =
      after_nonce (Some t) p (refused_here (unlike work 64) WorkArea) _ _
      (λ given. let short = short_same t bits given in rw short refl)
      in
      let covered_alike : refusal ≡ None → c' ≡ c =
      λ accepted. covered_same m m' stream bits message s (stream_is t (given accepted)) (grind (arith, nat_tests, accepted))
      in
      let tags_alike : refusal ≡ None → tag_of m' p t aad_bits aad bits c' ≡ tag_of m p t aad_bits aad bits c =
      λ accepted.
      ap (tag_of m' p t aad_bits aad bits) (covered_alike accepted)
      ∙ tag_under_same m m' keys t aad_bits aad bits c s (keys_is t (given accepted)) (grind (arith, nat_tests, accepted))
      in
      ap (λ (r : Option Refusal). both_written r ciphertext tag c' (tag_of m' p t aad_bits aad bits c')) refusals
      ∙ both_written_same refusal ciphertext tag c (tag_of m p t aad_bits aad bits c) c' (tag_of m' p t aad_bits aad bits c')
      (λ accepted. (covered_alike accepted, tags_alike accepted))

  -- and opening
  nca5_open_same : (work t aad_bits : ℕ) (aad : List ℕ) (bits : ℕ) (ciphertext tag message : List ℕ)
      → nca5_open m' work p t aad_bits aad bits ciphertext tag message ≡ nca5_open m work p t aad_bits aad bits ciphertext tag message
  nca5_open_same work t aad_bits aad bits ciphertext tag message =
      let stream = stream_nonce t p in
      let refusal = open_refusal m work p t aad_bits aad bits ciphertext tag message in
      let refusals : open_refusal m' work p t aad_bits aad bits ciphertext tag message ≡ refusal =
      after_nonce (Some t) p (refused_here (unlike work 64) WorkArea) _ _
      (λ given.
      ap (λ (r : Option Refusal). refused_here ((unlike (length aad) (filled aad_bits) || unlike (length ciphertext) (filled bits)) || unlike (length tag) t) InputBytes
      ⊳ refused_here (unlike (length message) (filled bits)) OutputBytes
      ⊳ refused_here (not (clear bits ciphertext)) SpareBits
      ⊳ r) (wrong_same t aad_bits aad bits ciphertext tag given))
      in
      let alike : refusal ≡ None → covered m' stream bits ciphertext ≡ covered m stream bits ciphertext =
      λ accepted.
      covered_same m m' stream bits ciphertext s (stream_is t (grind (arith, nat_tests, accepted))) (grind (arith, nat_tests, accepted))
      in
      ap (λ (r : Option Refusal). written r message (covered m' stream bits ciphertext)) refusals
      ∙ written_same refusal message (covered m stream bits ciphertext) (covered m' stream bits ciphertext) alike

pub same_calls : NoncesStand → SameCalls
same_calls nonces =
    record {
      nea5 = λ m m' work p bits input output s extra. nea5_same nonces m m' s p extra work bits input output;
      nia5 = λ m m' work p t bits text out s extra. nia5_same nonces m m' s p extra work t bits text out;
      cover = λ m m' work p t aad_bits aad bits message ciphertext tag s extra.
          nca5_cover_same nonces m m' s p extra work t aad_bits aad bits message ciphertext tag;
      opens = λ m m' work p t aad_bits aad bits ciphertext tag message s extra.
          nca5_open_same nonces m m' s p extra work t aad_bits aad bits ciphertext tag message;
    }
