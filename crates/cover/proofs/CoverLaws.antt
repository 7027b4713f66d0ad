-- What holds of NEA5, NIA5 and NCA5, by what the field and the nonces promise.
use Rattle.std.proofs.Common.{◌≡◌, ℕ, ◌≤◌, true, false, List, length, take, None, Some, Ok, refl, ap, arith, zero, suc, ◌/◌}
use Rattle.std.specs.Simd.Lanes.{digits_l}
use Rattle.std.proofs.lemmas.Bool.Decides.{nat_tests}
use Rattle.units.specs.Lengths.{begun, filled}
use Rattle.units.specs.Strings.{Octets, same}
use Rattle.units.proofs.StringLaws.{Octets-take, same_tells}
use Rattle.units.specs.Spare.{cleared}
use Rattle.units.proofs.SpareLaws.{cleared_again}
use Rattle.units.specs.Sums.{◌⊕◌}
use Rattle.polynomials.specs.Field.{pdot}
use Rattle.field.specs.Blocks.{block_bytes, blocks}
use Rattle.field.specs.Folds.{fold, folded}
use Rattle.field.specs.Laws.{FieldLaws}
use Rattle.field.specs.Tags.{lengths, tag, whole_tag}
use Rattle.generator.specs.Generators.{IsNonce}
use Rattle.nonces.specs.Nonces.{NoncesStand, nonce_refusal}
use Rattle.cover.specs.Answers.{outcome}
use Rattle.cover.specs.Keystream.{covered}
use Rattle.cover.specs.Combined.{CoveredOpens, SpareIgnored, ciphertext_of, instance_nonce, open_refusal, stream_nonce, tag_of}
use Rattle.cover.specs.Encryption.{Nea5Twice, nea5_nonce, nea5_refusal}
use Rattle.cover.specs.Laws.{CoverLaws, CoveredStands, TagLong, TagOctets}
use Rattle.cover.specs.Tags.{TwoTags, field_value, key_h, key_p, key_q, tag_under}
use Rattle.cover.proofs.KeystreamLaws.{Octets-covered, clear-covered, covered-cleared, covered_other, covered_twice, length-covered}
use Rattle.cover.proofs.SameLaws.{same_calls, same_stands}

-- a call's two nonces are nonces
module _ (nonces : NoncesStand) where
  -- what NEA5 wrote is accepted again, and gives the input
  nea5_twice : Nea5Twice
  nea5_twice m work p bits input output sound extra accepted =
      let n = nea5_nonce p in
      let line : nonce_refusal None p ≡ None = grind (arith, nat_tests, accepted) in
      let is : IsNonce n = nonces.twelve None false false p line extra in
      let reaches : begun bits ≤ m.reach n = grind (arith, nat_tests, accepted) in
      let long : length input ≡ filled bits = grind (arith, nat_tests, accepted) in
      let long_again = length-covered m sound n is bits input reaches long in
      let again : nea5_refusal m work p bits (covered m n bits input) output ≡ None = grind (arith, nat_tests, accepted, long_again) in
      rw (accepted, again) (ap (outcome (Ok tt)) (covered_twice m sound n is bits input reaches long))

module _ (fields : FieldLaws) where
  -- a tag has the length that is asked for
  tag_long : TagLong
  unfolding tag_under
  tag_long m n t aad_bits aad bits ciphertext h = fields.long (key_h m n) (key_q m n) (key_p m n) t aad_bits bits aad ciphertext h

  -- what holds of two tags of the field, with the blocks under the nonce as H, Q and P
  two_tags : TwoTags
  unfolding tag_under field_value
  two_tags m n t aad_bits aad aad' bits ciphertext ciphertext' =
      fields.tags (key_h m n) (key_q m n) (key_p m n) t aad_bits bits aad aad' ciphertext ciphertext'

  -- what NCA5 covered is accepted, and gives the message
  covered_opens : NoncesStand → CoveredOpens
  covered_opens nonces m work p t aad_bits aad bits message out tag_out buffer sound extra accepted room =
      let n = stream_nonce t p in
      let c = ciphertext_of m p t bits message in
      let u = tag_of m p t aad_bits aad bits c in
      let given : nonce_refusal (Some t) p ≡ None = grind (arith, nat_tests, accepted) in
      let is : IsNonce n = nonces.twelve (Some t) true false p given extra in
      let reaches : begun bits ≤ m.reach n = grind (arith, nat_tests, accepted) in
      let long : length message ≡ filled bits = grind (arith, nat_tests, accepted) in
      let size : t ≤ 16 = grind (arith, nat_tests, accepted) in
      let long_again = length-covered m sound n is bits message reaches long in
      let spare = clear-covered m n bits message in
      let long_tag = tag_long m (instance_nonce t p) t aad_bits aad bits c size in
      let right : same u u ≡ true = (same_tells u u).1 refl in
      let opens : open_refusal m work p t aad_bits aad bits c u buffer ≡ None =
      grind (arith, nat_tests, accepted, room, long_again, spare, long_tag, right) in
      rw (accepted, opens) (ap (outcome (Ok tt)) (covered_twice m sound n is bits message reaches long))

-- spare bits of what is folded make no difference
fold-cleared : (h v n : ℕ) (xs : List ℕ) → fold h v n (cleared n xs) ≡ fold h v n xs
unfolding fold
fold-cleared h v n xs = ap (λ (l : List ℕ). folded h v (blocks l)) (cleared_again n xs)

spare_ignored : SpareIgnored
unfolding tag_under tag whole_tag
spare_ignored =
    record {
      message = λ m p t bits message. covered-cleared m (stream_nonce t p) bits message;
      aad = λ m p t aad_bits aad bits ciphertext.
          let n = instance_nonce t p in
          let h = key_h m n in
          ap (λ (v : ℕ). take t (block_bytes (pdot (fold h v bits ciphertext ⊕ lengths bits aad_bits) (key_q m n) ⊕ key_p m n)))
          (fold-cleared h 0 aad_bits aad);
    }

Octets-digits : (n v : ℕ) → Octets (digits_l 256 n v)
Octets-digits zero v k = omega arith
Octets-digits (suc n) v zero = omega arith
Octets-digits (suc n) v (suc k) = Octets-digits n (v / 256) k

tag_octets : TagOctets
unfolding tag_under tag block_bytes
tag_octets m n t aad_bits aad bits ciphertext =
    let v = whole_tag (key_h m n) (key_q m n) (key_p m n) aad_bits aad bits ciphertext in
    Octets-take (digits_l 256 16 v) t (Octets-digits 16 v)

covered_stands : CoveredStands
covered_stands =
    record {
      spare = λ m n bits text. clear-covered m n bits text;
      long = λ m n bits text r. length-covered m r.sound n r.nonce bits text r.enough r.long;
      octets = λ m n bits text r. Octets-covered m r.sound n r.nonce bits text r.enough r.long;
      twice = λ m n bits text r. covered_twice m r.sound n r.nonce bits text r.enough r.long;
      other = λ m n bits text other r. covered_other m r.sound n r.nonce bits text r.enough r.long other;
    }

pub cover_laws : FieldLaws → NoncesStand → CoverLaws
cover_laws fields nonces =
    record {
      nea5 = nea5_twice nonces;
      nca5 = record { opens = covered_opens fields nonces; tags = two_tags fields; spare = spare_ignored };
      covered = covered_stands;
      long = tag_long fields;
      octets = tag_octets;
      same = same_stands;
      calls = same_calls nonces;
    }
