-- That an encryption is a block: sixteen bytes.
use Rattle.std.proofs.Common.{◌≡◌, ℕ, zero, suc, ◌+◌, ◌*◌, ◌/◌, ◌%◌, ◌^◌, ◌<◌, List, [], ◌∷◌, map, length, get_or, sym, refl, ap, subst, ◌∙◌, arith, lit<, mod-lt}
use Rattle.std.specs.List.{range_with_len}
use Rattle.std.proofs.lemmas.List.{length-map}
use Rattle.units.specs.Strings.{Octets}
use Rattle.units.proofs.StringLaws.{Octets-map}
use Rattle.units.proofs.SumLaws.{Octets-sums, length-sums}
use Rattle.planes.specs.declared.Planes.{Planes}
use Rattle.planes.specs.Planes.{bit, byte, planes, state}
use Rattle.byte_field.proofs.NumberLaws.{number_lt}
use Rattle.byte_field.specs.Sbox.{SboxBelow, sbox}
use Rattle.aes.specs.Blocks.{EncryptsToBlocks}
use Rattle.aes.specs.Cipher.{cipher, round_key, rounds, shift_rows}
use Rattle.aes.specs.KeyExpansion.{aes256, round_keys_of}
use Rattle.aes.specs.RoundKeys.{key_of}
use Rattle.aes.specs.declared.round_keys.RoundKey.{RoundKey}

state_sixteen : (q : Planes) → length (state q 0) ≡ 16
unfolding state
state_sixteen q = refl

state_octets : (q : Planes) → Octets (state q 0)
unfolding state byte
state_octets q =
    Octets-map (λ k. byte q 0 (k % 4) (k / 4)) (range_with_len 0 16)
    (λ k. number_lt (bit (k % 4) (8 * (k / 4) + 0)) (λ p. mod-lt (get_or p (k % 4) 0 / 2 ^ (8 * (k / 4) + 0)) (lit< tt)) (planes q))

one_of_all : (P : List ℕ → Type 0) → ((k : RoundKey) → P (key_of k)) → (ks : List RoundKey) (i : ℕ) → i < length ks → P (get_or (map key_of ks) i [])
one_of_all P h [] i l = absurd (omega arith)
one_of_all P h (k ∷ ks) zero l = h k
one_of_all P h (k ∷ ks) (suc i) l = one_of_all P h ks i (omega arith)

module _ (below : SboxBelow) (key : List ℕ) (keys : List RoundKey) (expanded : map key_of keys ≡ round_keys_of key) where
  last_key : (P : List ℕ → Type 0) → ((k : RoundKey) → P (key_of k)) → P (round_key (round_keys_of key) 14)
  unfolding round_keys_of
  last_key P h =
      let size : length keys ≡ 15 = sym (length-map keys key_of) ∙ ap length expanded in
      subst (λ ks. P (get_or ks 14 [])) expanded (one_of_all P h keys 14 (omega arith))

  encrypted_sixteen : (block : List ℕ) → length (aes256 key block) ≡ 16
  unfolding aes256 cipher shift_rows
  encrypted_sixteen block =
      let last = last_key (λ k. length k ≡ 16) (λ k. state_sixteen k.planes) in
      length-sums (shift_rows (map sbox (rounds (round_keys_of key) 13 block))) (round_key (round_keys_of key) 14) (omega arith)

  encrypted_octets : (block : List ℕ) → Octets (aes256 key block)
  unfolding aes256 cipher shift_rows
  encrypted_octets block =
      let s = map sbox (rounds (round_keys_of key) 13 block) in
      Octets-sums (shift_rows s) (round_key (round_keys_of key) 14)
      (Octets-map (λ k. get_or s (k % 4 + 4 * ((k / 4 + k % 4) % 4)) 0) (range_with_len 0 16)
      (λ k. Octets-map sbox (rounds (round_keys_of key) 13 block) below (k % 4 + 4 * ((k / 4 + k % 4) % 4))))
      (last_key Octets (λ k. state_octets k.planes))

  pub encrypts_to_blocks : EncryptsToBlocks key
  encrypts_to_blocks = record { sixteen = encrypted_sixteen; octets = encrypted_octets }
