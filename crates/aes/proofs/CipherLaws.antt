-- The cipher on planes, round by round.
use Rattle.std.proofs.Common.{◌≡◌, ℕ, suc, ◌+◌, ◌-◌, ◌<◌, ◌≤◌, List, [], ◌++◌, map, length, get_or, take, drop, drop-drop, length-drop, take-add, take-append-drop, length-append, append_assoc, set, sym, ap, ◌∙◌, ap₂, arith}
use Rattle.std.specs.List.{range_with_len}
use borrow.Rule.Slice.PartMut.{put_mid}
use Rattle.std.proofs.lemmas.List.{drop_at, take_at, length-map, length-take-le, get_or-map, map-append, map-set}
use Rattle.std.proofs.lemmas.Simd.{map-map}
use Rattle.units.proofs.FillLaws.{filled, filled_all, filled_more}
use Rattle.planes.specs.declared.Planes.{Planes}
use Rattle.planes.specs.Planes.{states}
use Rattle.byte_field.specs.Sbox.{sbox}
use Rattle.aes.specs.Cipher.{add_round_key, cipher, mix_columns, round, round_key, rounds, shift_rows}
use Rattle.aes.specs.KeyExpansion.{aes256, key_expansion, round_key_of, round_keys_of}
use Rattle.aes.specs.RoundKeys.{key_of}
use Rattle.aes.specs.declared.round_keys.RoundKey.{RoundKey}

-- ---- the round keys

pub key_more :
    (ws : List (List ℕ)) (ks : List RoundKey) (r : ℕ) (k : RoundKey) → length ks ≡ 15 → r < 15
    → take r (map key_of ks) ≡ filled (round_key_of ws) r
    → key_of k ≡ round_key_of ws r
    → take (r + 1) (map key_of (set ks r k)) ≡ filled (round_key_of ws) (r + 1)
key_more ws ks r k l h e f = rw map-set (filled_more (round_key_of ws) (map key_of ks) r (key_of k) (omega (arith, length-map ks key_of)) e f)

pub all_keys :
    (key : List ℕ) (ws : List (List ℕ)) (ks : List RoundKey) (r : ℕ) → length ks ≡ 15 → r ≡ 15 → ws ≡ key_expansion key
    → take r (map key_of ks) ≡ filled (round_key_of ws) r → map key_of ks ≡ round_keys_of key
unfolding round_keys_of
all_keys key ws ks r l h w e =
    filled_all (round_key_of ws) (map key_of ks) r 15 (length-map ks key_of ∙ l) h e
    ∙ ap (λ (us : List (List ℕ)). map (round_key_of us) (range_with_len 0 15)) w

pub key_at :
    (key : List ℕ) (rks : List RoundKey) (r : ℕ) (d : RoundKey) → map key_of rks ≡ round_keys_of key → r < length rks
    → key_of (get_or rks r d) ≡ round_key (round_keys_of key) r
key_at key rks r d e h = sym (get_or-map key_of rks r d [] h) ∙ ap (λ (ks : List (List ℕ)). get_or ks r []) e

-- ---- the rounds

module _ (key : List ℕ) (blocks : List (List ℕ)) where
  pub first_round :
      (k : List ℕ) (from q : Planes) → k ≡ round_key (round_keys_of key) 0
      → states from ≡ blocks
      → states q ≡ map (add_round_key k) (states from)
      → states q ≡ map (rounds (round_keys_of key) 0) blocks
  unfolding rounds
  first_round k from q e f g = g ∙ ap₂ (λ (k : List ℕ) (ss : List (List ℕ)). map (add_round_key k) ss) e f

  pub next_round :
      (r : ℕ) (k : List ℕ) (q b s m q' : Planes) → 1 ≤ r → k ≡ round_key (round_keys_of key) r
      → states q ≡ map (rounds (round_keys_of key) (r - 1)) blocks
      → states b ≡ map (map sbox) (states q)
      → states s ≡ map shift_rows (states b)
      → states m ≡ map mix_columns (states s)
      → states q' ≡ map (add_round_key k) (states m)
      → states q' ≡ map (rounds (round_keys_of key) (r + 1 - 1)) blocks
  unfolding rounds
  next_round r k q b s m q' h e f eb es em eq =
      eq
      ∙ ap (map (add_round_key k)) (em
      ∙ ap (map mix_columns) (es
      ∙ ap (map shift_rows) (eb ∙ ap (map (map sbox)) f ∙ map-map (map sbox) (rounds (round_keys_of key) (r - 1)) blocks)
      ∙ map-map shift_rows (λ x. map sbox (rounds (round_keys_of key) (r - 1) x)) blocks)
      ∙ map-map mix_columns (λ x. shift_rows (map sbox (rounds (round_keys_of key) (r - 1) x))) blocks)
      ∙ map-map (add_round_key k) (λ x. mix_columns (shift_rows (map sbox (rounds (round_keys_of key) (r - 1) x)))) blocks
      ∙ ap (λ (k : List ℕ). map (λ x. round k (rounds (round_keys_of key) (r - 1) x)) blocks) (e ∙ ap (round_key (round_keys_of key)) (let n : r ≡ suc (r - 1) = omega arith in n))
      ∙ ap (λ (n : ℕ). map (rounds (round_keys_of key) n) blocks) (let n : suc (r - 1) ≡ r + 1 - 1 = omega arith in n)

  pub last_round :
      (r : ℕ) (k : List ℕ) (q b s last : Planes) (out : List (List ℕ)) → r ≡ 14 → k ≡ round_key (round_keys_of key) 14
      → states q ≡ map (rounds (round_keys_of key) (r - 1)) blocks
      → states b ≡ map (map sbox) (states q)
      → states s ≡ map shift_rows (states b)
      → states last ≡ map (add_round_key k) (states s)
      → out ≡ states last
      → out ≡ map (aes256 key) blocks
  unfolding aes256 cipher
  last_round r k q b s last out h e f eb es el eo =
      eo
      ∙ el
      ∙ ap (map (add_round_key k)) (es
      ∙ ap (map shift_rows) (eb
      ∙ ap (map (map sbox)) (f ∙ ap (λ (n : ℕ). map (rounds (round_keys_of key) (n - 1)) blocks) h)
      ∙ map-map (map sbox) (rounds (round_keys_of key) 13) blocks)
      ∙ map-map shift_rows (λ x. map sbox (rounds (round_keys_of key) 13 x)) blocks)
      ∙ map-map (add_round_key k) (λ x. shift_rows (map sbox (rounds (round_keys_of key) 13 x))) blocks
      ∙ ap (λ (k : List ℕ). map (λ x. add_round_key k (shift_rows (map sbox (rounds (round_keys_of key) 13 x)))) blocks) e

-- ---- batches

-- after d blocks of bs the next n are encrypted: b is what stands there before, and `out` what is written over the n
pub batch_done :
    (f : List ℕ → List ℕ) (bs b new rest result out : List (List ℕ)) (d n : ℕ) → d + n ≤ length b
    → b ≡ map f (take d bs) ++ drop d bs
    → new ≡ take (d + n - d) (drop d b)
    → result ≡ map f (new ++ rest)
    → out ≡ take n result
    → put_mid d (d + n - d) b out ≡ map f (take (d + n) bs) ++ drop (d + n) bs
batch_done f bs b new rest result out d n low eb en er eo =
    let all : length b ≡ length bs =
    ap length eb
    ∙ length-append (map f (take d bs)) (drop d bs)
    ∙ ap (λ (k : ℕ). k + length (drop d bs)) (length-map (take d bs) f)
    ∙ sym (length-append (take d bs) (drop d bs))
    ∙ ap length (take-append-drop d bs)
    in
    let h : d + n ≤ length bs = omega arith in
    let size : length (map f (take d bs)) ≡ d = length-map (take d bs) f ∙ length-take-le d bs (omega arith) in
    let front : take d b ≡ map f (take d bs) = ap (take d) eb ∙ take_at (map f (take d bs)) (drop d bs) d size in
    let back : drop d b ≡ drop d bs = ap (drop d) eb ∙ drop_at (map f (take d bs)) (drop d bs) d size in
    let count : d + n - d ≡ n = omega arith in
    let fresh : new ≡ take n (drop d bs) = en ∙ ap₂ (λ (k : ℕ) (l : List (List ℕ)). take k l) count back in
    let long : length (map f new) ≡ n = length-map new f ∙ ap length fresh ∙ length-take-le n (drop d bs) (omega (arith, length-drop d bs)) in
    let coded : out ≡ map f (take n (drop d bs)) = eo ∙ ap (take n) (er ∙ map-append f new rest) ∙ take_at (map f new) (map f rest) n long ∙ ap (map f) fresh in
    let after : drop (d + n - d) (drop d b) ≡ drop (d + n) bs = ap₂ (λ (k : ℕ) (l : List (List ℕ)). drop k l) count back ∙ drop-drop n d bs in
    ap₂ (λ (x y : List (List ℕ)). x ++ (y ++ drop (d + n - d) (drop d b))) front coded
    ∙ ap (λ (y : List (List ℕ)). map f (take d bs) ++ (map f (take n (drop d bs)) ++ y)) after
    ∙ sym (append_assoc (map f (take d bs)) (map f (take n (drop d bs))) (drop (d + n) bs))
    ∙ ap (λ (x : List (List ℕ)). x ++ drop (d + n) bs) (sym (map-append f (take d bs) (take n (drop d bs))) ∙ ap (map f) (sym (take-add d n bs)))
