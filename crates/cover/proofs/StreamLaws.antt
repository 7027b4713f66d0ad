-- Keystream, block by block.
use Rattle.std.proofs.Common.{◌≡◌, ℕ, zero, suc, ◌+◌, ◌-◌, ◌*◌, ◌<◌, ◌≤◌, min, List, [], ◌∷◌, ◌++◌, length, take, drop, length-drop, drop-drop, append_assoc, append-nil, add-one, Ok, sym, refl, ap, ◌∙◌, ap₂, arith}
use Rattle.std.proofs.lemmas.Bool.Decides.{nat_tests}
use Rattle.field.specs.declared.blocks.Block.{Block}
use Rattle.field.specs.Blocks.{block_bytes}
use Rattle.generator.specs.Generators.{IsNonce, Meaning, Same, Sound, answered, block_of}
use Rattle.cover.specs.Keystream.{covered, stream}
use Rattle.units.specs.Sums.{◌⊕◌, sums}
use Rattle.units.specs.Lengths.{begun, filled}
use Rattle.units.specs.Spare.{cleared}
use borrow.Rule.Slice.PartMut.{put_mid}
use Rattle.units.proofs.SumLaws.{length-sums, sums_comm}
use Rattle.std.proofs.lemmas.List.{drop_all, drop_at, drop_min, take_at, take_min}
use Rattle.cover.proofs.KeystreamLaws.{begun_enough, length-stream}
use Rattle.cover.proofs.SlotLaws.{block_back}

-- the bytes of a block that a generator answered
pub answered_block : (m : Meaning) (n : List ℕ) (i : ℕ) (b : Block)
    → Sound m
    → IsNonce n
    → i < m.reach n
    → answered m n i ≡ Ok b
    → block_bytes b.0 ≡ m.block n i
answered_block m n i b s is h e =
    let given : b ≡ block_of (m.block n i) = grind (arith, nat_tests) in
    ap (λ (x : Block). block_bytes x.0) given ∙ block_back (m.block n i) (s.sixteen n i is h) (s.octets n i is h)

sums-append : (xs ks ls : List ℕ) → sums xs (ks ++ ls) ≡ sums xs ks ++ sums (drop (length ks) xs) ls
sums-append [] [] ls = refl
sums-append [] (k ∷ ks) ls = refl
sums-append (x ∷ xs) [] ls = refl
sums-append (x ∷ xs) (k ∷ ks) ls = ap (λ (l : List ℕ). (x ⊕ k) ∷ l) (sums-append xs ks ls)

sums-take : (xs ks : List ℕ) → sums (take (length ks) xs) ks ≡ sums xs ks
sums-take [] [] = refl
sums-take [] (k ∷ ks) = refl
sums-take (x ∷ xs) [] = refl
sums-take (x ∷ xs) (k ∷ ks) = ap (λ (l : List ℕ). (x ⊕ k) ∷ l) (sums-take xs ks)

length-sums_r : (xs ks : List ℕ) → length ks ≤ length xs → length (sums xs ks) ≡ length ks
length-sums_r xs ks h = ap length (sums_comm xs ks) ∙ length-sums ks xs h

-- i blocks of keystream are added, and the rest is as it was
pub record Begun (m : Meaning) (n text : List ℕ) (i : ℕ) (old out : List ℕ) : Type 0 where
  pub is : out ≡ sums text (stream m n i) ++ drop (16 * i) old

pub begun_none : (m : Meaning) (n text old : List ℕ) → Begun m n text 0 old old
unfolding stream
begun_none m n text old = record { is = none text }
  where
    none : (xs : List ℕ) → old ≡ sums xs [] ++ old
    none [] = refl
    none (x ∷ xs) = refl

-- one block more, over the bytes from 16 i to `to`
pub begun_more : (m m' : Meaning) (n text : List ℕ) (i to : ℕ) (old out sum : List ℕ)
    → Sound m
    → Same m m'
    → IsNonce n
    → i < m.reach n
    → Begun m n text i old out
    → 16 * i < length text
    → to ≡ min (16 * i + 16) (length text)
    → length old ≡ length text
    → sum ≡ sums (take (to - 16 * i) (drop (16 * i) text)) (m'.block n i)
    → Begun m n text (i + 1) old (put_mid (16 * i) (to - 16 * i) out sum)
unfolding stream
begun_more m m' n text i to old out sum sound same is within b h e lo s =
    let at : ℕ = 16 * i in
    let key = m'.block n i in
    let k : key ≡ m.block n i = same.block n i is within in
    let lk : length key ≡ 16 = ap length k ∙ sound.sixteen n i is within in
    let keys = stream m n i in
    let ls : length keys ≡ 16 * i = length-stream m sound n is i (omega arith) in
    let front = sums text keys in
    let back = drop at text in
    let long : length front ≡ at = length-sums_r text keys (omega arith) ∙ ls in
    let before : take at out ≡ front = ap (take at) b.is ∙ take_at front (drop at old) at long in
    let after : drop (to - at) (drop at out) ≡ drop (16 * (i + 1)) old =
    ap (λ (l : List ℕ). drop (to - at) (drop at l)) b.is
    ∙ ap (drop (to - at)) (drop_at front (drop at old) at long)
    ∙ drop-drop (to - at) at old
    ∙ ap (λ (j : ℕ). drop j old) (omega arith)
    ∙ drop_min (16 * (i + 1)) old
    in
    let part : to - at ≡ min 16 (length back) = omega (arith, length-drop at text) in
    let here : sum ≡ sums back key =
    s
    ∙ ap (λ (j : ℕ). sums (take j back) key) part
    ∙ ap (λ (l : List ℕ). sums l key) (take_min 16 back ∙ ap (λ (j : ℕ). take j back) (sym lk))
    ∙ sums-take back key
    in
    let all : front ++ sum ≡ sums text (stream m n (suc i)) =
    ap (λ (l : List ℕ). front ++ l) (here ∙ ap (λ (j : ℕ). sums (drop j text) key) (sym ls))
    ∙ sym (sums-append text keys key)
    ∙ ap (λ (l : List ℕ). sums text (keys ++ l)) k
    in
    record {
      is =
          ap₂ (λ (x z : List ℕ). x ++ (sum ++ z)) before after
          ∙ sym (append_assoc front sum (drop (16 * (i + 1)) old))
          ∙ ap (λ (l : List ℕ). l ++ drop (16 * (i + 1)) old) (all ∙ ap (λ (j : ℕ). sums text (stream m n j)) (sym (add-one i)));
    }

-- all of it
pub begun_all : (m : Meaning) (n text : List ℕ) (bits : ℕ) (old out : List ℕ)
    → Begun m n text (begun bits) old out
    → length old ≡ filled bits
    → cleared bits out ≡ covered m n bits text
unfolding covered
begun_all m n text bits old out b l =
    let whole = sums text (stream m n (begun bits)) in
    let none : drop (16 * begun bits) old ≡ [] = drop_all (16 * begun bits) old (omega (arith, begun_enough bits)) in
    ap (cleared bits) (b.is ∙ ap (λ (r : List ℕ). whole ++ r) none ∙ append-nil whole)

-- generators that mean the same cover alike
pub covered_same : (m m' : Meaning) (n : List ℕ) (bits : ℕ) (text : List ℕ)
    → Same m m'
    → IsNonce n
    → begun bits ≤ m.reach n
    → covered m' n bits text ≡ covered m n bits text
unfolding covered stream
covered_same m m' n bits text s is h = ap (λ (k : List ℕ). cleared bits (sums text k)) (streams (begun bits) h)
  where
    streams : (i : ℕ) → i ≤ m.reach n → stream m' n i ≡ stream m n i
    streams zero h = refl
    streams (suc i) h = ap₂ (λ (x y : List ℕ). x ++ y) (streams i (omega arith)) (s.block n i is h)
