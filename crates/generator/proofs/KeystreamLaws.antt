-- The blocks that a generator gives one after another.
use Rattle.std.proofs.Common.{◌≡◌, ℕ, zero, suc, ◌+◌, ◌<◌, ◌≤◌, List, [], ◌∷◌, ◌++◌, length, drop, set, Ok, refl, ap, ◌∙◌, add-one, add-zero, append-nil, arith}
use Rattle.std.proofs.lemmas.Bool.Decides.{nat_tests}
use Rattle.std.proofs.lemmas.List.{drop_all}
use Rattle.field.specs.declared.blocks.Block.{Block}
use Rattle.generator.specs.Generators.{Answers, IsNonce, Meaning, Same, answered, block_of}
use Rattle.generator.specs.Keystreams.{blocks_from}

-- every meaning answers below the reach alone
pub answers : (m : Meaning) → Answers m
answers m = record { below = λ n i h. grind (arith, nat_tests); beyond = λ n i h. grind (arith, nat_tests) }

-- two that are the same answer the same
pub answered_same : (a b : Meaning) → Same a b → (n : List ℕ) (i : ℕ) → IsNonce n → answered b n i ≡ answered a n i
answered_same a b s n i is =
    let e = s.reach n is in
    let f : i < a.reach n → b.block n i ≡ a.block n i = s.block n i is in
    grind (arith, nat_tests, f)

-- so many blocks are in place, and the rest is as it was
pub record Filled (m : Meaning) (n : List ℕ) (i k : ℕ) (old out : List Block) : Type 0 where
  pub is : out ≡ blocks_from m n i k ++ drop k old

pub filled_none : (m : Meaning) (n : List ℕ) (i : ℕ) (old : List Block) → Filled m n i 0 old old
filled_none m n i old = record { is = refl }

set_next : (m : Meaning) (n : List ℕ) (i k : ℕ) (old : List Block) → k < length old → set (blocks_from m n i k ++ drop k old) k (block_of (m.block n (i + k))) ≡ blocks_from m n i (suc k) ++ drop (suc k) old
set_next m n i zero [] h = absurd (omega arith)
set_next m n i zero (b ∷ old) h = rw add-zero refl
set_next m n i (suc k) [] h = absurd (omega arith)
set_next m n i (suc k) (b ∷ old) h =
    let e : i + suc k ≡ i + 1 + k = omega arith in
    ap (λ (j : ℕ). block_of (m.block n i) ∷ set (blocks_from m n (i + 1) k ++ drop k old) k (block_of (m.block n j))) e
    ∙ ap (λ (l : List Block). block_of (m.block n i) ∷ l) (set_next m n (i + 1) k old (omega arith))

-- the block that the generator answered is put in place
pub filled_more : (a b : Meaning) (n : List ℕ) (i k : ℕ) (old out : List Block) (x : Block) → Same a b → IsNonce n → Filled a n i k old out → k < length old → answered b n (i + k) ≡ Ok x → Filled a n i (k + 1) old (set out k x)
filled_more a b n i k old out x s is f h e =
    let same = answered_same a b s n (i + k) is in
    let block : x ≡ block_of (a.block n (i + k)) = grind (arith, nat_tests) in
    record { is = rw (f.is, block, add-one) (set_next a n i k old h) }

-- all are in place
pub filled_all : (m : Meaning) (n : List ℕ) (i k : ℕ) (old out : List Block) → Filled m n i k old out → length old ≤ k → k ≤ length old → out ≡ blocks_from m n i (length old)
filled_all m n i k old out f h h' =
    let all : k ≡ length old = omega arith in
    f.is ∙ rw (all, drop_all (length old) old (omega arith)) (append-nil (blocks_from m n i (length old)))
