-- The fold.
use Rattle.std.proofs.Common.{◌≡◌, ℕ, ◌+◌, ◌*◌, ◌^◌, ◌<◌, List, [], ◌∷◌, ◌++◌, length, sym, refl, Option, ap, ◌∙◌, arith}
use Rattle.std.specs.Int.Bits.{xor_assoc, xor_zero_r}
use Rattle.std.proofs.lemmas.Fn.{fold_over}
use Rattle.std.proofs.lemmas.Iterator.{YieldsList}
use Rattle.std.specs.Fn.{Called, Mut}
use Rattle.std.specs.Iterator.{FoldsItems}
use Rattle.field.specs.declared.blocks.Block.{Block}
use Rattle.units.specs.Spare.{cleared}
use Rattle.units.specs.Sums.{◌⊕◌, sums}
use Rattle.units.proofs.SpareLaws.{cleared-append, cleared-sums, cleared_whole, length-cleared, Octets-cleared}
use Rattle.units.proofs.SumLaws.{xor_four}
use Rattle.polynomials.specs.Field.{FieldStands, one, pdot}
use Rattle.field.specs.Blocks.{blocks}
use Rattle.field.specs.Folds.{FoldStands, fold, folded, power, value_at}
use Rattle.field.proofs.BlockLaws.{blocks-append, blocks-sums, length-blocks}

-- ---- a list of blocks

pub folded-append : (h v : ℕ) (bs cs : List ℕ) → folded h v (bs ++ cs) ≡ folded h (folded h v bs) cs
unfolding folded
folded-append h v [] cs = refl
folded-append h v (b ∷ bs) cs = folded-append h (pdot (v ⊕ b) h) bs cs

folded-push : (h v : ℕ) (bs : List ℕ) (b : ℕ) → folded h v (bs ++ (b ∷ [])) ≡ pdot (folded h v bs ⊕ b) h
unfolding folded
folded-push h v bs b = folded-append h v bs (b ∷ [])

-- an iterator's `fold`, where each call of the closure adds a block and multiplies by h
pub folded_from_fold : {S F : Type 0} {steps : S → Option Block → S → Type 0} {s : S} {f : F} (g : Mut F (Block × (Block × Unit {0})) Block) (h : ℕ) (v r : Block) (bs : List ℕ) → FoldsItems steps g s f v r → YieldsList steps (λ b. b.0) s bs → ((a b w : Block) (f' : F) → Called g f (a, (b, tt)) w f' → (w.0 ≡ pdot (a.0 ⊕ b.0) h) × (f' ≡ f)) → r.0 ≡ folded h v.0 bs
unfolding folded
folded_from_fold {steps = steps} {s = s} {f = f} g h v r bs ran all step =
    fold_over steps (λ b. b.0) g (λ cs a. a.0 ≡ folded h v.0 cs) f
    (λ cs a b w f' e k. let called = step a b w f' k in (called.0 ∙ ap (λ (u : ℕ). pdot (u ⊕ b.0) h) e ∙ sym (folded-push h v.0 cs b.0), called.1))
    s bs v r all.runs refl ran

folded-blocks : (k h v : ℕ) (xs ys : List ℕ) → length xs ≡ 16 * k → folded h v (blocks (xs ++ ys)) ≡ folded h (folded h v (blocks xs)) (blocks ys)
folded-blocks k h v xs ys e = ap (folded h v) (blocks-append k xs ys e) ∙ folded-append h v (blocks xs) (blocks ys)

-- what rests on the laws of the product
module _ (f : FieldStands) where
  folded-sums : (h v w : ℕ) (bs cs : List ℕ) → length bs ≡ length cs → folded h (v ⊕ w) (sums bs cs) ≡ folded h v bs ⊕ folded h w cs
  unfolding folded
  folded-sums h v w [] [] e = refl
  folded-sums h v w [] (c ∷ cs) e = absurd (omega arith)
  folded-sums h v w (b ∷ bs) [] e = absurd (omega arith)
  folded-sums h v w (b ∷ bs) (c ∷ cs) e =
      ap (λ (u : ℕ). folded h u (sums bs cs)) (ap (λ (u : ℕ). pdot u h) (xor_four v w b c) ∙ f.additive_left (v ⊕ b) (w ⊕ c) h)
      ∙ folded-sums h (pdot (v ⊕ b) h) (pdot (w ⊕ c) h) bs cs (omega arith)

  folded_valued : (h v : ℕ) (bs : List ℕ) → v < 2 ^ 128 → folded h v bs ≡ pdot v (power h (length bs)) ⊕ value_at h bs
  unfolding folded
  folded_valued h v [] k = sym (xor_zero_r (pdot v one) ∙ f.one_is v k)
  folded_valued h v (b ∷ bs) k =
      let p = power h (length bs) in
      folded_valued h (pdot (v ⊕ b) h) bs (f.below (v ⊕ b) h)
      ∙ ap (λ (x : ℕ). x ⊕ value_at h bs) (f.associative (v ⊕ b) h p ∙ f.additive_left v b (pdot h p))
      ∙ xor_assoc (pdot v (pdot h p)) (pdot b (pdot h p)) (value_at h bs)

  pub fold_stands : FoldStands
  unfolding fold
  fold_stands =
      record {
        additive = λ h v w n xs ys e o p.
            let long : length (cleared n xs) ≡ length (cleared n ys) = length-cleared n xs ∙ e ∙ sym (length-cleared n ys) in
            ap (λ (l : List ℕ). folded h (v ⊕ w) (blocks l)) (cleared-sums n xs ys)
            ∙ ap (folded h (v ⊕ w)) (blocks-sums (cleared n xs) (cleared n ys) long (Octets-cleared n xs o) (Octets-cleared n ys p))
            ∙ folded-sums h v w (blocks (cleared n xs)) (blocks (cleared n ys)) (length-blocks (cleared n xs) (cleared n ys) long);
        appended = λ h v k n xs ys e.
            let bits : 128 * k + n ≡ 8 * length xs + n = omega arith in
            ap (λ (m : ℕ). folded h v (blocks (cleared m (xs ++ ys)))) bits
            ∙ ap (λ (l : List ℕ). folded h v (blocks l)) (cleared-append n xs ys)
            ∙ folded-blocks k h v xs (cleared n ys) e
            ∙ ap (λ (l : List ℕ). folded h (folded h v (blocks l)) (blocks (cleared n ys))) (sym (cleared_whole (128 * k) xs (omega arith)));
        valued = λ h v n xs k. folded_valued h v (blocks (cleared n xs)) k;
      }
