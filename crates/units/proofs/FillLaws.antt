-- Lists that a loop fills place by place.
use Rattle.std.proofs.Common.{◌≡◌, ℕ, ◌+◌, ◌<◌, List, [], ◌∷◌, ◌++◌, map, length, take, set, sym, refl, ap, ◌∙◌, ap₂, arith}
use Rattle.std.specs.List.{range_with_len}
use Rattle.std.proofs.lemmas.List.{take_all, take_more_set}
use Rattle.std.proofs.lemmas.List.FromFn.{map-range_with_len_more}

-- what the first n places hold, where place i holds what f gives
unfoldable pub filled : {X : Type 0} → (ℕ → X) → ℕ → List X
filled f n = map f (range_with_len 0 n)

module _ {X : Type 0} (f : ℕ → X) where
  pub filled_none : [] ≡ filled f 0
  unfolding filled
  filled_none = refl

  pub filled_more : (xs : List X) (i : ℕ) (x : X) → i < length xs → take i xs ≡ filled f i → x ≡ f i → take (i + 1) (set xs i x) ≡ filled f (i + 1)
  unfolding filled
  filled_more xs i x h front here =
      take_more_set xs i x h
      ∙ ap₂ (λ (ys : List X) (y : X). ys ++ y ∷ []) front here
      ∙ sym (map-range_with_len_more f 0 i i (omega arith))

  pub filled_all : (xs : List X) (i n : ℕ) → length xs ≡ n → i ≡ n → take i xs ≡ filled f i → xs ≡ map f (range_with_len 0 n)
  unfolding filled
  filled_all xs i n l h front = sym (take_all i xs (omega arith)) ∙ front ∙ ap (λ (k : ℕ). map f (range_with_len 0 k)) h
