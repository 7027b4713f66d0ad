-- Folding data with H.
use Rattle.std.specs.Prelude.{◌≡◌, ℕ, zero, suc, ◌+◌, ◌*◌, ◌^◌, ◌<◌, List, [], ◌∷◌, ◌++◌, length}
use Rattle.units.specs.Spare.{cleared}
use Rattle.units.specs.Strings.{Octets}
use Rattle.units.specs.Sums.{◌⊕◌, sums}
use Rattle.polynomials.specs.Field.{one, pdot}
use Rattle.field.specs.Blocks.{blocks}

-- from v, each block in turn is added, and the sum multiplied by h
unfoldable pub folded : ℕ → ℕ → List ℕ → ℕ
folded h v [] = v
folded h v (b ∷ bs) = folded h (pdot (v ⊕ b) h) bs

-- n bits of data folded with h, from v; spare bits count as zero
unfoldable pub fold : ℕ → ℕ → ℕ → List ℕ → ℕ
fold h v n xs = folded h v (blocks (cleared n xs))

-- the powers of h in the field
abbrev pub power : ℕ → ℕ → ℕ
power h zero = one
power h (suc n) = pdot h (power h n)

-- the sum of blocks times powers of h: the last by h, the one before it by h^2, and so on
abbrev pub value_at : ℕ → List ℕ → ℕ
value_at h [] = 0
value_at h (b ∷ bs) = pdot b (power h (suc (length bs))) ⊕ value_at h bs

-- what a fold is, in the field's own words
pub record FoldStands : Type 0 where
  -- of two inputs of one length
  pub additive : (h v w n : ℕ) (xs ys : List ℕ) → length xs ≡ length ys → Octets xs → Octets ys → fold h (v ⊕ w) n (sums xs ys) ≡ fold h v n xs ⊕ fold h w n ys
  -- of one input after another that ends with a block
  pub appended : (h v k n : ℕ) (xs ys : List ℕ) → length xs ≡ 16 * k → fold h v (128 * k + n) (xs ++ ys) ≡ fold h (fold h v (128 * k) xs) n ys
  -- as the value of a polynomial at h, whose coefficients are the blocks
  pub valued : (h v n : ℕ) (xs : List ℕ) → v < 2 ^ 128 → fold h v n xs ≡ pdot v (power h (length (blocks (cleared n xs)))) ⊕ value_at h (blocks (cleared n xs))
