-- Lists in which all things are different.
use Rattle.std.proofs.Common.{Decides, ◌≡◌, ◌↔◌, ℕ, zero, suc, ◌+◌, ◌<◌, ◌≤◌, Bool, false, List, [], ◌∷◌, ◌++◌, length, get_or, sym, refl, ◌∙◌, ◌||◌, arith, le_of_suc-le-suc}
use Rattle.std.proofs.Math.Bool.{or_assoc}
use Rattle.std.proofs.lemmas.Bool.{both_ways, cond_both, false_from_ne_true, or_from, or_parts}
use Rattle.std.proofs.lemmas.List.Elements.{All-head, All-tail}
use Rattle.std.specs.List.{All}
use Rattle.units.specs.Different.{among, different}

module _ {A : Type 0} (equal : A → A → Bool) where
  -- none is among the later ones
  abbrev pub Apart : List A → Type 0
  Apart [] = Unit {0}
  Apart (x ∷ xs) = (among equal x xs ≡ false) × Apart xs

  different_le : (xs : List A) → different equal xs ≤ length xs
  different_le [] = omega arith
  different_le (x ∷ xs) =
      let rest = different_le xs in
      cond_both (among equal x xs) 0 1 (λ (k : ℕ). k + different equal xs ≤ suc (length xs)) (λ e. omega arith) (λ e. omega arith)

  -- then there are as many as the list is long, and only then
  pub different_all : (xs : List A) → Apart xs → length xs ≡ different equal xs
  different_all [] h = refl
  different_all (x ∷ xs) h = let rest = different_all xs h.1 in rw h.0 (omega arith)

  pub apart_all : (xs : List A) → length xs ≡ different equal xs → Apart xs
  apart_all [] e = tt
  apart_all (x ∷ xs) e =
      let few = different_le xs in
      let rest = apart_all xs in
      cond_both (among equal x xs) 0 1 (λ (k : ℕ). suc (length xs) ≡ k + different equal xs → Apart (x ∷ xs))
      (λ t g. absurd (omega arith))
      (λ t g. (t, rest (omega arith)))
      e

  -- ---- lists put together

  pub among-append : (x : A) (ys zs : List A) → among equal x (ys ++ zs) ≡ (among equal x ys || among equal x zs)
  among-append x [] zs = refl
  among-append x (y ∷ ys) zs = rw (among-append x ys zs) (sym (or_assoc (equal x y) (among equal x ys) (among equal x zs)))

  -- what is said of the one list is never said of anything equal in the other
  module _ (tells : (x y : A) → Decides (equal x y) (x ≡ y)) (P Q : A → Type 0) (never : (x y : A) → P x → Q y → x ≡ y → ⊥) where
    pub among_none : (x : A) (ys : List A) → P x → All Q ys → among equal x ys ≡ false
    among_none x [] p q = refl
    among_none x (y ∷ ys) p q =
        or_from (equal x y) (among equal x ys)
        (false_from_ne_true (equal x y) (λ e. never x y p (All-head Q y ys q) ((tells x y).0 e)))
        (among_none x ys p (All-tail Q y ys q))

    pub Apart-append : (xs ys : List A) → Apart xs → Apart ys → All P xs → All Q ys → Apart (xs ++ ys)
    Apart-append [] ys h g p q = g
    Apart-append (x ∷ xs) ys h g p q = (
      among-append x xs ys ∙ or_from (among equal x xs) (among equal x ys) h.0 (among_none x ys (All-head P x xs p) q),
      Apart-append xs ys h.1 g (All-tail P x xs p) q,
    )

  -- ---- by places

  module _ (tells : (x y : A) → Decides (equal x y) (x ≡ y)) (d : A) where
    -- no two places hold the same
    abbrev pub Pairs : List A → Type 0
    Pairs xs = (i j : ℕ) → i < j → j < length xs → get_or xs i d ≡ get_or xs j d → ⊥

    among_not : (x : A) (xs : List A) → among equal x xs ≡ false → (j : ℕ) → j < length xs → x ≡ get_or xs j d → ⊥
    among_not x [] h j l e = omega arith
    among_not x (y ∷ ys) h zero l e = both_ways (equal x y) (or_parts (equal x y) (among equal x ys) h).0 ((tells x y).1 e)
    among_not x (y ∷ ys) h (suc j) l e = among_not x ys (or_parts (equal x y) (among equal x ys) h).1 j (le_of_suc-le-suc l) e

    not_among : (x : A) (xs : List A) → ((j : ℕ) → j < length xs → x ≡ get_or xs j d → ⊥) → among equal x xs ≡ false
    not_among x [] h = refl
    not_among x (y ∷ ys) h =
        or_from (equal x y) (among equal x ys)
        (false_from_ne_true (equal x y) (λ e. h 0 (omega arith) ((tells x y).0 e)))
        (not_among x ys (λ j l. h (suc j) (omega arith)))

    pairs_from : (xs : List A) → Apart xs → Pairs xs
    pairs_from [] h i j a b e = omega arith
    pairs_from (x ∷ xs) h i zero a b e = omega arith
    pairs_from (x ∷ xs) h zero (suc j) a b e = among_not x xs h.0 j (le_of_suc-le-suc b) e
    pairs_from (x ∷ xs) h (suc i) (suc j) a b e = pairs_from xs h.1 i j (le_of_suc-le-suc a) (le_of_suc-le-suc b) e

    from_pairs : (xs : List A) → Pairs xs → Apart xs
    from_pairs [] h = tt
    from_pairs (x ∷ xs) h = (
      not_among x xs (λ j l. h 0 (suc j) (omega arith) (omega arith)),
      from_pairs xs (λ i j a b. h (suc i) (suc j) (omega arith) (omega arith)),
    )

    -- by a test that tells equality, all are different exactly where no two places hold the same
    pub different_pairs : (xs : List A) → (length xs ≡ different equal xs) ↔ Pairs xs
    different_pairs xs = (λ e. pairs_from xs (apart_all xs e), λ h. different_all xs (from_pairs xs h))
