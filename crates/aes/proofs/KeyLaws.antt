-- Round keys, and the words that they are made of.
use Rattle.std.proofs.Common.{◌≡◌, ℕ, suc, ◌+◌, ◌-◌, ◌*◌, ◌/◌, ◌%◌, ◌<◌, ◌≤◌, ◌==◌, cond, List, [], ◌∷◌, ◌++◌, map, length, get_or, take, drop, replicate, set, length-drop, sym, refl, ap, ◌∙◌, ap₂, arith}
use Rattle.std.specs.Simd.Lanes.{zip2}
use Rattle.std.proofs.lemmas.Simd.{zip2_splat}
use Rattle.std.proofs.lemmas.List.{take_all, take_more_set, get_or-take, get_or-drop, length-take-le}
use Rattle.units.specs.Sums.{sums}
use Rattle.units.proofs.FillLaws.{filled, filled_more, filled_none}
use Rattle.planes.specs.declared.Planes.{Planes}
use Rattle.planes.specs.Planes.{state, states}
use Rattle.planes.proofs.BitLaws.{same_below}
use Rattle.polynomials.specs.Polynomials.{digitwise}
use Rattle.byte_field.specs.ByteField.{mul, xtime}
use Rattle.aes.specs.KeyExpansion.{addend, expanded, key_expansion, one_more, power, sub_word, words}

-- ---- planes that hold one state eight times

pub first_state : (q : Planes) (k : List ℕ) → states q ≡ replicate 8 k → state q 0 ≡ k
unfolding states
first_state q k e = ap (λ (ss : List (List ℕ)). get_or ss 0 []) e

pub all_alike : (q : Planes) (k : List ℕ) → states q ≡ replicate 8 k → states q ≡ replicate 8 (state q 0)
all_alike q k e = e ∙ ap (replicate 8) (sym (first_state q k e))

pub added_to_each : (a b sum : Planes) (k : List ℕ) → states sum ≡ zip2 sums (states a) (states b) → states b ≡ replicate 8 k → states sum ≡ map (λ s. sums s k) (states a)
unfolding states
added_to_each a b sum k e f = e ∙ ap (zip2 sums (states a)) f ∙ zip2_splat sums (states a) 8 k refl

-- ---- words

four_items : (w : List ℕ) → length w ≡ 4 → w ≡ get_or w 0 0 ∷ get_or w 1 0 ∷ get_or w 2 0 ∷ get_or w 3 0 ∷ []
four_items [] l = absurd (omega arith)
four_items (a ∷ []) l = absurd (omega arith)
four_items (a ∷ b ∷ []) l = absurd (omega arith)
four_items (a ∷ b ∷ c ∷ []) l = absurd (omega arith)
four_items (a ∷ b ∷ c ∷ d ∷ []) l = refl
four_items (a ∷ b ∷ c ∷ d ∷ e ∷ w) l = absurd (omega arith)

four_same : {a b c d e f g h : ℕ} → a ≡ e → b ≡ f → c ≡ g → d ≡ h → ◌≡◌ {A = List ℕ} (a ∷ b ∷ c ∷ d ∷ []) (e ∷ f ∷ g ∷ h ∷ [])
four_same p q r s = cc

abbrev powers : List ℕ
powers = 1 ∷ 2 ∷ 4 ∷ 8 ∷ 16 ∷ 32 ∷ 64 ∷ []

powers_are : (n : ℕ) → n < 7 → get_or powers n 0 ≡ power n
unfolding power mul xtime digitwise
powers_are = same_below (λ n. get_or powers n 0) power 7 refl

pub addend_eighth :
    (i : ℕ) (w sub sum : List ℕ) → length w ≡ 4 → 8 ≤ i → i < 60 → i % 8 ≡ 0
    → sub ≡ sub_word (get_or w 1 0 ∷ get_or w 2 0 ∷ get_or w 3 0 ∷ get_or w 0 0 ∷ [])
    → sum ≡ sums sub (get_or powers (i / 8 - 1) 0 ∷ 0 ∷ 0 ∷ 0 ∷ [])
    → sum ≡ addend i w
addend_eighth i w sub sum l from below z e f =
    f
    ∙ ap₂ sums e (ap (λ (x : ℕ). x ∷ 0 ∷ 0 ∷ 0 ∷ []) (powers_are (i / 8 - 1) (omega arith)))
    ∙ sym (ap (λ (m : ℕ). cond (m == 0) (sums (sub_word (drop 1 w ++ take 1 w)) (power (i / 8 - 1) ∷ 0 ∷ 0 ∷ 0 ∷ [])) (cond (m == 4) (sub_word w) w)) z
    ∙ ap (λ (v : List ℕ). sums (sub_word (drop 1 v ++ take 1 v)) (power (i / 8 - 1) ∷ 0 ∷ 0 ∷ 0 ∷ [])) (four_items w l))

-- the first n words of a key
unfoldable pub first_words : List ℕ → ℕ → List (List ℕ)
first_words key = filled (λ i. take 4 (drop (4 * i) key))

pub no_words : (key : List ℕ) → [] ≡ first_words key 0
unfolding first_words
no_words key = filled_none (λ i. take 4 (drop (4 * i) key))

word_at :
    (key : List ℕ) (at : ℕ) → at + 4 ≤ length key
    → get_or key at 0 ∷ get_or key (at + 1) 0 ∷ get_or key (at + 2) 0 ∷ get_or key (at + 3) 0 ∷ [] ≡ take 4 (drop at key)
word_at key at h =
    let there : (k : ℕ) → k < 4 → get_or (take 4 (drop at key)) k 0 ≡ get_or key (at + k) 0 =
    λ k l. get_or-take 4 (drop at key) k 0 l ∙ get_or-drop at key k 0
    in
    sym (four_items (take 4 (drop at key)) (length-take-le 4 (drop at key) (omega (arith, length-drop at key)))
    ∙ four_same (there 0 (omega arith) ∙ ap (λ (m : ℕ). get_or key m 0) (let e : at + 0 ≡ at = omega arith in e))
    (there 1 (omega arith)) (there 2 (omega arith)) (there 3 (omega arith)))

pub word_more :
    (key : List ℕ) (ws : List (List ℕ)) (i : ℕ) → length ws ≡ 60 → length key ≡ 32 → i < 8
    → take i ws ≡ first_words key i
    → take (i + 1) (set ws i (get_or key (4 * i) 0 ∷ get_or key (4 * i + 1) 0 ∷ get_or key (4 * i + 2) 0 ∷ get_or key (4 * i + 3) 0 ∷ [])) ≡ first_words key (i + 1)
unfolding first_words
word_more key ws i l m h e =
    filled_more (λ i. take 4 (drop (4 * i) key)) ws i _ (omega arith) e (word_at key (4 * i) (omega arith))

pub not_expanded : (key : List ℕ) (ws : List (List ℕ)) (i : ℕ) → i ≡ 8 → take i ws ≡ first_words key i → take 8 ws ≡ expanded 0 (words key)
unfolding first_words filled expanded words
not_expanded key ws i h e = rw h at e

pub expanded_more :
    (key : List ℕ) (ws : List (List ℕ)) (i : ℕ) (add sum : List ℕ) → length ws ≡ 60 → 8 ≤ i → i < 60
    → take i ws ≡ expanded (i - 8) (words key)
    → add ≡ addend i (get_or ws (i - 1) [])
    → sum ≡ sums (get_or ws (i - 8) []) add
    → take (i + 1) (set ws i sum) ≡ expanded (i + 1 - 8) (words key)
unfolding expanded
expanded_more key ws i add sum l from below e f g =
    let vs = take i ws in
    let next = λ (n : ℕ) (us : List (List ℕ)). sums (get_or us (n - 8) []) (addend n (get_or us (n - 1) [])) in
    take_more_set ws i sum (omega arith)
    ∙ ap (λ (w : List ℕ). vs ++ w ∷ [])
    (g
    ∙ ap₂ sums (sym (get_or-take i ws (i - 8) [] (omega arith))) (f ∙ ap (addend i) (sym (get_or-take i ws (i - 1) [] (omega arith))))
    ∙ ap (λ (n : ℕ). next n vs) (sym (length-take-le i ws (omega arith))))
    ∙ ap one_more e
    ∙ ap (λ (n : ℕ). expanded n (words key)) (let e : suc (i - 8) ≡ i + 1 - 8 = omega arith in e)

pub expansion_done : (key : List ℕ) (ws : List (List ℕ)) (i : ℕ) → length ws ≡ 60 → i ≡ 60 → take i ws ≡ expanded (i - 8) (words key) → ws ≡ key_expansion key
unfolding key_expansion
expansion_done key ws i l h e = sym (take_all 60 ws (omega arith)) ∙ (rw h at e)
