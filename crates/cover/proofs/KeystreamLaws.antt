-- Keystream, and covering by it.
use Rattle.std.proofs.Common.{◌≡◌, ℕ, zero, suc, ◌*◌, ◌≤◌, ltb, true, List, [], ◌∷◌, length, sym, refl, ap, ◌∙◌, ap₂, le_of_suc-le-suc, not-suc-le-zero, arith, length-append}
use Rattle.units.specs.Lengths.{begun, filled}
use Rattle.units.specs.Spare.{clear, cleared}
use Rattle.units.specs.Strings.{Octets}
use Rattle.units.specs.Sums.{sums}
use Rattle.units.proofs.SpareLaws.{Octets-cleared, clear-cleared, cleared-sums, cleared_again, length-cleared}
use Rattle.units.proofs.StringLaws.{Octets-append, same_tells}
use Rattle.units.proofs.SumLaws.{Octets-sums, length-sums, sums_between, terms}
use Rattle.generator.specs.Generators.{IsNonce, Meaning, Sound}
use Rattle.cover.specs.Keystream.{covered, stream}

-- ---- byte strings

-- what is added twice falls out
sums_again : (xs ks : List ℕ) → length xs ≤ length ks → sums (sums xs ks) ks ≡ xs
sums_again [] ks h = refl
sums_again (x ∷ xs) [] h = absurd (not-suc-le-zero h)
sums_again (x ∷ xs) (k ∷ ks) h = ap₂ (λ (b : ℕ) (bs : List ℕ). b ∷ bs) (simp terms) (sums_again xs ks (le_of_suc-le-suc h))

-- the blocks that bits begin have room for the bytes that they fill
pub begun_enough : (n : ℕ) → filled n ≤ 16 * begun n
unfolding filled begun
begun_enough n = omega arith

-- ---- under a nonce of a sound meaning

module _ (m : Meaning) (sound : Sound m) (n : List ℕ) (is : IsNonce n) where
  -- sixteen bytes for each block
  pub length-stream : (count : ℕ) → count ≤ m.reach n → length (stream m n count) ≡ 16 * count
  unfolding stream
  length-stream zero h = refl
  length-stream (suc k) h =
      let front = length-stream k (omega arith) in
      let last = sound.sixteen n k is h in
      length-append (stream m n k) (m.block n k) ∙ omega arith

  Octets-stream : (count : ℕ) → count ≤ m.reach n → Octets (stream m n count)
  unfolding stream
  Octets-stream zero h i = omega arith
  Octets-stream (suc k) h i = Octets-append (stream m n k) (m.block n k) (Octets-stream k (omega arith)) (sound.octets n k is h) i

  module _ (bits : ℕ) (text : List ℕ) (reaches : begun bits ≤ m.reach n) (long : length text ≡ filled bits) where
    -- the keystream goes as far as the text
    text_within : length text ≤ length (stream m n (begun bits))
    text_within = omega (arith, length-stream (begun bits) reaches, begun_enough bits)

    -- covering keeps the length
    pub length-covered : length (covered m n bits text) ≡ filled bits
    unfolding covered
    length-covered =
        length-cleared bits (sums text (stream m n (begun bits)))
        ∙ length-sums text (stream m n (begun bits)) text_within
        ∙ long

    -- covering twice only clears the spare bits
    pub covered_twice : covered m n bits (covered m n bits text) ≡ cleared bits text
    unfolding covered
    covered_twice =
        let keys = stream m n (begun bits) in
        cleared-sums bits (cleared bits (sums text keys)) keys
        ∙ ap (λ (l : List ℕ). sums l (cleared bits keys)) (cleared_again bits (sums text keys))
        ∙ sym (cleared-sums bits (sums text keys) keys)
        ∙ ap (cleared bits) (sums_again text keys text_within)

    -- another ciphertext as long uncovers to the message plus the difference of the two
    pub covered_other : (other : List ℕ) → length other ≡ filled bits → clear bits other ≡ true
        → covered m n bits other ≡ sums (cleared bits text) (sums (covered m n bits text) other)
    unfolding covered
    covered_other other l c =
        let keys = stream m n (begun bits) in
        let front = length-cleared bits text in
        let back = length-cleared bits keys in
        cleared-sums bits other keys
        ∙ ap (λ (xs : List ℕ). sums xs (cleared bits keys)) ((same_tells (cleared bits other) other).0 c)
        ∙ sym (sums_between (cleared bits text) (cleared bits keys) other (omega arith) (omega (arith, text_within)))
        ∙ ap (λ (xs : List ℕ). sums (cleared bits text) (sums xs other)) (sym (cleared-sums bits text keys))

    -- a ciphertext is bytes
    pub Octets-covered : Octets text → Octets (covered m n bits text)
    unfolding covered
    Octets-covered o =
        let keys = stream m n (begun bits) in
        Octets-cleared bits (sums text keys) (Octets-sums text keys o (Octets-stream (begun bits) reaches))

-- what is covered has clear spare bits
pub clear-covered : (m : Meaning) (n : List ℕ) (bits : ℕ) (text : List ℕ) → clear bits (covered m n bits text) ≡ true
unfolding covered
clear-covered m n bits text = clear-cleared bits (sums text (stream m n (begun bits)))

-- spare bits of a text make no difference
pub covered-cleared : (m : Meaning) (n : List ℕ) (bits : ℕ) (text : List ℕ) → covered m n bits (cleared bits text) ≡ covered m n bits text
unfolding covered
covered-cleared m n bits text =
    let keys = stream m n (begun bits) in
    cleared-sums bits (cleared bits text) keys
    ∙ ap (λ (l : List ℕ). sums l (cleared bits keys)) (cleared_again bits text)
    ∙ sym (cleared-sums bits text keys)
