-- Decoding pair by pair, and reading back what is written of bytes.
use Rattle.std.proofs.Common.{◌≡◌, ℕ, zero, suc, ◌+◌, ◌*◌, ◌/◌, ◌%◌, ◌<◌, ◌≤◌, Bool, false, ◌&&◌, is_some, List, [], ◌∷◌, ◌++◌, length, get_or, drop, Some, None, Option, sym, refl, ap, ◌∙◌, append_assoc, append-nil, arith}
use Rattle.std.proofs.lemmas.List.{at_drop_more, at_drop_all}
use Rattle.std.proofs.lemmas.Bool.Decides.{nat_tests}
use Rattle.std.specs.Char.{digit_char}
use Rattle.std.specs.List.{All, list_all}
use Rattle.std.specs.Simd.{first_chunks}
use Rattle.hexadecimal.specs.Hex.{before, byte, decoded, digit, written}

-- the byte that a pair of digits stands for
abbrev pub pair_byte : List ℕ → Option ℕ
pair_byte p = byte (get_or p 0 0) (get_or p 1 0)

-- the bytes that pairs of digits stand for
abbrev pub paired : List (List ℕ) → Option (List ℕ)
paired [] = Some []
paired (p ∷ ps) = before (pair_byte p) (paired ps)

-- bytes after those that are there already
abbrev pub after : List ℕ → Option (List ℕ) → Option (List ℕ)
after bytes (Some more) = Some (bytes ++ more)
after bytes None = None

after_more : (bytes : List ℕ) (b : ℕ) (o : Option (List ℕ)) → after bytes (before (Some b) o) ≡ after (bytes ++ b ∷ []) o
after_more bytes b (Some more) = ap Some (sym (append_assoc bytes (b ∷ []) more))
after_more bytes b None = refl

-- the pairs from the place i on, behind the bytes of those before it
module _ (bytes : List ℕ) (pairs : List (List ℕ)) (i : ℕ) where
  here : (o : Option ℕ) → i < length pairs → pair_byte (get_or pairs i []) ≡ o → after bytes (paired (drop i pairs)) ≡ after bytes (before o (paired (drop (i + 1) pairs)))
  here o h e =
      at_drop_more (λ (l : List (List ℕ)). after bytes (paired l)) pairs i [] h
      ∙ ap (λ (p : Option ℕ). after bytes (before p (paired (drop (i + 1) pairs)))) e

  pub pairs_more : (b : ℕ) → i < length pairs → pair_byte (get_or pairs i []) ≡ Some b → after bytes (paired (drop i pairs)) ≡ after (bytes ++ b ∷ []) (paired (drop (i + 1) pairs))
  pairs_more b h e = here (Some b) h e ∙ after_more bytes b (paired (drop (i + 1) pairs))

  pub pairs_stop : i < length pairs → pair_byte (get_or pairs i []) ≡ None → after bytes (paired (drop i pairs)) ≡ None
  pairs_stop h e = here None h e

  pub pairs_end : length pairs ≤ i → after bytes (paired (drop i pairs)) ≡ Some bytes
  pairs_end h = at_drop_all (λ (l : List (List ℕ)). after bytes (paired l)) pairs i h ∙ ap Some (append-nil bytes)

both : (o : Option ℕ) (more : Option (List ℕ)) → (is_some o && is_some more) ≡ is_some (before o more)
both (Some b) (Some bytes) = refl
both (Some b) None = refl
both None more = refl

-- pairs stand for bytes where each is two digits
pub paired_some : (pairs : List (List ℕ)) → list_all (λ p. is_some (pair_byte p)) pairs ≡ is_some (paired pairs)
paired_some [] = refl
paired_some (p ∷ ps) = ap (λ (b : Bool). is_some (pair_byte p) && b) (paired_some ps) ∙ both (pair_byte p) (paired ps)

pub decoded-pairs : (k : ℕ) (text : List ℕ) → length text ≡ k * 2 → paired (first_chunks 2 k text) ≡ decoded text
decoded-pairs zero [] h = refl
decoded-pairs zero (a ∷ text) h = absurd (omega arith)
decoded-pairs (suc k) [] h = absurd (omega arith)
decoded-pairs (suc k) (a ∷ []) h = absurd (omega arith)
decoded-pairs (suc k) (a ∷ b ∷ text) h = ap (before (byte a b)) (decoded-pairs k text (omega arith))

-- the pairs that a text is cut into, where nothing is left over
pub pairs-decoded : (text : List ℕ) → length text % 2 ≡ 0 → paired (first_chunks 2 (length text / 2) text) ≡ decoded text
pairs-decoded text even = decoded-pairs (length text / 2) text (omega arith)

-- a text of odd length stands for no bytes
pub decoded_odd : (text : List ℕ) → length text % 2 ≡ 1 → decoded text ≡ None
decoded_odd [] h = absurd (omega arith)
decoded_odd (a ∷ []) h = refl
decoded_odd (a ∷ b ∷ text) h = ap (before (byte a b)) (decoded_odd text (omega arith)) ∙ no_more (byte a b)
  where
    no_more : (o : Option ℕ) → before o None ≡ None
    no_more (Some b) = refl
    no_more None = refl

pub none_from_test : (o : Option (List ℕ)) → is_some o ≡ false → o ≡ None
none_from_test (Some bytes) e = grind arith
none_from_test None e = refl

after_none : (o : Option (List ℕ)) → after [] o ≡ o
after_none (Some more) = refl
after_none None = refl

-- where no pair is decoded yet
pub pairs_start : (text : List ℕ) (pairs : List (List ℕ)) → pairs ≡ first_chunks 2 (length text / 2) text → length text % 2 ≡ 0 → after [] (paired pairs) ≡ decoded text
pairs_start text pairs cut even = after_none (paired pairs) ∙ ap paired cut ∙ pairs-decoded text even

digit_read : (d : ℕ) → d < 16 → digit (digit_char d) ≡ Some d
digit_read d h = grind (arith, nat_tests)

byte_read : (b : ℕ) → b < 256 → byte (digit_char (b / 16)) (digit_char (b % 16)) ≡ Some b
byte_read b h =
    let whole : b / 16 * 16 + b % 16 ≡ b = omega arith in
    rw (digit_read (b / 16) (omega arith), digit_read (b % 16) (omega arith)) (ap Some whole)

-- what is written of bytes stands for them
pub decoded_written : (bytes : List ℕ) → All (λ b. b < 256) bytes → decoded (written bytes) ≡ Some bytes
decoded_written [] h = refl
decoded_written (b ∷ bytes) h =
    let first = byte_read b (h 0 0 (omega arith)) in
    let rest = decoded_written bytes (λ k d m. h (suc k) d (omega arith)) in
    rw (first, rest) refl

-- what the proofs of `read` and `decode` rest on
pub ruleset decoding = (pairs_start, pairs_more, pairs_stop, pairs_end, none_from_test, decoded_written)
