-- Key texts, read two digits at a time.
use Rattle.std.proofs.Common.{◌≡◌, ℕ, zero, suc, ◌+◌, ◌*◌, ◌/◌, ◌%◌, ◌<◌, ◌≤◌, List, [], ◌∷◌, ◌++◌, length, take, set, Some, None, Ok, Err, Option, Result, sym, refl, ap, ap₂, ◌∙◌, append_assoc, append-nil, length-append, length-set, arith}
use Rattle.std.specs.Char.{digit_char}
use Rattle.std.specs.List.{prefix_len, slice_get}
use Rattle.std.specs.Option.{MatchOption, unwrap_or}
use Rattle.std.specs.Str.{IsAscii, IsUtf8, chars}
use Rattle.std.specs.Str.Iter.{chars_rest, chars_steps}
use Rattle.std.specs.declared.str.Chars.{Chars}
use Rattle.std.proofs.lemmas.Bool.Decides.{nat_tests}
use Rattle.std.proofs.lemmas.List.{take_more_set, take_all}
use Rattle.std.proofs.lemmas.List.Folds.{prefix_len-append}
use Rattle.std.proofs.lemmas.List.Sums.{prefix_len-le-length}
use Rattle.std.proofs.lemmas.Str.{IsUtf8-past_char, chars-IsAscii, chars_past_char, encodes-IsAscii, encodes-chars}
use Rattle.units.specs.Strings.{Octets}
use Rattle.units.specs.declared.refusals.Refusal.{Refusal}
use Rattle.generator.specs.Keys.{OwnText, bytes_of, digit, faulty, good, is_digit, key_of, key_read, key_text}
use Rattle.generator.specs.declared.keys.Key.{Key}

-- ---- one character

-- the value of the next character, if it is a digit
abbrev pub first_digit : List ℕ → Option ℕ
first_digit [] = None
first_digit (c ∷ cs) = digit c

-- the next character is a digit, and these come after it
pub record Digit (cs : List ℕ) (value : ℕ) (rest : List ℕ) : Type 0 where
  pub code : ℕ
  pub there : cs ≡ code ∷ rest
  pub is : digit code ≡ Some value

-- what the code makes of the next character
abbrev pub Told : Option ℕ → Option ℕ → Type 0
Told r d = MatchOption r (d ≡ None) (λ c. d ≡ digit c)

pub told_first : (s t : Chars) (r d : Option ℕ) → chars_steps s r t → Told r d → d ≡ first_digit (chars (chars_rest s))
told_first s t r d step told = go (chars (chars_rest s)) r step.2 told
  where
    go : (cs : List ℕ) (r : Option ℕ) → r ≡ slice_get cs 0 → Told r d → d ≡ first_digit cs
    go [] None e m = m
    go [] (Some c) e m = absurd cc
    go (c ∷ cs) None e m = absurd cc
    go (c ∷ cs) (Some b) e m = let same : b ≡ c = cc in m ∙ ap digit same

pub told_digit :
    (s t : Chars) (r d : Option ℕ) (v : ℕ) → IsUtf8 (chars_rest s) → chars_steps s r t → Told r d → d ≡ Some v
    → record { digit : Digit (chars (chars_rest s)) v (chars (chars_rest t)); utf8 : IsUtf8 (chars_rest t) }
told_digit s t None d v u step told e = absurd cc
told_digit s t (Some c) d v u step told e =
    record {
      digit = record { code = c; there = chars_past_char (chars_rest s) (chars_rest t) c u step.0; is = sym told ∙ e };
      utf8 = IsUtf8-past_char (chars_rest s) (chars_rest t) c u step.0;
    }

-- ---- the characters of a text

-- k bytes have been read, and `left` are the characters after theirs
pub record Read (cs left : List ℕ) (k : ℕ) (key : List ℕ) : Type 0 where
  pub front : List ℕ
  pub parts : cs ≡ front ++ left
  pub long : length front ≡ 2 * k
  pub digits : prefix_len is_digit front ≡ length front
  pub bytes : bytes_of front ≡ take k key
  pub size : length key ≡ 32

-- digits before others
prefix_len-digits : (front left : List ℕ) → prefix_len is_digit front ≡ length front → prefix_len is_digit (front ++ left) ≡ length front + prefix_len is_digit left
prefix_len-digits front left d = grind (arith, nat_tests, prefix_len-append is_digit front left)

no_digit : (left : List ℕ) → first_digit left ≡ None → prefix_len is_digit left ≡ 0
no_digit [] e = refl
no_digit (c ∷ cs) e = grind arith

one_digit : (c v : ℕ) (cs : List ℕ) → digit c ≡ Some v → prefix_len is_digit (c ∷ cs) ≡ 1 + prefix_len is_digit cs
one_digit c v cs e = grind arith

-- fewer than 64 digits at the front
faulty_early : (cs : List ℕ) (k : ℕ) → prefix_len is_digit cs ≡ k → k < 64 → Err (faulty k) ≡ key_of cs
faulty_early cs k e h = grind (arith, nat_tests)

pub high_faulty : (cs left : List ℕ) (k : ℕ) (key : List ℕ) → Read cs left k key → k < 32 → None ≡ first_digit left → Err (faulty (2 * k)) ≡ key_of cs
high_faulty cs left k key r h e =
    let count = prefix_len-digits r.front left r.digits in
    let none = no_digit left (sym e) in
    faulty_early cs (2 * k) (ap (prefix_len is_digit) r.parts ∙ omega (arith, r.long)) (omega arith)

pub low_faulty :
    (cs left : List ℕ) (k : ℕ) (key : List ℕ) (v : ℕ) (rest : List ℕ) → Read cs left k key → k < 32 → Digit left v rest → None ≡ first_digit rest
    → Err (faulty (2 * k + 1)) ≡ key_of cs
low_faulty cs left k key v rest r h d e =
    let count = prefix_len-digits r.front left r.digits in
    let one = ap (prefix_len is_digit) d.there ∙ one_digit d.code v rest d.is in
    let none = no_digit rest (sym e) in
    faulty_early cs (2 * k + 1) (ap (prefix_len is_digit) r.parts ∙ omega (arith, r.long)) (omega arith)

bytes_of-push : (k : ℕ) (front : List ℕ) (a b : ℕ) → length front ≡ 2 * k → bytes_of (front ++ a ∷ b ∷ []) ≡ bytes_of front ++ bytes_of (a ∷ b ∷ [])
bytes_of-push zero [] a b e = refl
bytes_of-push zero (x ∷ front) a b e = absurd (omega arith)
bytes_of-push (suc k) [] a b e = absurd (omega arith)
bytes_of-push (suc k) (x ∷ []) a b e = absurd (omega arith)
bytes_of-push (suc k) (x ∷ y ∷ front) a b e = ap (λ (l : List ℕ). (16 * unwrap_or (digit x) 0 + unwrap_or (digit y) 0) ∷ l) (bytes_of-push k front a b (omega arith))

pub read_more :
    (cs left : List ℕ) (k : ℕ) (key : List ℕ) (high low : ℕ) (middle rest : List ℕ)
    → Read cs left k key → k < 32 → Digit left high middle → Digit middle low rest
    → Read cs rest (k + 1) (set key k (16 * high + low))
read_more cs left k key high low middle rest r h a b =
    let pair = a.code ∷ b.code ∷ [] in
    let fits : k < length key = omega (arith, r.size) in
    record {
      front = r.front ++ pair;
      parts = r.parts ∙ ap (λ (l : List ℕ). r.front ++ l) (a.there ∙ ap (λ (l : List ℕ). a.code ∷ l) b.there) ∙ sym (append_assoc r.front pair rest);
      long = length-append r.front pair ∙ omega (arith, r.long);
      digits = prefix_len-digits r.front pair r.digits ∙ ap (λ (n : ℕ). length r.front + n) (grind (arith, a.is, b.is)) ∙ sym (length-append r.front pair);
      bytes = bytes_of-push k r.front a.code b.code r.long ∙ ap₂ (λ (l m : List ℕ). l ++ m) r.bytes (rw (a.is, b.is) refl) ∙ sym (take_more_set key k (16 * high + low) fits);
      size = length-set key k (16 * high + low) ∙ r.size;
    }

-- ---- the end of a text

pub told_end : (s t : Chars) → chars_steps s None t → chars (chars_rest s) ≡ []
told_end s t step = go (chars (chars_rest s)) step.2
  where
    go : (cs : List ℕ) → None ≡ slice_get cs 0 → cs ≡ []
    go [] e = refl
    go (c ∷ cs) e = absurd cc

pub told_more : (s t : Chars) (c : ℕ) → chars_steps s (Some c) t → 0 < length (chars (chars_rest s))
told_more s t c step = go (chars (chars_rest s)) step.2
  where
    go : (cs : List ℕ) → Some c ≡ slice_get cs 0 → 0 < length cs
    go [] e = absurd cc
    go (b ∷ cs) e = omega arith

-- 64 digits and then nothing
pub read_all : (cs left key : List ℕ) (k : ℕ) → Read cs left k key → 32 ≤ k → k ≤ 32 → left ≡ [] → Ok (record { 0 = key }) ≡ key_of cs
read_all cs left key k r h h' e =
    let whole : cs ≡ r.front = r.parts ∙ ap (λ (l : List ℕ). r.front ++ l) e ∙ append-nil r.front in
    let long : length r.front ≡ 64 = omega (arith, r.long) in
    let digits : prefix_len is_digit r.front ≡ 64 = r.digits ∙ long in
    let bytes : bytes_of r.front ≡ key = r.bytes ∙ take_all k key (omega (arith, r.size)) in
    rw (whole) (grind (arith, nat_tests))

-- 64 digits and then more
pub read_longer : (cs left key : List ℕ) (k : ℕ) → Read cs left k key → 32 ≤ k → k ≤ 32 → 0 < length left → Err (faulty 64) ≡ key_of cs
read_longer cs left key k r h h' e =
    let count = ap (prefix_len is_digit) r.parts ∙ prefix_len-digits r.front left r.digits in
    let long = ap length r.parts ∙ length-append r.front left in
    let front = r.long in
    let test : good cs ≡ 64 = omega arith in
    let more : 64 < length cs = omega arith in
    grind (arith, nat_tests)

-- ---- the text of a key

digit-digit_char : (d : ℕ) → d < 16 → digit (digit_char d) ≡ Some d
digit-digit_char d h = grind (arith, nat_tests)

digit_char_ascii : (d : ℕ) → d < 16 → digit_char d < 128
digit_char_ascii d h = grind (arith, nat_tests)

-- what holds of the text of bytes
record KeyText (bytes text : List ℕ) : Type 0 where
  long : length text ≡ 2 * length bytes
  digits : prefix_len is_digit text ≡ 2 * length bytes
  back : bytes_of text ≡ bytes
  ascii : IsAscii text

IsAscii-cons : (b : ℕ) (bs : List ℕ) → b < 128 → IsAscii bs → IsAscii (b ∷ bs)
IsAscii-cons b bs h a zero = h
IsAscii-cons b bs h a (suc k) = a k

KeyText-written : (bytes : List ℕ) → Octets bytes → KeyText bytes (key_text bytes)
KeyText-written [] o = record { long = refl; digits = refl; back = refl; ascii = λ k. omega arith }
KeyText-written (b ∷ bytes) o =
    let small = o 0 in
    let rest = KeyText-written bytes (λ k. o (suc k)) in
    let high = digit-digit_char (b / 16) (omega arith) in
    let low = digit-digit_char (b % 16) (omega arith) in
    let byte : 16 * (b / 16) + b % 16 ≡ b = omega arith in
    record {
      long = omega (arith, rest.long);
      digits = rw (high, low, rest.digits) (omega arith);
      back = rw (high, low, byte, rest.back) refl;
      ascii = IsAscii-cons (digit_char (b / 16)) (digit_char (b % 16) ∷ key_text bytes) (digit_char_ascii (b / 16) (omega arith))
          (IsAscii-cons (digit_char (b % 16)) (key_text bytes) (digit_char_ascii (b % 16) (omega arith)) rest.ascii);
    }

key_of_text : (bytes : List ℕ) → length bytes ≡ 32 → Octets bytes → key_of (key_text bytes) ≡ Ok (record { 0 = bytes })
key_of_text bytes size o =
    let t = KeyText-written bytes o in
    let long : length (key_text bytes) ≡ 64 = omega (arith, t.long) in
    let digits : prefix_len is_digit (key_text bytes) ≡ 64 = omega (arith, t.digits) in
    let back = t.back in
    grind (arith, nat_tests)

-- a character that is a digit is how its value is written
record Back (c v : ℕ) : Type 0 where
  char : digit_char v ≡ c
  small : v < 16
  ascii : c < 128

digit_back : (c v : ℕ) → digit c ≡ Some v → Back c v
digit_back c v e = record { char = grind (arith, nat_tests); small = grind (arith, nat_tests); ascii = grind (arith, nat_tests) }

-- the first of so many digits
record FirstOf (c : ℕ) (cs : List ℕ) : Type 0 where
  value : ℕ
  is : digit c ≡ Some value
  digits : prefix_len is_digit cs ≡ length cs

first_of : (c : ℕ) (cs : List ℕ) → prefix_len is_digit (c ∷ cs) ≡ suc (length cs) → FirstOf c cs
first_of c cs e = go (digit c) refl
  where
    go : (d : Option ℕ) → digit c ≡ d → FirstOf c cs
    go (Some v) is = let one = one_digit c v cs is in record { value = v; is = is; digits = omega arith }
    go None is = absurd (grind arith)

-- digits are the text of their bytes
record Own (cs : List ℕ) : Type 0 where
  text : key_text (bytes_of cs) ≡ cs
  ascii : IsAscii cs

own_of : (k : ℕ) (cs : List ℕ) → length cs ≡ 2 * k → prefix_len is_digit cs ≡ length cs → Own cs
own_of zero [] e d = record { text = refl; ascii = λ k. omega arith }
own_of zero (a ∷ cs) e d = absurd (omega arith)
own_of (suc k) [] e d = absurd (omega arith)
own_of (suc k) (a ∷ []) e d = absurd (omega arith)
own_of (suc k) (a ∷ b ∷ cs) e d =
    let high = first_of a (b ∷ cs) d in
    let low = first_of b cs high.digits in
    let first = digit_back a high.value high.is in
    let second = digit_back b low.value low.is in
    let rest = own_of k cs (omega arith) low.digits in
    let small = second.small in
    let left : (16 * high.value + low.value) / 16 ≡ high.value = omega arith in
    let right : (16 * high.value + low.value) % 16 ≡ low.value = omega arith in
    record {
      text = rw (high.is, low.is, left, right, first.char, second.char, rest.text) refl;
      ascii = IsAscii-cons a (b ∷ cs) first.ascii (IsAscii-cons b cs second.ascii rest.ascii);
    }

own_key : (text : List ℕ) (key : Key) → IsUtf8 text → key_read text ≡ Ok key → text ≡ key_text key.0
own_key text key u e =
    let cs = chars text in
    let long : length cs ≡ 64 = grind (arith, nat_tests) in
    let some : good cs ≡ 64 = grind (arith, nat_tests) in
    let bytes : key.0 ≡ bytes_of cs = grind (arith, nat_tests) in
    let most = prefix_len-le-length is_digit cs in
    let own = own_of 32 cs long (omega arith) in
    sym (encodes-chars text u) ∙ encodes-IsAscii cs own.ascii ∙ sym own.text ∙ ap key_text (sym bytes)

-- what `from_text` promises of an answer that is what was read
pub told : (text : List ℕ) (answer : Result Key Refusal) → IsUtf8 text → answer ≡ key_read text → record { value : answer ≡ key_read text; own : OwnText text answer }
told text answer u e =
    record {
      value = e;
      own = record {
        read = λ bytes size o is.
            e ∙ ap key_read is ∙ ap key_of (chars-IsAscii (key_text bytes) (KeyText-written bytes o).ascii) ∙ key_of_text bytes size o;
        own = λ key got. own_key text key u (sym e ∙ got);
      };
    }
