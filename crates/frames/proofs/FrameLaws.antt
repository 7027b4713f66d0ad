-- A frame taken apart, and parts laid out.
use Rattle.std.proofs.Common.{◌≡◌, ℕ, zero, suc, ◌+◌, ◌^◌, ◌<◌, ◌≤◌, List, [], ◌∷◌, ◌++◌, length, get_or, take, drop, Ok, None, sym, refl, ap, ap₂, ◌∙◌, subst, arith, length-append, length-drop, length-take-le, take-append-drop, take-add, take_at, drop_at, drop-drop}
use Rattle.std.proofs.lemmas.Bool.Decides.{nat_tests}
use Rattle.units.specs.Lengths.{filled}
use Rattle.units.specs.Refusals.{unless}
use Rattle.units.specs.Strings.{Octets, four, four_at, two, two_at}
use Rattle.units.proofs.RefusalLaws.{unless_ok}
use Rattle.units.proofs.StringLaws.{Octets-append, Octets-four, Octets-two, four_again, four_at_small, four_read, two_again, two_read}
use Rattle.frames.specs.Frames.{Parts, Fits, FramesStand, frame_length, head, layout, layout_refusal, parsed, parts}

pub same_parts : (p q : Parts)
    → p.line ≡ q.line
    → p.size ≡ q.size
    → p.count ≡ q.count
    → p.aad_bits ≡ q.aad_bits
    → p.bits ≡ q.bits
    → p.aad ≡ q.aad
    → p.ciphertext ≡ q.ciphertext
    → p.tag ≡ q.tag
    → p ≡ q
same_parts p q a b c d e f g h =
    λ i. record { line = a i; size = b i; count = c i; aad_bits = d i; bits = e i; aad = f i; ciphertext = g i; tag = h i }

-- what holds of bytes with these parts that no test of the layout refuses
pub record Passed (f : List ℕ) (p : Parts) : Type 0 where
  pub head : 12 ≤ length f
  pub first : get_or f 0 0 ≡ 0x54
  pub second : get_or f 1 0 ≡ 0x46
  pub line : p.line ≤ 63
  pub smallest : 4 ≤ p.size
  pub largest : p.size ≤ 16
  pub aad_bits : p.aad_bits ≤ 512
  pub bits : p.bits ≤ 11200
  pub total : length f ≡ frame_length p.size p.aad_bits p.bits

pub passed : (f : List ℕ) → layout_refusal f ≡ None → Passed f (parts f)
passed f accepted =
    record {
      head = grind (arith, nat_tests, accepted);
      first = grind (arith, nat_tests, accepted);
      second = grind (arith, nat_tests, accepted);
      line = grind (arith, nat_tests, accepted);
      smallest = grind (arith, nat_tests, accepted);
      largest = grind (arith, nat_tests, accepted);
      aad_bits = grind (arith, nat_tests, accepted);
      bits = grind (arith, nat_tests, accepted);
      total = grind (arith, nat_tests, accepted);
    }

pub accepted : (f : List ℕ) → Passed f (parts f) → layout_refusal f ≡ None
accepted f h = grind (arith, nat_tests, h)

-- ---- taken apart

-- the parts of bytes that no test refuses fit
pub fits : (f : List ℕ) → four_at f 4 < 2 ^ 32 → Passed f (parts f) → Fits (parts f)
unfolding parts frame_length
fits f small h =
    let a = filled (two_at f 8) in
    let b = filled (two_at f 10) in
    let total : length f ≡ 12 + a + b + get_or f 3 0 = h.total in
    let body : length (drop 12 f) ≡ a + b + get_or f 3 0 = omega (arith, length-drop 12 f) in
    let rest : length (drop a (drop 12 f)) ≡ b + get_or f 3 0 = omega (arith, length-drop a (drop 12 f)) in
    record {
      line = h.line;
      smallest = h.smallest;
      largest = h.largest;
      count = small;
      aad_bits = h.aad_bits;
      bits = h.bits;
      aad = length-take-le a (drop 12 f) (omega arith);
      ciphertext = length-take-le b (drop a (drop 12 f)) (omega arith);
      tag = omega (arith, length-drop b (drop a (drop 12 f)));
    }

first_four : (f : List ℕ) → 4 ≤ length f → take 4 f ≡ get_or f 0 0 ∷ get_or f 1 0 ∷ get_or f 2 0 ∷ get_or f 3 0 ∷ []
first_four [] h = absurd (omega arith)
first_four (a ∷ []) h = absurd (omega arith)
first_four (a ∷ b ∷ []) h = absurd (omega arith)
first_four (a ∷ b ∷ c ∷ []) h = absurd (omega arith)
first_four (a ∷ b ∷ c ∷ d ∷ f) h = refl

-- the bytes before the AAD, read and written again
head_again : (f : List ℕ) → Octets f → Passed f (parts f)
    → head (get_or f 2 0) (get_or f 3 0) (four_at f 4) (two_at f 8) (two_at f 10) ≡ take 12 f
unfolding head
head_again f o h =
    let long : 12 ≤ length f = h.head in
    let mark : 0x54 ∷ 0x46 ∷ get_or f 2 0 ∷ get_or f 3 0 ∷ [] ≡ take 4 f =
    (λ i. sym h.first i ∷ sym h.second i ∷ get_or f 2 0 ∷ get_or f 3 0 ∷ []) ∙ sym (first_four f (omega arith))
    in
    let lengths : two (two_at f 8) ++ two (two_at f 10) ≡ take 4 (drop 8 f) =
    ap₂ (λ (xs ys : List ℕ). xs ++ ys) (two_again f 8 o (omega arith)) (two_again f 10 o (omega arith))
    ∙ ap (λ (ys : List ℕ). take 2 (drop 8 f) ++ take 2 ys) (sym (drop-drop 2 8 f))
    ∙ sym (take-add 2 2 (drop 8 f))
    in
    let rest : four (four_at f 4) ++ (two (two_at f 8) ++ two (two_at f 10)) ≡ take 8 (drop 4 f) =
    ap₂ (λ (xs ys : List ℕ). xs ++ ys) (four_again f 4 o (omega arith)) lengths
    ∙ ap (λ (ys : List ℕ). take 4 (drop 4 f) ++ take 4 ys) (sym (drop-drop 4 4 f))
    ∙ sym (take-add 4 4 (drop 4 f))
    in
    ap₂ (λ (xs ys : List ℕ). xs ++ ys) mark rest ∙ sym (take-add 4 8 f)

-- the parts of a frame, laid out again
layout_again : (f : List ℕ) → Octets f → Passed f (parts f) → layout (parts f) ≡ f
unfolding layout parts
layout_again f o h =
    let a = filled (two_at f 8) in
    let b = filled (two_at f 10) in
    ap₂ (λ (xs ys : List ℕ). xs ++ ys) (head_again f o h)
    (ap (λ (ys : List ℕ). take a (drop 12 f) ++ ys) (take-append-drop b (drop a (drop 12 f)))
    ∙ take-append-drop a (drop 12 f))
    ∙ take-append-drop 12 f

own : (f : List ℕ) (p : Parts) → Octets f → parsed f ≡ Ok p → (layout p ≡ f) × Fits p
own f p o e =
    let told = unless_ok (layout_refusal f) (parts f) p e in
    let h = passed f told.0 in
    (ap layout told.1 ∙ layout_again f o h, subst Fits (sym told.1) (fits f (four_at_small f 4 o) h))

-- what parsing promises of an answer with the parts of bytes that no test refuses
pub taken : (f : List ℕ) (p : Parts) → Octets f → layout_refusal f ≡ None → p ≡ parts f → (Ok p ≡ parsed f) × Fits p
taken f p o accepted e =
    let all = ap₂ unless accepted (sym e) in
    (sym all, (own f p o all).1)

-- ---- laid out

pub length_head : (line size count aad_bits bits : ℕ) → length (head line size count aad_bits bits) ≡ 12
unfolding head four two
length_head line size count aad_bits bits = refl

pub length_layout : (p : Parts) → Fits p → length (layout p) ≡ frame_length p.size p.aad_bits p.bits
unfolding layout frame_length
length_layout p h =
    let front = length_head p.line p.size p.count p.aad_bits p.bits in
    let body = length-append p.aad (p.ciphertext ++ p.tag) in
    let rest = length-append p.ciphertext p.tag in
    length-append (head p.line p.size p.count p.aad_bits p.bits) (p.aad ++ (p.ciphertext ++ p.tag))
    ∙ omega (arith, front, body, rest, h.aad, h.ciphertext, h.tag)

-- parts that are laid out are read again
pub parts_again : (p : Parts) → Fits p → parts (layout p) ≡ p
unfolding parts layout head four two
parts_again p h =
    let f = layout p in
    let mark = 0x54 ∷ 0x46 ∷ p.line ∷ p.size ∷ [] in
    let front = mark ++ four p.count in
    let rest = p.ciphertext ++ p.tag in
    let body = p.aad ++ rest in
    let a = filled p.aad_bits in
    let b = filled p.bits in
    let count : four_at f 4 ≡ p.count = four_read mark (two p.aad_bits ++ (two p.bits ++ body)) p.count h.count in
    let aad_bits : two_at f 8 ≡ p.aad_bits = two_read front (two p.bits ++ body) p.aad_bits (omega (arith, h.aad_bits)) in
    let bits : two_at f 10 ≡ p.bits = two_read (front ++ two p.aad_bits) body p.bits (omega (arith, h.bits)) in
    let after : drop (filled (two_at f 8)) body ≡ rest = ap (λ (n : ℕ). drop (filled n) body) aad_bits ∙ drop_at p.aad rest a h.aad in
    same_parts (parts f) p refl refl count aad_bits bits
    (ap (λ (n : ℕ). take (filled n) body) aad_bits ∙ take_at p.aad rest a h.aad)
    (ap₂ (λ (n : ℕ) (xs : List ℕ). take (filled n) xs) bits after ∙ take_at p.ciphertext p.tag b h.ciphertext)
    (ap₂ (λ (n : ℕ) (xs : List ℕ). drop (filled n) xs) bits after ∙ drop_at p.ciphertext p.tag b h.ciphertext)

passed_again : (p : Parts) → Fits p → Passed (layout p) p
unfolding layout head frame_length
passed_again p h =
    let long = length_layout p h in
    record {
      head = omega arith;
      first = refl;
      second = refl;
      line = h.line;
      smallest = h.smallest;
      largest = h.largest;
      aad_bits = h.aad_bits;
      bits = h.bits;
      total = long;
    }

pub layout_accepted : (p : Parts) → Fits p → layout_refusal (layout p) ≡ None
layout_accepted p h = accepted (layout p) (subst (Passed (layout p)) (sym (parts_again p h)) (passed_again p h))

again : (p : Parts) → Fits p → parsed (layout p) ≡ Ok p
again p h = ap₂ unless (layout_accepted p h) (parts_again p h)

-- no frame is longer than one of the longest AAD, message and tag
longest : (p : Parts) → Fits p → length (layout p) ≤ 1492
unfolding frame_length filled
longest p fits = omega (arith, length_layout p fits, fits.aad_bits, fits.bits, fits.largest)

-- ---- each byte is below 256

pub Octets-head : (line size count aad_bits bits : ℕ) → line < 256 → size < 256
    → Octets (head line size count aad_bits bits)
unfolding head
Octets-head line size count aad_bits bits h g =
    Octets-append (0x54 ∷ 0x46 ∷ line ∷ size ∷ []) (four count ++ (two aad_bits ++ two bits)) mark
    (Octets-append (four count) (two aad_bits ++ two bits) (Octets-four count)
    (Octets-append (two aad_bits) (two bits) (Octets-two aad_bits) (Octets-two bits)))
  where
    mark : Octets (0x54 ∷ 0x46 ∷ line ∷ size ∷ [])
    mark zero = omega arith
    mark (suc zero) = omega arith
    mark (suc (suc zero)) = h
    mark (suc (suc (suc zero))) = g
    mark (suc (suc (suc (suc k)))) = omega arith

pub Octets-layout : (p : Parts) → Fits p → Octets p.aad → Octets p.ciphertext → Octets p.tag → Octets (layout p)
unfolding layout
Octets-layout p h aad ciphertext tag =
    Octets-append (head p.line p.size p.count p.aad_bits p.bits) (p.aad ++ (p.ciphertext ++ p.tag))
    (Octets-head p.line p.size p.count p.aad_bits p.bits (omega (arith, h.line)) (omega (arith, h.largest)))
    (Octets-append p.aad (p.ciphertext ++ p.tag) aad (Octets-append p.ciphertext p.tag ciphertext tag))

pub frames_stand : FramesStand
frames_stand = record { again = again; own = own; long = length_layout; longest = longest; octets = Octets-layout }
