-- What sealing writes, and what it comes to.
use Rattle.std.proofs.Common.{◌≡◌, ℕ, ◌+◌, ◌-◌, ◌≤◌, List, [], ◌++◌, length, take, drop, sym, refl, ap, ap₂, ◌∙◌, arith, Some, None, Ok, Option, append_assoc, append-nil, length-append, length-take-le, length-drop, take-append-drop, take_at, drop_at, drop-drop}
use borrow.Rule.Slice.PartMut.{put_mid, same_len_mid}
use Rattle.std.proofs.lemmas.Slice.{between-put_mid}
use Rattle.std.proofs.lemmas.List.{drop_all}
use Rattle.std.proofs.lemmas.Bool.Decides.{nat_tests}
use Rattle.std.specs.Prelude.{slice_range}
use Rattle.units.specs.Lengths.{filled}
use Rattle.units.specs.Spare.{cleared}
use Rattle.units.specs.declared.refusals.Refusal.{Refusal}
use Rattle.units.proofs.SpareLaws.{length-cleared}
use Rattle.generator.specs.Generators.{Meaning}
use Rattle.nonces.specs.declared.Parameters.{Parameters}
use Rattle.cover.specs.Answers.{Written, outcome, written}
use Rattle.cover.specs.Combined.{Covering, both_written, cover_refusal, covering, nca5_cover, too_short_for}
use Rattle.frames.specs.Frames.{head, layout}
use Rattle.link.specs.Answers.{over}
use Rattle.link.specs.Seals.{SealCall, seal_by, seal_outcome, seal_refusal, sealed, sealed_frame, sealed_parts}
use Rattle.link.specs.Settings.{Lawful, line, parameters}
use Rattle.link.specs.declared.settings.Terms.{Terms}

-- ---- parts put into a buffer

-- a part put after a front
put_after : (front rest new : List ℕ) (at long : ℕ)
    → length front ≡ at
    → put_mid at long (front ++ rest) new ≡ front ++ (new ++ drop long rest)
put_after front rest new at long e =
    ap₂ (λ (xs ys : List ℕ). xs ++ (new ++ drop long ys)) (take_at front rest at e) (drop_at front rest at e)

-- what a frame has around its ciphertext, put into a buffer: the head before `text`, AAD between 12 and `text` and then cleared,
-- and the tag from `end` on
module _ (head aad : List ℕ) (bits : ℕ) (tag frame : List ℕ)
    (of_head : length head ≡ 12)
    (room : 12 + length aad + length tag ≤ length frame)
  where
    abbrev text : ℕ
    text = 12 + length aad

    abbrev end : ℕ
    end = length frame - length tag

    -- AAD after the head
    aad_put : put_mid 12 (text - 12) (head ++ drop 12 frame) aad ≡ head ++ (aad ++ drop text frame)
    aad_put =
        put_after head (drop 12 frame) aad 12 (text - 12) of_head
        ∙ ap (λ (ys : List ℕ). head ++ (aad ++ ys)) (drop-drop (text - 12) 12 frame)
        ∙ ap (λ (n : ℕ). head ++ (aad ++ drop n frame)) (omega arith)

    aad_there : take (text - 12) (drop 12 (head ++ (aad ++ drop text frame))) ≡ aad
    aad_there =
        ap (take (text - 12)) (drop_at head (aad ++ drop text frame) 12 of_head)
        ∙ take_at aad (drop text frame) (text - 12) (omega arith)

    -- the same with its spare bits cleared
    clear_put : put_mid 12 (text - 12) (head ++ (aad ++ drop text frame)) (cleared bits aad) ≡ head ++ (cleared bits aad ++ drop text frame)
    clear_put =
        put_after head (aad ++ drop text frame) (cleared bits aad) 12 (text - 12) of_head
        ∙ ap (λ (ys : List ℕ). head ++ (cleared bits aad ++ ys)) (drop_at aad (drop text frame) (text - 12) (omega arith))

    -- what stood before the tag
    abbrev front : List ℕ
    front = head ++ (cleared bits aad ++ slice_range frame text end)

    front_is : head ++ (cleared bits aad ++ drop text frame) ≡ front ++ drop end frame
    front_is =
        let rest : drop text frame ≡ slice_range frame text end ++ drop end frame =
        sym (take-append-drop (end - text) (drop text frame))
        ∙ ap (λ (ys : List ℕ). slice_range frame text end ++ ys) (drop-drop (end - text) text frame)
        ∙ ap (λ (n : ℕ). slice_range frame text end ++ drop n frame) (omega arith)
        in
        ap (λ (ys : List ℕ). head ++ (cleared bits aad ++ ys)) rest ∙ simp append_assoc

    length_front : length front ≡ end
    length_front =
        let middle = slice_range frame text end in
        let n = length-take-le (end - text) (drop text frame) (omega (arith, length-drop text frame)) in
        length-append head (cleared bits aad ++ middle)
        ∙ omega (arith, length-append (cleared bits aad) middle, length-cleared bits aad)

    tag_put : (k : ℕ) → k ≡ length (front ++ drop end frame) - end → put_mid end k (front ++ drop end frame) tag ≡ front ++ tag
    tag_put k e =
        let rest : drop k (drop end frame) ≡ [] =
        drop_all k (drop end frame) (omega (arith, length-append front (drop end frame), length_front))
        in
        put_after front (drop end frame) tag end k length_front
        ∙ ap (λ (ys : List ℕ). front ++ (tag ++ ys)) rest
        ∙ simp append-nil

    -- all three, each as a call wrote it
    pub put_around :
        (head' aad' clear' tag' : List ℕ)
        → head' ≡ head
        → aad' ≡ aad
        → clear' ≡ cleared bits (take (text - 12) (drop 12 (put_mid 12 (text - 12) (head' ++ drop 12 frame) aad')))
        → tag' ≡ tag
        → put_mid end (length (put_mid 12 (text - 12) (put_mid 12 (text - 12) (head' ++ drop 12 frame) aad') clear') - end)
        (put_mid 12 (text - 12) (put_mid 12 (text - 12) (head' ++ drop 12 frame) aad') clear')
        tag'
        ≡ head ++ (cleared bits aad ++ (slice_range frame text end ++ tag))
    put_around head' aad' clear' tag' h a c t =
        let one : put_mid 12 (text - 12) (head' ++ drop 12 frame) aad' ≡ head ++ (aad ++ drop text frame) =
        (λ i. put_mid 12 (text - 12) (h i ++ drop 12 frame) (a i)) ∙ aad_put
        in
        let there : take (text - 12) (drop 12 (put_mid 12 (text - 12) (head' ++ drop 12 frame) aad')) ≡ aad =
        ap (λ (ys : List ℕ). take (text - 12) (drop 12 ys)) one ∙ aad_there
        in
        let clear : clear' ≡ cleared bits aad = c ∙ ap (cleared bits) there in
        let two : put_mid 12 (text - 12) (put_mid 12 (text - 12) (head' ++ drop 12 frame) aad') clear' ≡ front ++ drop end frame =
        (λ i. put_mid 12 (text - 12) (one i) (clear i)) ∙ clear_put ∙ front_is
        in
        (λ i. put_mid end (length (two i) - end) (two i) (t i))
        ∙ tag_put (length (front ++ drop end frame) - end) refl
        ∙ simp append_assoc

-- ---- what the cover answered

-- ciphertext and tag were written, so nothing was refused
pub record Covered (o : Option Refusal) (text code text' code' : List ℕ) : Type 0 where
  pub none : o ≡ None
  pub ciphertext : text' ≡ text
  pub tag : code' ≡ code

pub covered_ok : (o : Option Refusal) (before before' ciphertext tag ciphertext' tag' : List ℕ)
    → covering (Ok tt) ciphertext' tag' ≡ both_written o before before' ciphertext tag
    → Covered o ciphertext tag ciphertext' tag'
covered_ok None before before' ciphertext tag ciphertext' tag' e =
    record { none = refl; ciphertext = ap (λ (v : Covering). v.ciphertext) e; tag = ap (λ (v : Covering). v.tag) e }
covered_ok (Some r) before before' ciphertext tag ciphertext' tag' e = absurd (let a = ap (λ (v : Covering). v.answer) e in cc)

-- the cover refuses nothing but a reach that is too short
pub cover_is : (m : Meaning) (s : Terms) (count aad_bits : ℕ) (aad : List ℕ) (bits : ℕ) (message ciphertext tag : List ℕ)
    → Lawful s
    → length aad ≡ filled aad_bits
    → length message ≡ filled bits
    → length ciphertext ≡ filled bits
    → length tag ≡ s.tag_size
    → cover_refusal m 64 (parameters s count) s.tag_size aad_bits aad bits message ciphertext tag
    ≡ too_short_for m (parameters s count) s.tag_size bits
cover_is m s count aad_bits aad bits message ciphertext tag lawful a b c d = grind (arith, nat_tests)

-- the ciphertext is still there: between AAD and tag
pub text_there : (text end : ℕ) (frame ciphertext tag : List ℕ)
    → text ≤ end
    → length frame ≡ end + length tag
    → length ciphertext ≡ length (take (end - text) (drop text frame))
    → slice_range (put_mid text (end - text) frame ciphertext) text (length (put_mid text (end - text) frame ciphertext) - length tag)
    ≡ ciphertext
text_there text end frame ciphertext tag ordered long same =
    let part = length-take-le (end - text) (drop text frame) (omega (arith, length-drop text frame)) in
    let whole = same_len_mid text (end - text) frame ciphertext same in
    let end_is : end ≡ length (put_mid text (end - text) frame ciphertext) - length tag = omega arith in
    rw (← end_is) (between-put_mid text (end - text) frame ciphertext end (omega arith) (omega arith))

-- so what the three writers left is the frame
pub frame_written :
    (m : Meaning) (s : Terms) (count : ℕ) (c : SealCall) (before : List ℕ)
    (work : ℕ) (p : Parameters) (old old' ciphertext tag start middle frame : List ℕ)
    → Lawful s
    → length c.aad ≡ filled c.aad_bits
    → length c.message ≡ filled c.bits
    → length old ≡ filled c.bits
    → length old' ≡ s.tag_size
    → work ≡ 64
    → p ≡ parameters s count
    → covering (Ok tt) ciphertext tag ≡ nca5_cover m work p s.tag_size c.aad_bits c.aad c.bits c.message old old'
    → start ≡ head (line s) s.tag_size count c.aad_bits c.bits
    → middle ≡ ciphertext
    → frame ≡ start ++ (cleared c.aad_bits c.aad ++ (middle ++ tag))
    → outcome (Ok tt) frame ≡ written (too_short_for m (parameters s count) s.tag_size c.bits) before (sealed_frame m s count c)
unfolding sealed_parts layout
frame_written m s count c before work p old old' ciphertext tag start middle frame lawful aad message long size w e covered first there whole =
    let q = parameters s count in
    let told = covered ∙ (λ i. nca5_cover m (w i) (e i) s.tag_size c.aad_bits c.aad c.bits c.message old old') in
    let v = covered_ok (cover_refusal m 64 q s.tag_size c.aad_bits c.aad c.bits c.message old old') old old' _ _ ciphertext tag told in
    let none : too_short_for m q s.tag_size c.bits ≡ None =
    sym (cover_is m s count c.aad_bits c.aad c.bits c.message old old' lawful aad message long size) ∙ v.none
    in
    let text = there ∙ v.ciphertext in
    ap (outcome (Ok tt)) (whole ∙ (λ i. first i ++ (cleared c.aad_bits c.aad ++ (text i ++ v.tag i))))
    ∙ sym (ap (λ (o : Option Refusal). written o before (sealed_frame m s count c)) none)

-- ---- what a seal comes to

-- something was written, so nothing was refused
pub written_ok : (o : Option Refusal) (before after frame : List ℕ)
    → outcome (Ok tt) frame ≡ written o before after
    → (o ≡ None) × (frame ≡ after)
written_ok None before after frame e = (refl, ap (λ (v : Written). v.output) e)
written_ok (Some r) before after frame e = absurd (let a = ap (λ (v : Written). v.answer) e in cc)

-- a seal that is not refused, where a frame was written over the first bytes of the buffer
pub sealed_over : (m : Meaning) (s : Terms) (next : ℕ) (c : SealCall) (total : ℕ) (frame : List ℕ)
    → seal_refusal m s next c ≡ None
    → frame ≡ sealed_frame m s next c
    → length frame ≡ total
    → sealed m s next c ≡ seal_outcome (Ok (record { 0 = total })) (frame ++ drop total c.buffer) (next + 1)
unfolding over
sealed_over m s next c total frame accepted is long =
    let size : total ≡ length (sealed_frame m s next c) = sym long ∙ ap length is in
    ap (λ (o : Option Refusal). seal_by o m s next c) accepted
    ∙ sym (λ i. seal_outcome (Ok (record { 0 = size i })) (is i ++ drop (size i) c.buffer) (next + 1))
