-- What decides an open whose frame is well formed: whether its count is still open, and its tag.
use Rattle.std.proofs.Common.{◌≡◌, ◌↔◌, ℕ, ◌≤◌, true, List, [], ◌∷◌, ◌++◌, length, take, drop, Ok, None, Option, sym, refl, ap, ◌∙◌, subst, arith}
use Rattle.std.proofs.lemmas.Bool.Decides.{nat_tests}
use Rattle.units.specs.Lengths.{begun, filled}
use Rattle.units.specs.Refusals.{unless}
use Rattle.units.specs.Spare.{clear, cleared}
use Rattle.units.specs.Strings.{Octets, same}
use Rattle.units.specs.Sums.{sums}
use Rattle.units.proofs.SpareLaws.{Octets-cleared, length-cleared}
use Rattle.units.proofs.StringLaws.{Octets-drop, Octets-take, same_tells}
use Rattle.units.proofs.SumLaws.{sums_unlike}
use Rattle.units.specs.declared.lengths.Bytes.{Bytes}
use Rattle.units.specs.declared.refusals.Refusal.{Refusal}
use Rattle.generator.specs.Generators.{Meaning, Sound}
use Rattle.nonces.specs.declared.Parameters.{Parameters}
use Rattle.cover.specs.Combined.{ciphertext_of, instance_nonce, stream_nonce, tag_of}
use Rattle.cover.specs.Laws.{CoverLaws, Coverable}
use Rattle.cover.specs.Tags.{field_value, tag_under}
use Rattle.windows.specs.Windows.{StillOpen, count_refusal, marked, new_window}
use Rattle.windows.specs.declared.Window.{Window}
use Rattle.frames.specs.Frames.{Fits, FramesStand, Parts, layout_refusal, parts}
use Rattle.link.specs.Answers.{over}
use Rattle.link.specs.Opens.{OpenCall, WellFormed, open_by, open_refusal, opened_as, opened_message}
use Rattle.link.specs.Seals.{SealCall, sealed_parts}
use Rattle.link.specs.Settings.{Lawful, parameters}
use Rattle.link.specs.declared.receiving.Opened.{Opened}
use Rattle.link.specs.declared.settings.Terms.{Terms}
use Rattle.replay.specs.Layers.{Layers}
use Rattle.replay.specs.Runs.{Event, OpenEvent, SealEvent, opening, sealing}
use Rattle.replay.specs.Laws.{Accepted, Alike, Decided, Offers, TagsAgree, Tells, counts_opened}
use Rattle.replay.proofs.Follows.{AllAsked, Follows}
use Rattle.replay.proofs.JournalLaws.{OpenedAfter, asked_in, opened_in, sealed_in}
use Rattle.replay.proofs.OnceLaws.{admitted}
use Rattle.replay.proofs.SealedLaws.{Made, SealPassed, coverable, made, made_parts, seal_passed, stream_is, take-over}

-- ---- a well-formed frame

pub record Formed (s : Terms) (p : Parts) : Type 0 where
  pub fits : Fits p
  pub size : p.size ≡ s.tag_size
  pub clear : clear p.bits p.ciphertext ≡ true

pub formed : FramesStand → (s : Terms) (f : List ℕ) → Octets f → WellFormed s f → Formed s (parts f)
formed frames s f o e =
    let whole : layout_refusal f ≡ None = grind (arith, nat_tests, e) in
    record {
      fits = (frames.own f (parts f) o (ap (λ (r : Option Refusal). unless r (parts f)) whole)).1;
      size = grind (arith, nat_tests, e);
      clear = grind (arith, nat_tests, e);
    }

Octets-aad : (f : List ℕ) → Octets f → Octets (parts f).aad
unfolding parts
Octets-aad f o = Octets-take (drop 12 f) (filled (parts f).aad_bits) (Octets-drop f 12 o)

Octets-ciphertext : (f : List ℕ) → Octets f → Octets (parts f).ciphertext
unfolding parts
Octets-ciphertext f o =
    let a = filled (parts f).aad_bits in
    Octets-take (drop a (drop 12 f)) (filled (parts f).bits) (Octets-drop (drop 12 f) a (Octets-drop f 12 o))

-- ---- an open

-- the keystream reaches for a message of so many bits
pub record Reached (m : Meaning) (s : Terms) (count bits : ℕ) : Type 0 where
  pub keys : 3 ≤ m.reach (instance_nonce s.tag_size (parameters s count))
  pub stream : begun bits ≤ m.reach (stream_nonce s.tag_size (parameters s count))

-- the tag of what a frame carries
abbrev pub right_tag : Meaning → Terms → Parts → List ℕ
right_tag m s p = tag_of m (parameters s p.count) s.tag_size p.aad_bits p.aad p.bits p.ciphertext

-- the count and the tag are tested last
tests_pass : (m : Meaning) (s : Terms) (w : Window) (c : OpenCall)
    → Offers s c
    → Reached m s (parts c.frame).count (parts c.frame).bits
    → (count_refusal w (parts c.frame).count ≡ None) × ((parts c.frame).tag ≡ right_tag m s (parts c.frame))
    → open_refusal m s w c ≡ None
tests_pass m s w c offers reached right =
    let p = parts c.frame in
    let test : same p.tag (right_tag m s p) ≡ true = (same_tells p.tag (right_tag m s p)).1 right.1 in
    grind (arith, nat_tests, offers.work, offers.room, offers.formed, reached.keys, reached.stream, right.0, test)

tests_passed : (m : Meaning) (s : Terms) (w : Window) (c : OpenCall)
    → open_refusal m s w c ≡ None
    → (count_refusal w (parts c.frame).count ≡ None) × ((parts c.frame).tag ≡ right_tag m s (parts c.frame))
tests_passed m s w c accepted =
    let p = parts c.frame in
    let test : same p.tag (right_tag m s p) ≡ true = grind (arith, nat_tests, accepted) in
    (grind (arith, nat_tests, accepted), (same_tells p.tag (right_tag m s p)).0 test)

module _ (layers : Layers) (m : Meaning) (s : Terms) (first : ℕ) (done : List ℕ) (o : OpenEvent) (is : OpenedAfter m s first done o) where
  abbrev b : Parts
  b = parts o.asked.frame

  abbrev window : Window
  window = marked (new_window first) done

  passed_all : Accepted o → open_refusal m s window o.asked ≡ None
  passed_all a = (admitted m s window o a.0 is a.1).accepted

  accepted_all : open_refusal m s window o.asked ≡ None → Accepted o
  accepted_all e =
      (opened_as b, ap (λ (x : OpenEvent). x.answer) is ∙ ap (λ (r : Option Refusal). (open_by r m s window o.asked).answer) e)

  -- where the keystream reaches, it is accepted exactly where its count is open and its tag is right
  pub accepted_right : Offers s o.asked → Reached m s b.count b.bits
      → Accepted o ↔ (StillOpen first done b.count × (b.tag ≡ right_tag m s b))
  accepted_right offers reached =
      let judged = layers.windows.judged first done b.count in
      let still = layers.windows.still first done b.count in (
        λ a.
            let p = tests_passed m s window o.asked (passed_all a) in
            (still.0 (sym judged ∙ p.0), p.1),
        λ h. accepted_all (tests_pass m s window o.asked offers reached (judged ∙ still.1 h.0, h.1)),
      )

  -- it answers the numbers of the frame
  pub numbers_told : (x : Opened) → o.answer ≡ Ok x → x ≡ opened_as b
  numbers_told x ok = (admitted m s window o x is ok).answer

  -- what then lies at the start of its buffer
  pub message_told : Sound m → Lawful s → Reached m s b.count b.bits → Fits b → Accepted o → take (filled b.bits) o.buffer ≡ opened_message m s b
  message_told sound lawful reached fits a =
      let message = opened_message m s b in
      let long : length message ≡ filled b.bits =
      layers.cover.covered.long m (stream_nonce s.tag_size (parameters s b.count)) b.bits b.ciphertext
      (record { sound = sound; nonce = stream_is layers s b.count lawful; enough = reached.stream; long = fits.ciphertext })
      in
      ap (λ (x : OpenEvent). take (filled b.bits) x.buffer) is
      ∙ ap (λ (r : Option Refusal). take (filled b.bits) (open_by r m s window o.asked).buffer) (passed_all a)
      ∙ ap (λ (n : ℕ). take n (over message o.asked.buffer)) (sym long)
      ∙ take-over message o.asked.buffer

-- ---- a sealed frame, and one that is offered

-- what is offered as a second tag is right exactly where its sum with the first is the field value of the difference
sum_tells :
    CoverLaws → (m : Meaning) (n : List ℕ) (t aad_bits : ℕ) (aad aad' : List ℕ) (bits : ℕ) (ciphertext ciphertext' offered : List ℕ)
    → t ≤ 16
    → length offered ≡ t
    → length aad ≡ length aad'
    → length ciphertext ≡ length ciphertext'
    → Octets aad
    → Octets aad'
    → Octets ciphertext
    → Octets ciphertext'
    → offered ≡ tag_under m n t aad_bits aad' bits ciphertext'
    ↔ (sums (tag_under m n t aad_bits aad bits ciphertext) offered ≡ field_value m n t aad_bits (sums aad aad') bits (sums ciphertext ciphertext'))
sum_tells cover m n t aad_bits aad aad' bits ciphertext ciphertext' offered small long a b o o' p p' =
    let first = tag_under m n t aad_bits aad bits ciphertext in
    let second = tag_under m n t aad_bits aad' bits ciphertext' in
    let two = cover.nca5.tags m n t aad_bits aad aad' bits ciphertext ciphertext' a b o o' p p' in
    let l = cover.long m n t aad_bits aad bits ciphertext small in
    let l' = cover.long m n t aad_bits aad' bits ciphertext' small in (
      λ right. ap (sums first) right ∙ two,
      λ sum. sums_unlike first offered second (long ∙ sym l) (l' ∙ sym l) (sum ∙ sym two),
    )

module _ (layers : Layers) (m : Meaning) (sound : Sound m) (s : Terms) (lawful : Lawful s) (count : ℕ) (c : SealCall) (passed : SealPassed m s count c)
    (b : Parts) (well : Formed s b) (alike : Alike (sealed_parts m s count c) b) where
  same_count : count ≡ b.count
  unfolding sealed_parts
  same_count = alike.count

  same_aad_bits : c.aad_bits ≡ b.aad_bits
  unfolding sealed_parts
  same_aad_bits = alike.aad_bits

  same_bits : c.bits ≡ b.bits
  unfolding sealed_parts
  same_bits = alike.bits

  -- the numbers of the frame are those of the seal
  pub tells : (x : Opened) → x ≡ opened_as b → Tells count c x
  tells x is =
      record {
        count = ap (λ (a : Opened). a.count) is ∙ sym same_count;
        bits = ap (λ (a : Opened). a.bits.0) is ∙ sym same_bits;
        aad_place = ap (λ (a : Opened). a.aad_place.0) is;
        aad_bits = ap (λ (a : Opened). a.aad_bits.0) is ∙ sym same_aad_bits;
      }

  abbrev p : Parameters
  p = parameters s count

  abbrev t : ℕ
  t = s.tag_size

  covers : Coverable m (stream_nonce t p) c.bits c.message
  covers = coverable layers m s count c sound lawful passed

  abbrev ciphertext : List ℕ
  ciphertext = ciphertext_of m p t c.bits c.message

  long_aads : length (cleared c.aad_bits c.aad) ≡ length b.aad
  long_aads = length-cleared c.aad_bits c.aad ∙ passed.aad ∙ ap filled same_aad_bits ∙ sym well.fits.aad

  long_other : length b.ciphertext ≡ filled c.bits
  long_other = well.fits.ciphertext ∙ ap filled (sym same_bits)

  long_ciphertext : length ciphertext ≡ filled c.bits
  long_ciphertext = layers.cover.covered.long m (stream_nonce t p) c.bits c.message covers

  pub reached : Reached m s b.count b.bits
  reached =
      subst (λ (x : ℕ). Reached m s x b.bits) same_count
      (subst (λ (x : ℕ). Reached m s count x) same_bits (record { keys = passed.keys; stream = passed.stream }))

  right_is : right_tag m s b ≡ tag_of m p t c.aad_bits b.aad c.bits b.ciphertext
  right_is = λ i. tag_of m (parameters s (sym same_count i)) t (sym same_aad_bits i) b.aad (sym same_bits i) b.ciphertext

  -- the tag of the one is right exactly where the sum of the two tags agrees
  pub right_agrees : t ≤ 16 → Octets c.aad → Octets c.message → Octets b.aad → Octets b.ciphertext
      → b.tag ≡ right_tag m s b ↔ TagsAgree m s (sealed_parts m s count c) b
  unfolding sealed_parts
  right_agrees small aad message aad' ciphertext' =
      let tells =
      sum_tells layers.cover m (instance_nonce t p) t c.aad_bits (cleared c.aad_bits c.aad) b.aad c.bits ciphertext b.ciphertext b.tag small
      (well.fits.tag ∙ well.size)
      long_aads
      (long_ciphertext ∙ sym long_other)
      (Octets-cleared c.aad_bits c.aad aad)
      aad'
      (layers.cover.covered.octets m (stream_nonce t p) c.bits c.message covers message)
      ciphertext' in
      let spare = ap (λ (xs : List ℕ). sums xs b.tag) (layers.cover.nca5.spare.aad m p t c.aad_bits c.aad c.bits ciphertext) in
      (λ right. sym spare ∙ tells.0 (right ∙ right_is), λ agree. tells.1 (spare ∙ agree) ∙ sym right_is)

  -- and its message is that of the other plus the difference
  pub message_differs : opened_message m s b ≡ sums (cleared c.bits c.message) (sums ciphertext b.ciphertext)
  message_differs =
      (λ i. ciphertext_of m (parameters s (sym same_count i)) t (sym same_bits i) b.ciphertext)
      ∙ layers.cover.covered.other m (stream_nonce t p) c.bits c.message b.ciphertext covers long_other
      (ap (λ (n : ℕ). clear n b.ciphertext) same_bits ∙ well.clear)

-- the sum of two tags decides
module _ (layers : Layers) (m : Meaning) (sound : Sound m) (s : Terms) (lawful : Lawful s) (first : ℕ) where
  decided_parts :
      (count : ℕ) (c : SealCall) → SealPassed m s count c → Octets c.aad → Octets c.message
      → (done : List ℕ) (o : OpenEvent) → OpenedAfter m s first done o → Offers s o.asked → Octets o.asked.frame
      → Alike (sealed_parts m s count c) (parts o.asked.frame)
      → Decided m s first done (sealed_parts m s count c) c (parts o.asked.frame) o
  unfolding sealed_parts
  decided_parts count c passed aad message done o is offers frame alike =
      let f = o.asked.frame in
      let b = parts f in
      let well = formed layers.frames s f frame offers.formed in
      let near = reached layers m sound s lawful count c passed b well alike in
      let right = accepted_right layers m s first done o is offers near in
      let agrees = right_agrees layers m sound s lawful count c passed b well alike lawful.largest aad message (Octets-aad f frame) (Octets-ciphertext f frame) in
      record {
        carried = (refl, refl);
        accepted = (λ a. ((right.0 a).0, agrees.0 (right.0 a).1), λ h. right.1 (h.0, agrees.1 h.1));
        numbers = λ x ok. tells layers m sound s lawful count c passed b well alike x (numbers_told layers m s first done o is x ok);
        opens_to = λ x ok.
            ap (λ (a : Opened). take (filled a.bits.0) o.buffer) (numbers_told layers m s first done o is x ok)
            ∙ message_told layers m s first done o is sound lawful near well.fits (x, ok)
            ∙ message_differs layers m sound s lawful count c passed b well alike;
      }

  pub decided :
      (count : ℕ) (e : SealEvent) (n : Bytes) → Made m s count e n → Octets e.asked.aad → Octets e.asked.message
      → (done : List ℕ) (o : OpenEvent) → OpenedAfter m s first done o → Offers s o.asked → Octets o.asked.frame
      → Alike (parts (take n.0 e.buffer)) (parts o.asked.frame)
      → Decided m s first done (parts (take n.0 e.buffer)) e.asked (parts o.asked.frame) o
  decided count e n made aad message done o is offers frame alike =
      let b = parts o.asked.frame in
      let again = made_parts layers m s count e n sound lawful made in
      subst (λ (q : Parts). Decided m s first done q e.asked b o) (sym again)
      (decided_parts count e.asked (seal_passed m s count e.asked made.accepted) aad message done o is offers frame
      (subst (λ (q : Parts). Alike q b) again alike))

  -- so it is with every seal and every open of a journal
  pub sum_decides :
      (next : ℕ) (journal : List Event) → Follows m s first next [] journal → AllAsked journal
      → (before after : List Event) (o : OpenEvent) → journal ≡ before ++ (opening o ∷ after) → Offers s o.asked
      → (early late : List Event) (e : SealEvent) (n : Bytes) → journal ≡ early ++ (sealing e ∷ late) → e.answer ≡ Ok n
      → Alike (parts (take n.0 e.buffer)) (parts o.asked.frame)
      → Decided m s first (counts_opened before) (parts (take n.0 e.buffer)) e.asked (parts o.asked.frame) o
  sum_decides next journal follows asked before after o at offers early late e n place ok alike =
      let from = sealed_in m s first next [] early late e (subst (Follows m s first next []) place follows) in
      let given = asked_in early late (sealing e) (subst AllAsked place asked) in
      decided from.count e n (made m s from.count e n from.is ok) given.0 given.1 (counts_opened before) o
      (opened_in m s first next [] before after o (subst (Follows m s first next []) at follows))
      offers
      (asked_in before after (opening o) (subst AllAsked at asked))
      alike
