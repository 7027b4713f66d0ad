-- What was sealed opens again.
use Rattle.std.proofs.Common.{◌≡◌, ℕ, ◌≤◌, true, List, [], length, take, drop, None, sym, refl, ap, ◌∙◌, subst, arith}
use Rattle.std.proofs.lemmas.Bool.Decides.{nat_tests}
use Rattle.units.specs.Lengths.{filled}
use Rattle.units.specs.Spare.{clear, cleared}
use Rattle.units.proofs.SpareLaws.{clear-cleared}
use Rattle.units.specs.declared.lengths.Bytes.{Bytes}
use Rattle.generator.specs.Generators.{Meaning, Sound}
use Rattle.cover.specs.Combined.{ciphertext_of, stream_nonce}
use Rattle.windows.specs.Windows.{StillOpen}
use Rattle.frames.specs.Frames.{Fits, Parts, layout_refusal, parts}
use Rattle.link.specs.Opens.{WellFormed, opened_message}
use Rattle.link.specs.Seals.{SealCall, seal_refusal, sealed_frame, sealed_parts}
use Rattle.link.specs.Settings.{Lawful, line, parameters}
use Rattle.link.specs.declared.receiving.Opened.{Opened}
use Rattle.link.specs.declared.settings.Terms.{Terms}
use Rattle.replay.specs.Layers.{Layers}
use Rattle.replay.specs.Runs.{Event, OpenEvent, SealEvent}
use Rattle.replay.specs.Laws.{counts_opened}
use Rattle.replay.specs.RoundTrip.{Returned, RoundTrip}
use Rattle.replay.proofs.Follows.{Follows}
use Rattle.replay.proofs.JournalLaws.{OpenedAfter, opened_in, sealed_in}
use Rattle.replay.proofs.SealedLaws.{Made, coverable, made, parts-layout, seal_passed, sealed_fits}
use Rattle.replay.proofs.DecidesLaws.{Reached, accepted_right, message_told, numbers_told, right_tag}

-- parts that an end accepts, where its tests come to them
formed_by : (s : Terms) (f : List ℕ)
    → layout_refusal f ≡ None
    → (parts f).line ≡ line s
    → (parts f).size ≡ s.tag_size
    → clear (parts f).aad_bits (parts f).aad ≡ true
    → clear (parts f).bits (parts f).ciphertext ≡ true
    → WellFormed s f
formed_by s f whole line size aad ciphertext = grind (arith, nat_tests, whole, line, size, aad, ciphertext)

-- the parts of a sealed frame, for the end that opens it
record Own (m : Meaning) (s : Terms) (used : ℕ) (c : SealCall) (p : Parts) : Type 0 where
  fits : Fits p
  line : p.line ≡ line s
  size : p.size ≡ s.tag_size
  aad : clear p.aad_bits p.aad ≡ true
  ciphertext : clear p.bits p.ciphertext ≡ true
  reached : Reached m s p.count p.bits
  right : p.tag ≡ right_tag m s p
  count : p.count ≡ used
  bits : p.bits ≡ c.bits
  aad_bits : p.aad_bits ≡ c.aad_bits
  aad_is : p.aad ≡ cleared c.aad_bits c.aad
  message : opened_message m s p ≡ cleared c.bits c.message

own : Layers → (m : Meaning) (sound : Sound m) (s : Terms) (lawful : Lawful s) (count : ℕ) (c : SealCall) → seal_refusal m s count c ≡ None
    → Own m s count c (sealed_parts m s count c)
unfolding sealed_parts
own layers m sound s lawful count c accepted =
    let passed = seal_passed m s count c accepted in
    let p = parameters s count in
    let t = s.tag_size in
    record {
      fits = sealed_fits layers m s count c sound lawful accepted;
      line = refl;
      size = refl;
      aad = clear-cleared c.aad_bits c.aad;
      ciphertext = layers.cover.covered.spare m (stream_nonce t p) c.bits c.message;
      reached = record { keys = passed.keys; stream = passed.stream };
      right = sym (layers.cover.nca5.spare.aad m p t c.aad_bits c.aad c.bits (ciphertext_of m p t c.bits c.message));
      count = refl;
      bits = refl;
      aad_bits = refl;
      aad_is = refl;
      message = layers.cover.covered.twice m (stream_nonce t p) c.bits c.message (coverable layers m s count c sound lawful passed);
    }

-- the AAD of a frame is at byte 12
aad_at : (f : List ℕ) → take (filled (parts f).aad_bits) (drop 12 f) ≡ (parts f).aad
unfolding parts
aad_at f = refl

module _ (layers : Layers) (m : Meaning) (sound : Sound m) (s : Terms) (lawful : Lawful s) (first : ℕ) where
  -- an open of the frame that a seal made
  returned :
      (count : ℕ) (e : SealEvent) (n : Bytes) → Made m s count e n
      → (done : List ℕ) (o : OpenEvent) → OpenedAfter m s first done o → o.asked.work ≡ 64 → 1400 ≤ length o.asked.buffer
      → o.asked.frame ≡ take n.0 e.buffer
      → Returned first done count e o
  returned count e n made done o is work room same =
      let c = e.asked in
      let f = o.asked.frame in
      let from : f ≡ sealed_frame m s count c = same ∙ made.frame in
      let told = parts-layout layers.frames (sealed_parts m s count c) (sealed_fits layers m s count c sound lawful made.accepted) in
      let a : Own m s count c (parts f) =
      subst (Own m s count c) (sym (ap parts from ∙ told.1)) (own layers m sound s lawful count c made.accepted) in
      let formed = formed_by s f (ap layout_refusal from ∙ told.0) a.line a.size a.aad a.ciphertext in
      let opens = accepted_right layers m s first done o is (record { work = work; room = room; formed = formed }) a.reached in
      let answer = numbers_told layers m s first done o is in
      let still = λ (k : ℕ). StillOpen first done k in
      record {
        carried = a.count;
        accepted = (λ h. subst still a.count (opens.0 h).0, λ h. opens.1 (subst still (sym a.count) h, a.right));
        numbers = λ x ok.
            record {
              count = ap (λ (y : Opened). y.count) (answer x ok) ∙ a.count;
              bits = ap (λ (y : Opened). y.bits.0) (answer x ok) ∙ a.bits;
              aad_place = ap (λ (y : Opened). y.aad_place.0) (answer x ok);
              aad_bits = ap (λ (y : Opened). y.aad_bits.0) (answer x ok) ∙ a.aad_bits;
            };
        message = λ x ok.
            ap (λ (y : Opened). take (filled y.bits.0) o.buffer) (answer x ok)
            ∙ message_told layers m s first done o is sound lawful a.reached a.fits (x, ok)
            ∙ a.message;
        aad = λ x ok.
            ap (λ (y : Opened). take (filled y.aad_bits.0) (drop y.aad_place.0 f)) (answer x ok) ∙ aad_at f ∙ a.aad_is;
      }

  pub round_trip : (next : ℕ) (journal : List Event) → Follows m s first next [] journal → RoundTrip next first journal
  round_trip next journal follows before after o at work room early late e n place ok same =
      let from = sealed_in m s first next [] early late e (subst (Follows m s first next []) place follows) in
      subst (λ (count : ℕ). Returned first (counts_opened before) count e o) from.used
      (returned from.count e n (made m s from.count e n from.is ok) (counts_opened before) o
      (opened_in m s first next [] before after o (subst (Follows m s first next []) at follows))
      work room same)
