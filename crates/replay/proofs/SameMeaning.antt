-- Ends whose generators mean the same seal, open and go on alike.
use Rattle.std.proofs.Common.{◌≡◌, ℕ, ◌+◌, ◌^◌, ◌||◌, List, None, Some, Ok, Option, length, nat_lt, nat_le, not, refl, ap, ◌∙◌, arith}
use Rattle.std.proofs.lemmas.Bool.Decides.{nat_tests}
use Rattle.units.specs.Lengths.{filled, unlike}
use Rattle.units.specs.Refusals.{◌⊳◌}
use Rattle.units.specs.Spare.{cleared}
use Rattle.units.specs.Strings.{same}
use Rattle.units.specs.declared.refusals.Reason.TheVariants.{WorkArea, BitLength, InputBytes, OutputBytes, CountsUsed, WrongTag}
use Rattle.units.specs.declared.refusals.Refusal.{Refusal}
use Rattle.generator.specs.Generators.{Meaning, Same}
use Rattle.cover.specs.Answers.{refused_here as refused_cover}
use Rattle.cover.specs.Combined.{ciphertext_of, instance_nonce, stream_nonce, tag_of, too_short_for, wrong_tag}
use Rattle.windows.specs.Windows.{count_refusal, mark}
use Rattle.windows.specs.declared.Window.{Window}
use Rattle.frames.specs.Frames.{Parts, frame_length, layout, parts}
use Rattle.link.specs.Answers.{over, refused_here}
use Rattle.link.specs.Opens.{OpenCall, OpenOutcome, frame_refusal, open_by, open_outcome, open_refusal, opened, opened_as, tag_refusal}
use Rattle.link.specs.Seals.{SealCall, SealOutcome, seal_by, seal_outcome, seal_refusal, sealed, sealed_parts}
use Rattle.link.specs.Settings.{Lawful, line, parameters}
use Rattle.link.specs.declared.settings.Terms.{Terms}
use Rattle.replay.proofs.SealedLaws.{keys_is, seal_passed, stream_is}
use Rattle.replay.specs.Layers.{Layers}
use Rattle.replay.specs.Runs.{Call, Event, asked, loss_figure, open_event, open_frame, opening, seal, seal_event, sealing, stepped, turn}

-- a later test counts where the earlier ones are not met
later_same : (a b b' : Option Refusal) → (a ≡ None → b' ≡ b) → (a ⊳ b') ≡ (a ⊳ b)
later_same None b b' f = f refl
later_same (Some r) b b' f = refl

module _ (layers : Layers) (m k : Meaning) (alike : Same m k) where
  -- ---- the tests of a generator

  short_same : (s : Terms) (count bits : ℕ) → Lawful s
      → too_short_for k (parameters s count) s.tag_size bits ≡ too_short_for m (parameters s count) s.tag_size bits
  short_same s count bits lawful =
      let keys = alike.reach (instance_nonce s.tag_size (parameters s count)) (keys_is layers s count lawful) in
      let stream = alike.reach (stream_nonce s.tag_size (parameters s count)) (stream_is layers s count lawful) in
      rw (keys, stream) refl

  wrong_same : (s : Terms) (p : Parts) → Lawful s → tag_refusal k s p ≡ tag_refusal m s p
  wrong_same s p lawful =
      let q = parameters s p.count in
      let t = s.tag_size in
      let short = too_short_for m q t p.bits in
      let wrong = wrong_tag m q t p.aad_bits p.aad p.bits p.ciphertext p.tag in
      let wrong' = wrong_tag k q t p.aad_bits p.aad p.bits p.ciphertext p.tag in
      let tags_alike : short ≡ None → wrong' ≡ wrong =
      λ near.
      ap (λ (u : List ℕ). refused_cover (not (same p.tag u)) WrongTag)
      (layers.cover.same.tag m k (instance_nonce t q) t p.aad_bits p.aad p.bits p.ciphertext alike
      (keys_is layers s p.count lawful) (grind (arith, nat_tests, near)))
      in
      ap (λ (r : Option Refusal). r ⊳ wrong') (short_same s p.count p.bits lawful) ∙ later_same short wrong wrong' tags_alike

  -- ---- seal

  parts_same : (s : Terms) (next : ℕ) (c : SealCall) → Lawful s → seal_refusal m s next c ≡ None → sealed_parts k s next c ≡ sealed_parts m s next c
  unfolding sealed_parts
  parts_same s next c lawful accepted =
      let passed = seal_passed m s next c accepted in
      let p = parameters s next in
      let t = s.tag_size in
      let ciphertext : ciphertext_of k p t c.bits c.message ≡ ciphertext_of m p t c.bits c.message =
      layers.cover.same.covered m k (stream_nonce t p) c.bits c.message alike (stream_is layers s next lawful) passed.stream in
      let tag = layers.cover.same.tag m k (instance_nonce t p) t c.aad_bits c.aad c.bits (ciphertext_of m p t c.bits c.message) alike
      (keys_is layers s next lawful) passed.keys
      in
      λ i.
      record {
        line = line s;
        size = t;
        count = next;
        aad_bits = c.aad_bits;
        bits = c.bits;
        aad = cleared c.aad_bits c.aad;
        ciphertext = ciphertext i;
        tag = (ap (tag_of k p t c.aad_bits c.aad c.bits) ciphertext ∙ tag) i;
      }

  seal_by_same : (r : Option Refusal) (s : Terms) (next : ℕ) (c : SealCall) → Lawful s → seal_refusal m s next c ≡ r → seal_by r k s next c ≡ seal_by r m s next c
  seal_by_same (Some r) s next c lawful e = refl
  seal_by_same None s next c lawful e =
      ap (λ (p : Parts). seal_outcome (Ok (record { 0 = length (layout p) })) (over (layout p) c.buffer) (next + 1)) (parts_same s next c lawful e)

  pub sealed_same : (s : Terms) (next : ℕ) (c : SealCall) → Lawful s → sealed k s next c ≡ sealed m s next c
  sealed_same s next c lawful =
      ap (λ (r : Option Refusal). seal_by (refused_here (unlike c.work 64) WorkArea
      ⊳ refused_here (nat_lt 512 c.aad_bits || nat_lt 11200 c.bits) BitLength
      ⊳ refused_here (unlike (length c.aad) (filled c.aad_bits) || unlike (length c.message) (filled c.bits)) InputBytes
      ⊳ refused_here (nat_lt (length c.buffer) (frame_length s.tag_size c.aad_bits c.bits)) OutputBytes
      ⊳ refused_here (nat_le (2 ^ 32) next) CountsUsed
      ⊳ r) k s next c) (short_same s next c.bits lawful)
      ∙ seal_by_same (seal_refusal m s next c) s next c lawful refl

  -- ---- open

  open_by_same : (r : Option Refusal) (s : Terms) (w : Window) (c : OpenCall) → Lawful s → open_refusal m s w c ≡ r → open_by r k s w c ≡ open_by r m s w c
  open_by_same (Some r) s w c lawful e = refl
  open_by_same None s w c lawful e =
      let p = parts c.frame in
      ap (λ (message : List ℕ). open_outcome (Ok (opened_as p)) (over message c.buffer) (mark w p.count))
      (layers.cover.same.covered m k (stream_nonce s.tag_size (parameters s p.count)) p.bits p.ciphertext alike
      (stream_is layers s p.count lawful) (grind (arith, nat_tests, e)))

  pub opened_same : (s : Terms) (w : Window) (c : OpenCall) → Lawful s → opened k s w c ≡ opened m s w c
  opened_same s w c lawful =
      let p = parts c.frame in
      ap (λ (r : Option Refusal). open_by (refused_here (unlike c.work 64) WorkArea
      ⊳ refused_here (nat_lt (length c.buffer) 1400) OutputBytes
      ⊳ frame_refusal s c.frame
      ⊳ count_refusal w p.count
      ⊳ r) k s w c) (wrong_same s p lawful)
      ∙ open_by_same (open_refusal m s w c) s w c lawful refl

-- ---- runs

-- each end may be one that means the same
pub stepped_same :
    Layers → (m m' k k' : Meaning) (s r : Terms) (journal : List Event) (next : ℕ) (w : Window) (c : Call) → Lawful s → Lawful r
    → Same m m' → Same k k'
    → stepped m' k' s r journal next w c ≡ stepped m k s r journal next w c
stepped_same layers m m' k k' s r journal next w (seal c) lawful lawful' a b =
    ap (λ (o : SealOutcome). turn (sealing (seal_event c o)) o.next w) (sealed_same layers m m' a s next c lawful)
stepped_same layers m m' k k' s r journal next w (open_frame work frame buffer) lawful lawful' a b =
    let c = asked journal work frame buffer in
    ap (λ (o : OpenOutcome). turn (opening (open_event c o)) next o.window) (opened_same layers k k' b r w c lawful')
stepped_same layers m m' k k' s r journal next w loss_figure lawful lawful' a b = refl
