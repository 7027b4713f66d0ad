-- What an accepted seal leaves: the frame of its parts.
use Rattle.std.proofs.Common.{◌≡◌, ℕ, ◌+◌, ◌^◌, ◌<◌, ◌≤◌, true, false, List, length, take, drop, Ok, Some, None, Option, sym, refl, ap, ◌∙◌, arith, take_at}
use Rattle.std.proofs.lemmas.Bool.Decides.{nat_tests}
use Rattle.units.specs.Lengths.{begun, filled}
use Rattle.units.specs.declared.lengths.Bytes.{Bytes}
use Rattle.units.specs.declared.refusals.Refusal.{Refusal}
use Rattle.units.proofs.RefusalLaws.{unless_ok}
use Rattle.units.proofs.SpareLaws.{length-cleared}
use Rattle.generator.specs.Generators.{IsNonce, Meaning, Sound}
use Rattle.nonces.specs.Nonces.{nonce_refusal}
use Rattle.cover.specs.Combined.{instance_nonce, stream_nonce, ciphertext_of}
use Rattle.cover.specs.Laws.{Coverable}
use Rattle.frames.specs.Frames.{Parts, Fits, FramesStand, layout, layout_refusal, parts}
use Rattle.link.specs.Answers.{over}
use Rattle.link.specs.Seals.{SealCall, seal_by, seal_refusal, sealed, sealed_frame, sealed_parts}
use Rattle.link.specs.Settings.{Lawful, parameters}
use Rattle.link.specs.declared.settings.Terms.{Terms}
use Rattle.replay.specs.Layers.{Layers}
use Rattle.replay.specs.Runs.{SealEvent, seal_event}

-- ---- the nonces of a link

-- lawful terms give a nonce to every count
given : (s : Terms) (count : ℕ) → Lawful s → nonce_refusal (Some s.tag_size) (parameters s count) ≡ None
given s count lawful = grind (arith, nat_tests, lawful.bearer, lawful.direction, lawful.smallest, lawful.largest)

pub keys_is : Layers → (s : Terms) (count : ℕ) → Lawful s → IsNonce (instance_nonce s.tag_size (parameters s count))
keys_is layers s count lawful = layers.nonces.twelve (Some s.tag_size) true true (parameters s count) (given s count lawful) lawful.extra_iv

pub stream_is : Layers → (s : Terms) (count : ℕ) → Lawful s → IsNonce (stream_nonce s.tag_size (parameters s count))
stream_is layers s count lawful = layers.nonces.twelve (Some s.tag_size) true false (parameters s count) (given s count lawful) lawful.extra_iv

-- ---- an accepted seal

-- what no test of an accepted seal meets
pub record SealPassed (m : Meaning) (s : Terms) (next : ℕ) (c : SealCall) : Type 0 where
  pub count : next < 2 ^ 32
  pub aad_bits : c.aad_bits ≤ 512
  pub bits : c.bits ≤ 11200
  pub aad : length c.aad ≡ filled c.aad_bits
  pub message : length c.message ≡ filled c.bits
  pub keys : 3 ≤ m.reach (instance_nonce s.tag_size (parameters s next))
  pub stream : begun c.bits ≤ m.reach (stream_nonce s.tag_size (parameters s next))

pub seal_passed : (m : Meaning) (s : Terms) (next : ℕ) (c : SealCall) → seal_refusal m s next c ≡ None → SealPassed m s next c
seal_passed m s next c accepted =
    record {
      count = grind (arith, nat_tests, accepted);
      aad_bits = grind (arith, nat_tests, accepted);
      bits = grind (arith, nat_tests, accepted);
      aad = grind (arith, nat_tests, accepted);
      message = grind (arith, nat_tests, accepted);
      keys = grind (arith, nat_tests, accepted);
      stream = grind (arith, nat_tests, accepted);
    }

-- the keystream reaches its message
pub coverable : Layers → (m : Meaning) (s : Terms) (next : ℕ) (c : SealCall) → Sound m → Lawful s → SealPassed m s next c
    → Coverable m (stream_nonce s.tag_size (parameters s next)) c.bits c.message
coverable layers m s next c sound lawful passed =
    record { sound = sound; nonce = stream_is layers s next lawful; enough = passed.stream; long = passed.message }

-- the parts of an accepted seal are those of a frame
pub sealed_fits : Layers → (m : Meaning) (s : Terms) (next : ℕ) (c : SealCall)
    → Sound m
    → Lawful s
    → seal_refusal m s next c ≡ None
    → Fits (sealed_parts m s next c)
unfolding sealed_parts
sealed_fits layers m s next c sound lawful accepted =
    let passed = seal_passed m s next c accepted in
    let p = parameters s next in
    let ciphertext = ciphertext_of m p s.tag_size c.bits c.message in
    record {
      line = omega (arith, lawful.bearer, lawful.direction);
      smallest = lawful.smallest;
      largest = lawful.largest;
      count = passed.count;
      aad_bits = passed.aad_bits;
      bits = passed.bits;
      aad = length-cleared c.aad_bits c.aad ∙ passed.aad;
      ciphertext = layers.cover.covered.long m (stream_nonce s.tag_size p) c.bits c.message (coverable layers m s next c sound lawful passed);
      tag = layers.cover.long m (instance_nonce s.tag_size p) s.tag_size c.aad_bits c.aad c.bits ciphertext lawful.largest;
    }

-- the bytes that are written over a buffer are at its start
pub take-over : (xs buffer : List ℕ) → take (length xs) (over xs buffer) ≡ xs
unfolding over
take-over xs buffer = take_at xs (drop (length xs) buffer) (length xs) refl

-- the parts of a layout
pub parts-layout : FramesStand → (p : Parts) → Fits p → (layout_refusal (layout p) ≡ None) × (parts (layout p) ≡ p)
parts-layout stand p fits =
    let told = unless_ok (layout_refusal (layout p)) (parts (layout p)) p (stand.again p fits) in
    (told.0, sym told.1)

-- the frame of an accepted seal has the parts that were sealed
pub sealed_parts_again : Layers → (m : Meaning) (s : Terms) (next : ℕ) (c : SealCall)
    → Sound m
    → Lawful s
    → seal_refusal m s next c ≡ None
    → parts (sealed_frame m s next c) ≡ sealed_parts m s next c
sealed_parts_again layers m s next c sound lawful accepted =
    (parts-layout layers.frames (sealed_parts m s next c) (sealed_fits layers m s next c sound lawful accepted)).1

-- ---- of an event that is a seal

-- what an event of an accepted seal says
pub record Made (m : Meaning) (s : Terms) (next : ℕ) (e : SealEvent) (n : Bytes) : Type 0 where
  pub accepted : seal_refusal m s next e.asked ≡ None
  pub frame : take n.0 e.buffer ≡ sealed_frame m s next e.asked
  pub after : (sealed m s next e.asked).next ≡ next + 1

made_by : (m : Meaning) (s : Terms) (next : ℕ) (c : SealCall) (n : Bytes) (r : Option Refusal)
    → (seal_by r m s next c).answer ≡ Ok n
    → (r ≡ None) × (take n.0 (seal_by r m s next c).buffer ≡ sealed_frame m s next c) × ((seal_by r m s next c).next ≡ next + 1)
made_by m s next c n None e =
    let frame = sealed_frame m s next c in
    let long : n.0 ≡ length frame = cc in
    (refl, ap (λ (k : ℕ). take k (over frame c.buffer)) long ∙ take-over frame c.buffer, refl)
made_by m s next c n (Some r) e = absurd (cc)

pub made : (m : Meaning) (s : Terms) (next : ℕ) (e : SealEvent) (n : Bytes)
    → e ≡ seal_event e.asked (sealed m s next e.asked)
    → e.answer ≡ Ok n
    → Made m s next e n
made m s next e n is ok =
    let told = made_by m s next e.asked n (seal_refusal m s next e.asked) (sym (ap (λ (x : SealEvent). x.answer) is) ∙ ok) in
    record { accepted = told.0; frame = ap (λ (x : SealEvent). take n.0 x.buffer) is ∙ told.1; after = told.2 }

-- the parts of its frame
pub made_parts : Layers → (m : Meaning) (s : Terms) (next : ℕ) (e : SealEvent) (n : Bytes)
    → Sound m
    → Lawful s
    → Made m s next e n
    → parts (take n.0 e.buffer) ≡ sealed_parts m s next e.asked
made_parts layers m s next e n sound lawful h =
    ap parts h.frame ∙ sealed_parts_again layers m s next e.asked sound lawful h.accepted

-- no call takes the next count back
pub next_le : (m : Meaning) (s : Terms) (next : ℕ) (c : SealCall) → next ≤ (sealed m s next c).next
next_le m s next c = at (seal_refusal m s next c)
  where
    at : (r : Option Refusal) → next ≤ (seal_by r m s next c).next
    at None = omega arith
    at (Some r) = omega arith
