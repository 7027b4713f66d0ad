-- Places of keystream: how many a frame uses, and that none is used twice.
use Rattle.std.proofs.Common.{Decides, ◌≡◌, ℕ, zero, suc, ◌+◌, ◌^◌, ◌<◌, ◌≤◌, Bool, true, false, List, [], ◌∷◌, ◌++◌, length, take, Ok, Err, Result, sym, refl, ap, ap₂, ◌∙◌, subst, nat_eq, arith, length-append}
use Rattle.std.proofs.lemmas.Bool.{and_from, and_parts, true≢false}
use Rattle.std.proofs.lemmas.Bool.Decides.{Decides-eqb}
use Rattle.std.proofs.lemmas.List.Elements.{All-append, All-cons, All-nil, All-weaker}
use Rattle.std.specs.List.{All}
use Rattle.units.specs.Different.{different}
use Rattle.units.specs.Lengths.{begun}
use Rattle.units.specs.Strings.{same}
use Rattle.units.specs.declared.lengths.Bytes.{Bytes}
use Rattle.units.specs.declared.refusals.Refusal.{Refusal}
use Rattle.units.proofs.DifferentLaws.{Apart, Apart-append, among_none, different_all, different_pairs}
use Rattle.units.proofs.StringLaws.{same_tells}
use Rattle.generator.specs.Generators.{Meaning, Sound}
use Rattle.nonces.specs.Nonces.{Alike, Fit, nonce}
use Rattle.cover.specs.Combined.{instance_nonce, stream_nonce}
use Rattle.frames.specs.Frames.{Parts, parts}
use Rattle.link.specs.Keystream.{places}
use Rattle.link.specs.Seals.{sealed, sealed_parts}
use Rattle.link.specs.Settings.{Lawful, parameters}
use Rattle.link.specs.declared.settings.Terms.{Terms}
use Rattle.replay.specs.Layers.{Layers}
use Rattle.replay.specs.Runs.{Event, sealing, opening, losing, SealEvent, seal_event}
use Rattle.replay.specs.Laws.{DifferentTies, Place, PlacesCounted, counts_in, frames_in, frames_sealed, indices, places_asked, places_in, places_in_all, places_in_answer, places_used, same_place}
use Rattle.replay.proofs.Follows.{Follows}
use Rattle.replay.proofs.SealedLaws.{Made, made, made_parts, next_le, seal_passed}

-- ---- what the two counting tests say

place_tells : (x y : Place) → Decides (same_place x y) (x ≡ y)
place_tells x y = (
  λ e.
      let both = and_parts (same x.nonce y.nonce) (nat_eq x.index y.index) e in
      let nonce : x.nonce ≡ y.nonce = (same_tells x.nonce y.nonce).0 both.0 in
      let index : x.index ≡ y.index = (Decides-eqb x.index y.index).0 both.1 in
      λ i. record { nonce = nonce i; index = index i },
  λ e.
      and_from (same x.nonce y.nonce) (nat_eq x.index y.index)
      ((same_tells x.nonce y.nonce).1 (ap (λ (p : Place). p.nonce) e))
      ((Decides-eqb x.index y.index).1 (ap (λ (p : Place). p.index) e)),
)

pub different_ties : DifferentTies
different_ties =
    record {
      places = λ xs d. different_pairs same_place place_tells d xs;
      counts = λ xs d. different_pairs nat_eq Decides-eqb d xs;
    }

-- ---- how many a frame uses

length-indices : (nonce : List ℕ) (k : ℕ) → length (indices nonce k) ≡ k
length-indices nonce zero = refl
length-indices nonce (suc k) = ap suc (length-indices nonce k)

pub places_counted : PlacesCounted
places_counted s frame =
    let p = parameters s (parts frame).count in
    let keys = instance_nonce s.tag_size p in
    let stream = stream_nonce s.tag_size p in
    let k = begun (parts frame).bits in
    length-append (indices keys 3) (indices stream k)
    ∙ ap₂ (λ (a b : ℕ). a + b) (length-indices keys 3) (length-indices stream k)

-- ---- places under one nonce

-- a place under a nonce, below an index
record Below (nonce : List ℕ) (k : ℕ) (p : Place) : Type 0 where
  pub under : p.nonce ≡ nonce
  pub below : p.index < k

indices_below : (nonce : List ℕ) (k : ℕ) → All (Below nonce k) (indices nonce k)
indices_below nonce zero = All-nil (Below nonce 0)
indices_below nonce (suc k) =
    All-cons (Below nonce (suc k)) (record { nonce = nonce; index = k }) (indices nonce k)
    (record { under = refl; below = omega arith })
    (All-weaker (Below nonce k) (Below nonce (suc k)) (λ p h. record { under = h.under; below = omega (arith, h.below) })
    (indices nonce k) (indices_below nonce k))

indices_apart : (nonce : List ℕ) (k : ℕ) → Apart same_place (indices nonce k)
indices_apart nonce zero = tt
indices_apart nonce (suc k) = (
  among_none same_place place_tells (λ p. p.index ≡ k) (Below nonce k)
      (λ x y p q e. let index = ap (λ (z : Place). z.index) e in omega (arith, q.below))
      (record { nonce = nonce; index = k }) (indices nonce k) refl (indices_below nonce k),
  indices_apart nonce k,
)

-- ---- places of the counts of a link

module _ (s : Terms) where
  -- the two nonces of a count
  abbrev keys : ℕ → List ℕ
  keys count = instance_nonce s.tag_size (parameters s count)

  abbrev stream : ℕ → List ℕ
  stream count = stream_nonce s.tag_size (parameters s count)

  -- the places of a frame that is sealed with a count
  abbrev places_for : ℕ → ℕ → List Place
  places_for count bits = indices (keys count) 3 ++ indices (stream count) (begun bits)

  -- a place under a nonce of a count from `low` on and below `high`
  record Placed (low high : ℕ) (p : Place) : Type 0 where
    pub count : ℕ
    pub instance : Bool
    pub under : p.nonce ≡ nonce s.tag_size true instance (parameters s count)
    pub from : low ≤ count
    pub below : count < high

  wider : (a b c d : ℕ) → a ≤ b → c ≤ d → (ps : List Place) → All (Placed b c) ps → All (Placed a d) ps
  wider a b c d h g ps =
      All-weaker (Placed b c) (Placed a d)
      (λ p l. record {
        count = l.count;
        instance = l.instance;
        under = l.under;
        from = omega (arith, l.from);
        below = omega (arith, l.below);
      }) ps

  indices_placed : (count : ℕ) (i : Bool) (k : ℕ)
      → All (Placed count (count + 1)) (indices (nonce s.tag_size true i (parameters s count)) k)
  indices_placed count i k =
      let n = nonce s.tag_size true i (parameters s count) in
      All-weaker (Below n k) (Placed count (count + 1))
      (λ p h. record { count = count; instance = i; under = h.under; from = omega arith; below = omega arith })
      (indices n k) (indices_below n k)

  places_placed : (count bits : ℕ) → All (Placed count (count + 1)) (places_for count bits)
  places_placed count bits =
      All-append (Placed count (count + 1)) (indices (keys count) 3) (indices (stream count) (begun bits))
      (indices_placed count true 3) (indices_placed count false (begun bits))

  -- places that are all different, of counts from `next` on
  record ApartFrom (next : ℕ) (ps : List Place) : Type 0 where
    pub placed : All (Placed next (2 ^ 32)) ps
    pub apart : Apart same_place ps

  from_later : (next later : ℕ) (ps : List Place) → next ≤ later → ApartFrom later ps → ApartFrom next ps
  from_later next later ps h g =
      record { placed = wider next later (2 ^ 32) (2 ^ 32) h (omega arith) ps g.placed; apart = g.apart }

  module _ (layers : Layers) (lawful : Lawful s) where
    -- of two nonces with the same bytes all parts are the same
    same_nonce :
        (c d : ℕ) (i j : Bool) → c < 2 ^ 32 → d < 2 ^ 32
        → nonce s.tag_size true i (parameters s c) ≡ nonce s.tag_size true j (parameters s d)
        → Alike s.tag_size s.tag_size true true i j (parameters s c) (parameters s d)
    same_nonce c d i j h g =
        layers.nonces.differ s.tag_size s.tag_size true true i j (parameters s c) (parameters s d) (fit c h) (fit d g)
      where
        fit : (count : ℕ) → count < 2 ^ 32 → Fit s.tag_size (parameters s count)
        fit count h = record { size = lawful.largest; bearer = lawful.bearer; direction = lawful.direction; count = h }

    -- under the two nonces of a count
    places_apart : (count bits : ℕ) → count < 2 ^ 32 → Apart same_place (places_for count bits)
    places_apart count bits h =
        Apart-append same_place place_tells (Below (keys count) 3) (Below (stream count) (begun bits))
        (λ x y p q e.
        let alike = same_nonce count count true false h h (sym p.under ∙ ap (λ (z : Place). z.nonce) e ∙ q.under) in
        true≢false alike.instance)
        (indices (keys count) 3) (indices (stream count) (begun bits))
        (indices_apart (keys count) 3) (indices_apart (stream count) (begun bits))
        (indices_below (keys count) 3) (indices_below (stream count) (begun bits))

    -- and under those of later counts
    counts_apart : (low middle high : ℕ) → middle ≤ high → high ≤ 2 ^ 32
        → (x y : Place) → Placed low middle x → Placed middle high y → x ≡ y → ⊥
    counts_apart low middle high h g x y p q e =
        let alike = same_nonce p.count q.count p.instance q.instance (omega (arith, p.below)) (omega (arith, q.below))
        (sym p.under ∙ ap (λ (z : Place). z.nonce) e ∙ q.under)
        in
        omega (arith, alike.count, p.below, q.from)

    from_next : (next bits : ℕ) (ps : List Place) → next < 2 ^ 32
        → ApartFrom (next + 1) ps
        → ApartFrom next (places_for next bits ++ ps)
    from_next next bits ps h g =
        let own = places_placed next bits in
        record {
          placed =
              All-append (Placed next (2 ^ 32)) (places_for next bits) ps
              (wider next next (next + 1) (2 ^ 32) (omega arith) (omega arith) (places_for next bits) own)
              (from_later next (next + 1) ps (omega arith) g).placed;
          apart =
              Apart-append same_place place_tells (Placed next (next + 1)) (Placed (next + 1) (2 ^ 32))
              (counts_apart next (next + 1) (2 ^ 32) (omega arith) (omega arith))
              (places_for next bits) ps (places_apart next bits h) g.apart own g.placed;
        }

    -- ---- over a journal

    module _ (m : Meaning) (sound : Sound m) (first : ℕ) where
      -- the frame of an accepted seal uses those of its count
      places_made : (next : ℕ) (e : SealEvent) (n : Bytes) → Made m s next e n
          → places_in s (take n.0 e.buffer) ≡ places_for next e.asked.bits
      unfolding sealed_parts
      places_made next e n h =
          ap (λ (p : Parts). places_for p.count p.bits) (made_parts layers m s next e n sound lawful h)

      -- as many as its bits ask for
      bits_made : (next : ℕ) (e : SealEvent) (n : Bytes) → Made m s next e n
          → places (parts (take n.0 e.buffer)).bits ≡ places e.asked.bits
      unfolding sealed_parts
      bits_made next e n h = ap (λ (p : Parts). places p.bits) (made_parts layers m s next e n sound lawful h)

      from_seal : (next : ℕ) (e : SealEvent) (es : List Event) → e ≡ seal_event e.asked (sealed m s next e.asked)
          → ApartFrom (sealed m s next e.asked).next (places_used s es)
          → ApartFrom next (places_used s (sealing e ∷ es))
      from_seal next e es is rest = at e.answer refl
        where
          at : (r : Result Bytes Refusal) → e.answer ≡ r
              → ApartFrom next (places_in_all s (frames_in r e.buffer ++ frames_sealed es))
          at (Err r) q = from_later next (sealed m s next e.asked).next (places_used s es) (next_le m s next e.asked) rest
          at (Ok n) q =
              let h = made m s next e n is q in
              let passed = seal_passed m s next e.asked h.accepted in
              let ps = places_used s es in
              subst (λ (xs : List Place). ApartFrom next (xs ++ ps)) (sym (places_made next e n h))
              (from_next next e.asked.bits ps passed.count (subst (λ (k : ℕ). ApartFrom k ps) h.after rest))

      all_apart : (next : ℕ) (done : List ℕ) (journal : List Event) → Follows m s first next done journal
          → ApartFrom next (places_used s journal)
      all_apart next done [] h = record { placed = All-nil (Placed next (2 ^ 32)); apart = tt }
      all_apart next done (sealing e ∷ es) h = from_seal next e es h.0 (all_apart (sealed m s next e.asked).next done es h.1)
      all_apart next done (opening o ∷ es) h = all_apart next (done ++ counts_in o.answer) es h.1
      all_apart next done (losing n ∷ es) h = all_apart next done es h

      -- a seal and those after it use as many as they ask for
      counted_seal : (next : ℕ) (e : SealEvent) (es : List Event) → e ≡ seal_event e.asked (sealed m s next e.asked)
          → length (places_used s es) ≡ places_asked es
          → length (places_used s (sealing e ∷ es)) ≡ places_asked (sealing e ∷ es)
      counted_seal next e es is rest = at e.answer refl
        where
          at : (r : Result Bytes Refusal) → e.answer ≡ r
              → length (places_in_all s (frames_in r e.buffer ++ frames_sealed es))
              ≡ places_in_answer r e.asked.bits + places_asked es
          at (Err r) q = omega (arith, rest)
          at (Ok n) q =
              let frame = take n.0 e.buffer in
              length-append (places_in s frame) (places_used s es)
              ∙ ap₂ (λ (a b : ℕ). a + b) (places_counted s frame ∙ bits_made next e n (made m s next e n is q)) rest

      all_counted : (next : ℕ) (done : List ℕ) (journal : List Event) → Follows m s first next done journal
          → length (places_used s journal) ≡ places_asked journal
      all_counted next done [] h = refl
      all_counted next done (sealing e ∷ es) h =
          counted_seal next e es h.0 (all_counted (sealed m s next e.asked).next done es h.1)
      all_counted next done (opening o ∷ es) h = all_counted next (done ++ counts_in o.answer) es h.1
      all_counted next done (losing n ∷ es) h = all_counted next done es h

-- no place of keystream is used twice
pub keystream_once :
    Layers → (m : Meaning) (s : Terms) (first : ℕ) → Sound m → Lawful s
    → (next : ℕ) (done : List ℕ) (journal : List Event) → Follows m s first next done journal
    → length (places_used s journal) ≡ different same_place (places_used s journal)
keystream_once layers m s first sound lawful next done journal h =
    different_all same_place (places_used s journal) (all_apart s layers lawful m sound first next done journal h).apart

-- and as many are used as the accepted seals ask for
pub keystream_counted :
    Layers → (m : Meaning) (s : Terms) (first : ℕ) → Sound m → Lawful s
    → (next : ℕ) (done : List ℕ) (journal : List Event) → Follows m s first next done journal
    → length (places_used s journal) ≡ places_asked journal
keystream_counted layers m s first sound lawful = all_counted s layers lawful m sound first
