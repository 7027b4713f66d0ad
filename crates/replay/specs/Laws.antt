-- The laws of a link over any list of calls, told of the journal.
use Rattle.std.specs.Prelude.{◌≡◌, ◌↔◌, ℕ, zero, suc, ◌+◌, ◌≤◌, ◌<◌, Bool, ◌&&◌, List, [], ◌∷◌, ◌++◌, length, take, Ok, Err, Result, get_or, nat_eq}
use Rattle.units.specs.Different.{different}
use Rattle.units.specs.Lengths.{begun, filled}
use Rattle.units.specs.Spare.{cleared}
use Rattle.units.specs.Strings.{same}
use Rattle.units.specs.Sums.{sums}
use Rattle.units.specs.declared.lengths.Bytes.{Bytes}
use Rattle.units.specs.declared.refusals.Refusal.{Refusal}
use Rattle.generator.specs.Generators.{Meaning, Same}
use Rattle.nonces.specs.Nonces.{extra_bytes}
use Rattle.cover.specs.Combined.{instance_nonce, stream_nonce}
use Rattle.cover.specs.Tags.{field_value}
use Rattle.windows.specs.Windows.{StillOpen, new_window}
use Rattle.windows.specs.declared.Window.{Window}
use Rattle.frames.specs.Frames.{Parts, parts}
use Rattle.link.specs.Keystream.{places}
use Rattle.link.specs.Settings.{parameters}
use Rattle.link.specs.Seals.{SealCall}
use Rattle.link.specs.Opens.{OpenCall, WellFormed}
use Rattle.link.specs.declared.receiving.Opened.{Opened}
use Rattle.link.specs.declared.settings.Terms.{Terms}
use Rattle.replay.specs.Runs.{Event, frame_of, sealing, opening, losing, SealEvent, OpenEvent}

-- ---- what a journal tells

abbrev pub frames_in : Result Bytes Refusal → List ℕ → List (List ℕ)
frames_in (Ok n) buffer = frame_of (Ok n) buffer ∷ []
frames_in (Err r) buffer = []

-- the frames sealed
abbrev pub frames_sealed : List Event → List (List ℕ)
frames_sealed [] = []
frames_sealed (sealing e ∷ es) = frames_in e.answer e.buffer ++ frames_sealed es
frames_sealed (opening e ∷ es) = frames_sealed es
frames_sealed (losing n ∷ es) = frames_sealed es

abbrev pub counts_in : Result Opened Refusal → List ℕ
counts_in (Ok o) = o.count ∷ []
counts_in (Err r) = []

-- the counts that accepted opens answer
abbrev pub counts_opened : List Event → List ℕ
counts_opened [] = []
counts_opened (sealing e ∷ es) = counts_opened es
counts_opened (opening e ∷ es) = counts_in e.answer ++ counts_opened es
counts_opened (losing n ∷ es) = counts_opened es

-- ---- places of keystream

-- a nonce with an index
pub record Place : Type 0 where
  pub nonce : List ℕ
  pub index : ℕ

abbrev pub same_place : Place → Place → Bool
same_place a b = same a.nonce b.nonce && nat_eq a.index b.index

-- the indices below n under a nonce
abbrev pub indices : List ℕ → ℕ → List Place
indices nonce zero = []
indices nonce (suc n) = record { nonce = nonce; index = n } ∷ indices nonce n

-- the places that a sealed frame uses: H, Q and P, and one for each 128 message bits, the last perhaps partial
abbrev pub places_in : Terms → List ℕ → List Place
places_in s frame =
    let p = parameters s (parts frame).count in
    indices (instance_nonce s.tag_size p) 3 ++ indices (stream_nonce s.tag_size p) (begun (parts frame).bits)

abbrev pub places_in_all : Terms → List (List ℕ) → List Place
places_in_all s [] = []
places_in_all s (f ∷ fs) = places_in s f ++ places_in_all s fs

-- the places that the sealed frames of a journal use
abbrev pub places_used : Terms → List Event → List Place
places_used s journal = places_in_all s (frames_sealed journal)

-- how many a seal of so many message bits asks for, if it was accepted
abbrev pub places_in_answer : Result Bytes Refusal → ℕ → ℕ
places_in_answer (Ok n) bits = places bits
places_in_answer (Err r) bits = 0

-- and all accepted seals of a journal
abbrev pub places_asked : List Event → ℕ
places_asked [] = 0
places_asked (sealing e ∷ es) = places_in_answer e.answer e.asked.bits + places_asked es
places_asked (opening e ∷ es) = places_asked es
places_asked (losing n ∷ es) = places_asked es

-- ---- two frames of one count

-- the same count, AAD bits and message bits
pub record Alike (a b : Parts) : Type 0 where
  pub count : a.count ≡ b.count
  pub aad_bits : a.aad_bits ≡ b.aad_bits
  pub bits : a.bits ≡ b.bits

-- the sum of the two tags begins the field value of the difference: of the sums of the AADs and of the ciphertexts
abbrev pub TagsAgree : Meaning → Terms → Parts → Parts → Type 0
TagsAgree m s a b =
    sums a.tag b.tag
    ≡ field_value m (instance_nonce s.tag_size (parameters s a.count)) s.tag_size a.aad_bits (sums a.aad b.aad) a.bits (sums a.ciphertext b.ciphertext)

abbrev pub Accepted : OpenEvent → Type 0
Accepted o = (a : Opened) × (o.answer ≡ Ok a)

-- an open answers the count that a seal used, its message bits and its AAD bits, and that the AAD begins at byte 12
pub record Tells (used : ℕ) (c : SealCall) (a : Opened) : Type 0 where
  pub count : a.count ≡ used
  pub bits : a.bits.0 ≡ c.bits
  pub aad_place : a.aad_place.0 ≡ 12
  pub aad_bits : a.aad_bits.0 ≡ c.aad_bits

-- the frame a of the seal c, and the frame b offered to the open o, after the counts in `before` were opened
pub record Decided (m : Meaning) (s : Terms) (first : ℕ) (before : List ℕ) (a : Parts) (c : SealCall) (b : Parts)
    (o : OpenEvent) : Type 0 where
  -- the sealed frame carries the numbers of the message and of the AAD
  pub carried : (a.bits ≡ c.bits) × (a.aad_bits ≡ c.aad_bits)
  pub accepted : Accepted o ↔ (StillOpen first before b.count × TagsAgree m s a b)
  pub numbers : (x : Opened) → o.answer ≡ Ok x → Tells a.count c x
  pub opens_to :
      (x : Opened) → o.answer ≡ Ok x
      → take (filled x.bits.0) o.buffer ≡ sums (cleared c.bits c.message) (sums a.ciphertext b.ciphertext)

-- the open meets neither 1 nor 6, and its frame none of 8, 9 and 10
pub record Offers (s : Terms) (c : OpenCall) : Type 0 where
  pub work : c.work ≡ 64
  pub room : 1400 ≤ length c.buffer
  pub formed : WellFormed s c.frame

-- ---- the laws

pub record Laws (m : Meaning) (s : Terms) (first : ℕ) (journal : List Event) : Type 0 where
  -- no place of keystream is used twice
  pub keystream_once : length (places_used s journal) ≡ different same_place (places_used s journal)
  -- as many as the accepted seals ask for: for each 3, and one for each 128 bits of its message begun
  pub keystream_counted : length (places_used s journal) ≡ places_asked journal
  -- the sum of two tags decides
  pub sum_decides :
      (before after : List Event) (o : OpenEvent) → journal ≡ before ++ (opening o ∷ after) → Offers s o.asked
      → (early late : List Event) (e : SealEvent) (n : Bytes) → journal ≡ early ++ (sealing e ∷ late) → e.answer ≡ Ok n
      → Alike (parts (take n.0 e.buffer)) (parts o.asked.frame)
      → Decided m s first (counts_opened before) (parts (take n.0 e.buffer)) e.asked (parts o.asked.frame) o
  -- a count is opened once
  pub opened_once : length (counts_opened journal) ≡ different nat_eq (counts_opened journal)

-- terms under which the same frames are sealed and opened; an absent EXTRA_IV is the same as six zero bytes
pub record SameTerms (s r : Terms) : Type 0 where
  pub bearer : r.bearer ≡ s.bearer
  pub direction : r.direction ≡ s.direction
  pub tag_size : r.tag_size ≡ s.tag_size
  pub extra_iv : extra_bytes r.extra_iv ≡ extra_bytes s.extra_iv

-- the two ends of one link, which mean m and k: they share their terms, their generators mean the same, and the window of
-- the receiving end is new
pub record OneLink (m k : Meaning) (s r : Terms) (w : Window) (first : ℕ) : Type 0 where
  pub same : Same m k
  pub terms : SameTerms s r
  pub new : w ≡ new_window first

-- ---- what is said with them

-- no two of a list are equal
abbrev pub NoTwoEqual : {A : Type 0} → A → List A → Type 0
NoTwoEqual d xs = (i j : ℕ) → i < j → j < length xs → get_or xs i d ≡ get_or xs j d → ⊥

-- a list has as many different places, or counts, as it is long exactly when no two are equal
pub record DifferentTies : Type 0 where
  pub places : (xs : List Place) (d : Place) → (length xs ≡ different same_place xs) ↔ NoTwoEqual d xs
  pub counts : (xs : List ℕ) (d : ℕ) → (length xs ≡ different nat_eq xs) ↔ NoTwoEqual d xs

-- a sealed frame uses as many places as its length in bits asks for
abbrev pub PlacesCounted : Type 0
PlacesCounted = (s : Terms) (frame : List ℕ) → length (places_in s frame) ≡ places (parts frame).bits
