-- A frame: its layout from its parts, and its parts again.
use Rattle.std.specs.Prelude.{◌≡◌, ℕ, ◌+◌, ◌^◌, ◌<◌, ◌≤◌, Bool, List, [], ◌∷◌, ◌++◌, length, take, drop, Ok, Err, Option, Result, nat_lt, slice_index}
use Rattle.units.specs.Lengths.{filled, unlike}
use Rattle.units.specs.Refusals.{◌⊳◌, refused, unless}
use Rattle.units.specs.Strings.{Octets, four, four_at, two, two_at}
use Rattle.units.specs.declared.refusals.Layer.TheVariants.{Link}
use Rattle.units.specs.declared.refusals.Reason.TheVariants.{Layout}
use Rattle.units.specs.declared.refusals.Refusal.{Refusal}
use Rattle.nonces.specs.Nonces.{size_outside}
use Rattle.frames.specs.declared.Frame.{Frame}

-- what a frame says: BEARER × 2 + DIRECTION, the tag size, COUNT and the two lengths in bits; and what it carries
pub record Parts : Type 0 where
  pub line : ℕ
  pub size : ℕ
  pub count : ℕ
  pub aad_bits : ℕ
  pub bits : ℕ
  pub aad : List ℕ
  pub ciphertext : List ℕ
  pub tag : List ℕ

-- the twelve bytes before the AAD: the mark, BEARER × 2 + DIRECTION, the tag size, COUNT, AAD bits, message bits
unfoldable pub head : ℕ → ℕ → ℕ → ℕ → ℕ → List ℕ
head line size count aad_bits bits = (0x54 ∷ 0x46 ∷ line ∷ size ∷ []) ++ (four count ++ (two aad_bits ++ two bits))

-- the frame of its parts
unfoldable pub layout : Parts → List ℕ
layout p = head p.line p.size p.count p.aad_bits p.bits ++ (p.aad ++ (p.ciphertext ++ p.tag))

-- the length of a frame
unfoldable pub frame_length : ℕ → ℕ → ℕ → ℕ
frame_length size aad_bits bits = 12 + filled aad_bits + filled bits + size

-- the parts of a frame
unfoldable pub parts : List ℕ → Parts
parts f =
    record {
      line = slice_index f 2;
      size = slice_index f 3;
      count = four_at f 4;
      aad_bits = two_at f 8;
      bits = two_at f 10;
      aad = take (filled (two_at f 8)) (drop 12 f);
      ciphertext = take (filled (two_at f 10)) (drop (filled (two_at f 8)) (drop 12 f));
      tag = drop (filled (two_at f 10)) (drop (filled (two_at f 8)) (drop 12 f));
    }

-- 8, with the place that fails
abbrev pub broken : Bool → ℕ → Option Refusal
broken met place = refused met Layout Link place

-- why bytes are not a frame: the smallest place that fails
abbrev pub layout_refusal : List ℕ → Option Refusal
layout_refusal f =
    broken (nat_lt (length f) 12) (length f)
    ⊳ broken (unlike (slice_index f 0) 0x54) 0
    ⊳ broken (unlike (slice_index f 1) 0x46) 1
    ⊳ broken (nat_lt 63 (parts f).line) 2
    ⊳ broken (size_outside (parts f).size) 3
    ⊳ broken (nat_lt 512 (parts f).aad_bits) 8
    ⊳ broken (nat_lt 11200 (parts f).bits) 10
    ⊳ broken (unlike (length f) (frame_length (parts f).size (parts f).aad_bits (parts f).bits)) 12

-- a frame taken apart
abbrev pub parsed : List ℕ → Result Parts Refusal
parsed f = unless (layout_refusal f) (parts f)

-- what the parts of a frame are behind the references
abbrev pub view : Frame → Parts
view f =
    record {
      line = f.line;
      size = f.tag_size;
      count = f.count;
      aad_bits = f.aad.bits.0;
      bits = f.ciphertext.bits.0;
      aad = f.aad.bytes.now;
      ciphertext = f.ciphertext.bytes.now;
      tag = f.tag.now;
    }

-- the answer of a call that takes a frame apart
abbrev pub viewed : Result Frame Refusal → Result Parts Refusal
viewed (Ok f) = Ok (view f)
viewed (Err r) = Err r

-- parts that a frame can have: within their ranges, and as long as their lengths say
pub record Fits (p : Parts) : Type 0 where
  pub line : p.line ≤ 63
  pub smallest : 4 ≤ p.size
  pub largest : p.size ≤ 16
  pub count : p.count < 2 ^ 32
  pub aad_bits : p.aad_bits ≤ 512
  pub bits : p.bits ≤ 11200
  pub aad : length p.aad ≡ filled p.aad_bits
  pub ciphertext : length p.ciphertext ≡ filled p.bits
  pub tag : length p.tag ≡ p.size

-- the parts of a frame that was taken apart fit
abbrev pub FitsIn : Result Frame Refusal → Type 0
FitsIn (Ok f) = Fits (view f)
FitsIn (Err r) = Unit {0}

-- what holds of frames
pub record FramesStand : Type 0 where
  -- parts that are laid out can be had again
  pub again : (p : Parts) → Fits p → parsed (layout p) ≡ Ok p
  -- a frame that can be taken apart is the layout of its parts, which fit
  pub own : (f : List ℕ) (p : Parts) → Octets f → parsed f ≡ Ok p → (layout p ≡ f) × Fits p
  -- and a frame is as long as its three lengths say
  pub long : (p : Parts) → Fits p → length (layout p) ≡ frame_length p.size p.aad_bits p.bits
  -- which is 1,492 bytes at the most
  pub longest : (p : Parts) → Fits p → length (layout p) ≤ 1492
  -- a frame of bytes is bytes
  pub octets : (p : Parts) → Fits p → Octets p.aad → Octets p.ciphertext → Octets p.tag → Octets (layout p)
