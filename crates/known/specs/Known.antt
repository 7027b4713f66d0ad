-- Values that are known, and what the definitions give.
use Rattle.std.specs.Prelude.{◌≡◌, ℕ, Bool, true, false, ◌&&◌, List, [], ◌∷◌, ◌++◌, replicate, take}
use Rattle.units.specs.Spare.{cleared}
use Rattle.units.specs.Strings.{same}
use Rattle.polynomials.specs.Field.{one, pdot}
use Rattle.field.specs.Blocks.{block_bytes, polynomial}
use Rattle.nonces.specs.Nonces.{nonce}
use Rattle.cover.specs.Combined.{instance_nonce, stream_nonce}
use Rattle.cover.specs.Encryption.{nea5_nonce}
use Rattle.cover.specs.Integrity.{nia5_nonce}
use Rattle.known.specs.Flat.{e_bytes, flat_cover, flat_nia5, flat_open, parameters}
use Rattle.known.specs.FlatLink.{eight_lost, flat_run, frame_of_13_bits, judged, room, room_written, run_shown}

-- a value as a definition gives it, beside the value that is known
pub record Row : Type 0 where
  pub given : List ℕ
  pub known : List ℕ

-- a row of the table
abbrev pub row : List ℕ → List ℕ → Row
row a b = record { given = a; known = b }

-- every row's two sides are equal
abbrev pub agree : List Row → Bool
agree [] = true
agree (r ∷ rs) = same r.given r.known && agree rs

-- 01, fifteen 00
abbrev pub u_bytes : List ℕ
u_bytes = 0x01 ∷ replicate 15 0

-- pdot of two blocks, as a block
abbrev pub dotted : List ℕ → List ℕ → List ℕ
dotted a b = block_bytes (pdot (polynomial a) (polynomial b))

-- two bytes, six 00, and then 01 02 03 04
abbrev pub counted : ℕ → ℕ → List ℕ
counted a b = a ∷ b ∷ (replicate 6 0 ++ (0x01 ∷ 0x02 ∷ 0x03 ∷ 0x04 ∷ []))

-- what is known of the field, of spare bits, of nonces, of windows and, under the flat keystream, of NIA5, NCA5 and a link
unfoldable pub table : List Row
table =
    row (block_bytes one) e_bytes
    ∷ row (dotted e_bytes e_bytes) e_bytes
    ∷ row (dotted u_bytes u_bytes) (0x01 ∷ (replicate 13 0 ++ (0x04 ∷ 0x92 ∷ [])))
    ∷ row (cleared 13 (0xFF ∷ 0xFF ∷ [])) (0xFF ∷ 0xF8 ∷ [])
    ∷ row (cleared 16 (0xFF ∷ 0xFF ∷ [])) (0xFF ∷ 0xFF ∷ [])
    ∷ row (nea5_nonce (parameters 5 0 0x01020304)) (counted 0x00 0x0A)
    ∷ row (stream_nonce 4 (parameters 5 0 0x01020304)) (counted 0x24 0x0A)
    ∷ row (instance_nonce 4 (parameters 5 0 0x01020304)) (counted 0x25 0x0A)
    ∷ row (take 2 (nonce 16 false false (parameters 31 1 0))) (0x80 ∷ 0x3F ∷ [])
    ∷ row (take 2 (nia5_nonce 16 (parameters 31 1 0))) (0x81 ∷ 0x3F ∷ [])
    ∷ row (flat_nia5 8 (0x80 ∷ [])) (0 ∷ 0x80 ∷ (replicate 7 0 ++ (0x08 ∷ replicate 7 0)))
    ∷ row (flat_cover 13 (0xAB ∷ 0xCD ∷ []) (replicate 2 0xFF) (replicate 4 0xFF)) (0 ∷ 0x54 ∷ 0x30 ∷ 0x59 ∷ 0x30 ∷ 0x00 ∷ 0x00 ∷ [])
    ∷ row (flat_open (0x54 ∷ 0x30 ∷ []) (0x59 ∷ 0x30 ∷ 0x00 ∷ 0x00 ∷ [])) (0 ∷ 0xAB ∷ 0xC8 ∷ [])
    ∷ row (flat_open (0x54 ∷ 0x30 ∷ []) (0x59 ∷ 0x30 ∷ 0x00 ∷ 0x01 ∷ [])) (14 ∷ replicate 2 0xFF)
    ∷ row (flat_open (0x55 ∷ 0x30 ∷ []) (0x58 ∷ 0x30 ∷ 0x00 ∷ 0x00 ∷ [])) (0 ∷ 0xAA ∷ 0xC8 ∷ [])
    ∷ row (flat_cover 0 [] [] (replicate 4 0xFF)) (0 ∷ 0x00 ∷ 0x00 ∷ 0x00 ∷ 0x00 ∷ [])
    ∷ row (judged 37 ∷ []) (0 ∷ [])
    ∷ row (judged 36 ∷ []) (11 ∷ [])
    ∷ row (eight_lost ∷ []) (13 ∷ [])
    ∷ row (run_shown flat_run) (0 ∷ (frame_of_13_bits ++ (14 ∷ room ++ (0 ∷ room_written ++ (12 ∷ room ++ (0 ∷ []))))))
    ∷ []

-- the table holds
abbrev pub ValuesKnown : Type 0
ValuesKnown = agree table ≡ true
