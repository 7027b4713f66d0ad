-- KeyExpansion of FIPS 197, section 5.2, for a key of eight words, and AES-256. A word is a list of four bytes.
use Rattle.std.specs.Prelude.{ℕ, zero, suc, ◌-◌, ◌*◌, ◌/◌, ◌%◌, cond, List, [], ◌∷◌, ◌++◌, ◌==◌, length, map, take, drop, slice_index_or, flat_map}
use Rattle.std.specs.List.{range_with_len}
use Rattle.units.specs.Sums.{sums}
use Rattle.byte_field.specs.ByteField.{mul}
use Rattle.byte_field.specs.Sbox.{sbox}
use Rattle.aes.specs.Cipher.{cipher}

-- RotWord
abbrev pub rot_word : List ℕ → List ℕ
rot_word w = drop 1 w ++ take 1 w

-- SubWord
abbrev pub sub_word : List ℕ → List ℕ
sub_word w = map sbox w

-- 2 to the power n in the field of the bytes
unfoldable pub power : ℕ → ℕ
power zero = 1
power (suc n) = mul 2 (power n)

-- Rcon[j]
abbrev pub rcon : ℕ → List ℕ
rcon j = power (j - 1) ∷ 0 ∷ 0 ∷ 0 ∷ []

-- what is added to word i - 8 for word i, from word i - 1
abbrev pub addend : ℕ → List ℕ → List ℕ
addend i w =
    cond (i % 8 == 0) (sums (sub_word (rot_word w)) (rcon (i / 8)))
    (cond (i % 8 == 4) (sub_word w) w)

-- words with the next one behind them: word i, where there are i
abbrev pub one_more : List (List ℕ) → List (List ℕ)
one_more ws =
    let i = length ws in
    ws ++ (sums (slice_index_or ws (i - 8) []) (addend i (slice_index_or ws (i - 1) [])) ∷ [])

-- words, with n more behind them
unfoldable pub expanded : ℕ → List (List ℕ) → List (List ℕ)
expanded zero ws = ws
expanded (suc n) ws = one_more (expanded n ws)

-- the eight words of a key
unfoldable pub words : List ℕ → List (List ℕ)
words key = map (λ i. take 4 (drop (4 * i) key)) (range_with_len 0 8)

-- KeyExpansion: the sixty words
unfoldable pub key_expansion : List ℕ → List (List ℕ)
key_expansion key = expanded 52 (words key)

-- round key r: words 4 r to 4 r + 3
abbrev pub round_key_of : List (List ℕ) → ℕ → List ℕ
round_key_of ws r = flat_map (λ w. w) (take 4 (drop (4 * r) ws))

-- the fifteen round keys of a key
unfoldable pub round_keys_of : List ℕ → List (List ℕ)
round_keys_of key = map (round_key_of (key_expansion key)) (range_with_len 0 15)

-- AES-256: the encryption of a block
unfoldable pub aes256 : List ℕ → List ℕ → List ℕ
aes256 key block = cipher (round_keys_of key) block
