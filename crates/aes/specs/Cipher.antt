-- AES of FIPS 197 (2023), section 5.1: the cipher, in the order and with the names of the standard. A state is the list of its
-- sixteen bytes, column by column, and so is a round key.
use Rattle.std.specs.Prelude.{ℕ, zero, suc, ◌+◌, ◌*◌, ◌/◌, ◌%◌, List, [], map, slice_index, slice_index_or}
use Rattle.std.specs.List.{range_with_len}
use Rattle.units.specs.Sums.{◌⊕◌, sums}
use Rattle.byte_field.specs.ByteField.{mul}
use Rattle.byte_field.specs.Sbox.{sbox}

-- the byte of a state in row r and column c
abbrev pub at : List ℕ → ℕ → ℕ → ℕ
at s r c = slice_index s (r + 4 * c)

-- the state whose byte in row r and column c is `f r c`
abbrev pub state_of : (ℕ → ℕ → ℕ) → List ℕ
state_of f = map (λ k. f (k % 4) (k / 4)) (range_with_len 0 16)

-- SubBytes (5.1.1)
abbrev pub sub_bytes : List ℕ → List ℕ
sub_bytes s = map sbox s

-- ShiftRows (5.1.2): row r goes r places to the left
unfoldable pub shift_rows : List ℕ → List ℕ
shift_rows s = state_of (λ r c. at s r ((c + r) % 4))

-- MixColumns (5.1.3): each column by the matrix whose rows are 02 03 01 01, turned by one place from row to row
unfoldable pub mix_columns : List ℕ → List ℕ
mix_columns s = state_of (λ r c. mul 2 (at s r c) ⊕ mul 3 (at s ((r + 1) % 4) c) ⊕ mul 1 (at s ((r + 2) % 4) c) ⊕ mul 1 (at s ((r + 3) % 4) c))

-- AddRoundKey (5.1.4)
abbrev pub add_round_key : List ℕ → List ℕ → List ℕ
add_round_key k s = sums s k

-- key r of the round keys
abbrev pub round_key : List (List ℕ) → ℕ → List ℕ
round_key ks r = slice_index_or ks r []

-- one of the rounds that are alike
abbrev pub round : List ℕ → List ℕ → List ℕ
round k s = add_round_key k (mix_columns (shift_rows (sub_bytes s)))

-- the state after the first key and n rounds
unfoldable pub rounds : List (List ℕ) → ℕ → List ℕ → List ℕ
rounds ks zero s = add_round_key (round_key ks 0) s
rounds ks (suc n) s = round (round_key ks (suc n)) (rounds ks n s)

-- Cipher (5.1) with fifteen round keys: thirteen rounds alike, and a last one without MixColumns
unfoldable pub cipher : List (List ℕ) → List ℕ → List ℕ
cipher ks s = add_round_key (round_key ks 14) (shift_rows (sub_bytes (rounds ks 13 s)))
