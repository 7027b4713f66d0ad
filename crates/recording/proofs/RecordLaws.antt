-- A record and the bytes that it is written as.
use Rattle.std.proofs.Common.{◌≡◌, ℕ, zero, suc, ◌+◌, ◌*◌, ◌/◌, ◌<◌, ◌≤◌, Bool, true, false, cond, ◌&&◌, leb, List, [], ◌∷◌, ◌++◌, length, take, drop, Some, None, Option, sym, refl, ap, ◌∙◌, append_assoc, arith, length-append, length-drop, take-append-drop, length-take-le, take-take, drop-drop, take_at, take-add, drop_at}
use Rattle.std.proofs.lemmas.List.{drop-take}
use Rattle.std.proofs.lemmas.Bool.{and_parts, le-leb, leb-true}
use Rattle.std.proofs.lemmas.Bool.Decides.{nat_tests}
use Rattle.std.proofs.lemmas.Option.{cond_some}
use Rattle.std.specs.List.{flat_map, AllByRecursion}
use Rattle.std.specs.Simd.{first_chunks}
use Rattle.units.specs.Strings.{Octets, same, two, two_at}
use Rattle.units.proofs.StringLaws.{length_two, Octets-drop, same_tells, two_again, two_read}
use Rattle.recording.specs.Records.{Entry, keystream, remark, keystream_mark, remark_mark, written, WellFormed, Begins, NoRecord, Faithful, first, first_keystream, first_remark}

-- ---- what the code cuts out

-- n blocks of a byte string are those of its first bytes
first_chunks-take : (n : ℕ) (xs : List ℕ) → first_chunks 16 n (take (16 * n) xs) ≡ first_chunks 16 n xs
first_chunks-take zero xs = refl
first_chunks-take (suc n) xs =
    let more : 16 * suc n ≡ 16 + 16 * n = omega arith in
    rw (take-take 16 (16 * suc n) xs (omega arith), more, drop-take 16 (16 * n) xs, first_chunks-take n (drop 16 xs)) refl

keystream_found : (xs : List ℕ) (n : ℕ) → n ≡ two_at xs 12 → 1 ≤ n → n ≤ 1024 → 14 + 16 * n ≤ length xs → Some (keystream (take 12 xs) (first_chunks 16 n (drop 14 xs)), drop (14 + 16 * n) xs) ≡ first_keystream xs
keystream_found xs n e low high long = grind (arith, nat_tests)

-- a keystream record cut into nonce, count, body and what comes after
pub keystream_cut : (xs rest : List ℕ) (n : ℕ) → rest ≡ drop 14 xs → n ≡ two_at xs 12 → 1 ≤ n → n ≤ 1024 → 16 * n ≤ length rest
    → Some (keystream (take 12 xs) (first_chunks 16 (length (take (16 * n) rest) / 16) (take (16 * n) rest)), drop (16 * n) rest) ≡ first_keystream xs
keystream_cut xs rest n behind e low high fits =
    let size = length-take-le (16 * n) rest fits in
    let count : length (take (16 * n) rest) / 16 ≡ n = omega arith in
    let long : 14 + 16 * n ≤ length xs = omega (arith, ap length behind, length-drop 14 xs) in
    rw (count, first_chunks-take, behind, drop-drop) (keystream_found xs n e low high long)

-- ---- what is found is there

-- a byte string is its blocks
flat_map-first_chunks : (n : ℕ) (xs : List ℕ) → flat_map (λ block. block) (first_chunks 16 n xs) ≡ take (16 * n) xs
flat_map-first_chunks zero xs = refl
flat_map-first_chunks (suc n) xs =
    let more : 16 * suc n ≡ 16 + 16 * n = omega arith in
    rw (more, take-add 16 (16 * n) xs, flat_map-first_chunks n (drop 16 xs)) refl

length-first_chunks : (n : ℕ) (xs : List ℕ) → length (first_chunks 16 n xs) ≡ n
length-first_chunks zero xs = refl
length-first_chunks (suc n) xs = ap suc (length-first_chunks n (drop 16 xs))

AllByRecursion-first_chunks : (n : ℕ) (xs : List ℕ) → 16 * n ≤ length xs → AllByRecursion (λ block. length block ≡ 16) (first_chunks 16 n xs)
AllByRecursion-first_chunks zero xs h = tt
AllByRecursion-first_chunks (suc n) xs h = (length-take-le 16 xs (omega arith), AllByRecursion-first_chunks n (drop 16 xs) (simp length-drop (omega arith)))

-- a byte string is its first 12 bytes, the next 2, the next n and what is left
parted : (n : ℕ) (xs : List ℕ) → take 12 xs ++ (take 2 (drop 12 xs) ++ (take n (drop 14 xs) ++ drop (14 + n) xs)) ≡ xs
parted n xs = rw (← drop-drop n 14 xs, take-append-drop n (drop 14 xs), ← drop-drop 2 12 xs, take-append-drop 2 (drop 12 xs)) (take-append-drop 12 xs)

keystream_there : (xs : List ℕ) (p : Entry × List ℕ) → Octets xs → first_keystream xs ≡ Some p → Begins p.0 p.1 (keystream_mark ++ xs)
keystream_there xs p o found =
    let n = two_at xs 12 in
    let blocks = first_chunks 16 n (drop 14 xs) in
    let got = cond_some (leb 1 n && leb n 1024 && leb (14 + 16 * n) (length xs)) (keystream (take 12 xs) blocks, drop (14 + 16 * n) xs) p found in
    let range = and_parts (leb 1 n && leb n 1024) (leb (14 + 16 * n) (length xs)) got.0 in
    let ends = and_parts (leb 1 n) (leb n 1024) range.0 in
    let some = leb-true 1 n ends.0 in
    let most = leb-true n 1024 ends.1 in
    let long = leb-true (14 + 16 * n) (length xs) range.1 in
    let count : length blocks ≡ n = length-first_chunks n (drop 14 xs) in
    let parts : (take 12 xs ++ (two (length blocks) ++ flat_map (λ block. block) blocks)) ++ drop (14 + 16 * n) xs ≡ xs =
    rw (count, two_again xs 12 o (omega arith), flat_map-first_chunks n (drop 14 xs)) (simp append_assoc (parted (16 * n) xs))
    in
    rw (← got.1)
    record {
      formed = (length-take-le 12 xs (omega arith), omega arith, omega arith, AllByRecursion-first_chunks n (drop 14 xs) (simp length-drop (omega arith)));
      parts = ap (λ (l : List ℕ). keystream_mark ++ l) (sym parts);
    }

remark_there : (xs : List ℕ) (p : Entry × List ℕ) → Octets xs → first_remark xs ≡ Some p → Begins p.0 p.1 (remark_mark ++ xs)
remark_there [] p o found = absurd cc
remark_there (n ∷ xs) p o found =
    let got = cond_some (leb (1 + n) (suc (length xs))) (remark (take n xs), drop (1 + n) (n ∷ xs)) p found in
    let long = leb-true (1 + n) (suc (length xs)) got.0 in
    let small = o 0 in
    let count : length (take n xs) ≡ n = length-take-le n xs (omega arith) in
    let one : 1 + n ≡ suc n = omega arith in
    rw (← got.1)
    record { formed = omega arith; parts = rw (count, one, take-append-drop n xs) refl }

marked : (xs mark rest : List ℕ) (e : Entry) → Begins e rest (mark ++ drop 2 xs) → same (take 2 xs) mark ≡ true → Begins e rest xs
marked xs mark rest e there m =
    record {
      formed = there.formed;
      parts = sym (take-append-drop 2 xs) ∙ ap (λ (l : List ℕ). l ++ drop 2 xs) ((same_tells (take 2 xs) mark).0 m) ∙ there.parts;
    }

pub first_there : (xs : List ℕ) (p : Entry × List ℕ) → Octets xs → first xs ≡ Some p → Begins p.0 p.1 xs
first_there xs p o found = go (same (take 2 xs) keystream_mark) (same (take 2 xs) remark_mark) refl refl found
  where
    go : (k r : Bool) → same (take 2 xs) keystream_mark ≡ k → same (take 2 xs) remark_mark ≡ r
        → cond k (first_keystream (drop 2 xs)) (cond r (first_remark (drop 2 xs)) None) ≡ Some p → Begins p.0 p.1 xs
    go true r k-is r-is f = marked xs keystream_mark p.1 p.0 (keystream_there (drop 2 xs) p (Octets-drop xs 2 o) f) k-is
    go false true k-is r-is f = marked xs remark_mark p.1 p.0 (remark_there (drop 2 xs) p (Octets-drop xs 2 o) f) r-is
    go false false k-is r-is f = absurd cc

-- what comes after a record is shorter
keystream_shorter : (xs : List ℕ) (e : Entry) (rest : List ℕ) → first_keystream xs ≡ Some (e, rest) → length rest < length xs
keystream_shorter xs e rest found = grind (arith, nat_tests, length-drop {A = ℕ})

remark_shorter : (xs : List ℕ) (e : Entry) (rest : List ℕ) → first_remark xs ≡ Some (e, rest) → length rest < length xs
remark_shorter xs e rest found = grind (arith, nat_tests, length-drop {A = ℕ})

pub first_shorter : (xs : List ℕ) (e : Entry) (rest : List ℕ) → first xs ≡ Some (e, rest) → length rest < length xs
first_shorter xs e rest found = grind (arith, nat_tests, keystream_shorter, remark_shorter, length-drop {A = ℕ})

-- ---- what is there is found

first_chunks-flat_map : (blocks : List (List ℕ)) (rest : List ℕ) → AllByRecursion (λ block. length block ≡ 16) blocks → first_chunks 16 (length blocks) (flat_map (λ block. block) blocks ++ rest) ≡ blocks
first_chunks-flat_map [] rest a = refl
first_chunks-flat_map (b ∷ blocks) rest a =
    let flat : flat_map (λ block. block) (b ∷ blocks) ++ rest ≡ b ++ (flat_map (λ block. block) blocks ++ rest) = append_assoc b (flat_map (λ block. block) blocks) rest in
    let this = ap (take 16) flat ∙ take_at b (flat_map (λ block. block) blocks ++ rest) 16 a.0 in
    let after = ap (drop 16) flat ∙ drop_at b (flat_map (λ block. block) blocks ++ rest) 16 a.0 in
    (λ i. this i ∷ first_chunks 16 (length blocks) (after i)) ∙ ap (λ (l : List (List ℕ)). b ∷ l) (first_chunks-flat_map blocks rest a.1)

length-flat_map : (blocks : List (List ℕ)) → AllByRecursion (λ block. length block ≡ 16) blocks → length (flat_map (λ block. block) blocks) ≡ 16 * length blocks
length-flat_map [] a = refl
length-flat_map (b ∷ blocks) a =
    let more = length-flat_map blocks a.1 in
    let this = a.0 in
    length-append b (flat_map (λ block. block) blocks) ∙ omega arith

pub there_first : (e : Entry) (rest : List ℕ) → WellFormed e → first (written e ++ rest) ≡ Some (e, rest)
there_first (keystream nonce blocks) rest w =
    let n = length blocks in
    let all = flat_map (λ block. block) blocks in
    let xs = nonce ++ (two n ++ (all ++ rest)) in
    let flat : (nonce ++ (two n ++ all)) ++ rest ≡ xs = simp append_assoc in
    let size = length-flat_map blocks w.3 in
    let count : n ≡ two_at xs 12 = sym (ap (two_at xs) (sym w.0) ∙ two_read nonce (all ++ rest) n (omega (arith, w.2))) in
    let long : length xs ≡ 14 + 16 * n + length rest = simp (length-append, length_two) (omega (arith, w.0)) in
    let body : drop 14 xs ≡ all ++ rest = rw (← drop-drop 2 12 xs, drop_at nonce (two n ++ (all ++ rest)) 12 w.0) (drop_at (two n) (all ++ rest) 2 (length_two n)) in
    let back : drop (14 + 16 * n) xs ≡ rest = rw (← drop-drop (16 * n) 14 xs, body) (drop_at all rest (16 * n) size) in
    ap first_keystream flat
    ∙ sym (keystream_found xs n count w.1 w.2 (omega arith))
    ∙ rw (take_at nonce (two n ++ (all ++ rest)) 12 w.0, body, back, first_chunks-flat_map blocks rest w.3) refl
there_first (remark text) rest w =
    let long = length-append text rest in
    let one : 1 + length text ≡ suc (length text) = omega arith in
    let fits = le-leb (1 + length text) (suc (length (text ++ rest))) (omega arith) in
    rw (fits, one, take_at text rest (length text) refl, drop_at text rest (length text) refl) refl

pub found_faithful : (xs : List ℕ) (found : Option (Entry × List ℕ)) → Octets xs → found ≡ first xs → Faithful xs found
found_faithful xs None o e = λ entry rest there.
    let here : first xs ≡ Some (entry, rest) = ap first there.parts ∙ there_first entry rest there.formed in
    absurd cc
found_faithful xs (Some p) o e = first_there xs p o (sym e)

-- where no record begins, none is found
pub first_none : (xs : List ℕ) → Octets xs → NoRecord xs → first xs ≡ None
first_none xs o none = go (first xs) refl
  where
    go : (found : Option (Entry × List ℕ)) → first xs ≡ found → first xs ≡ None
    go None e = e
    go (Some p) e = absurd (none p.0 p.1 (first_there xs p o e))
