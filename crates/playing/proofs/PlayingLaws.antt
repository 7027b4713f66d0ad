-- What is played back of a recording.
use Rattle.std.proofs.Common.{◌≡◌, ℕ, zero, suc, ◌+◌, ◌<◌, ◌≤◌, Bool, true, false, ◌&&◌, cond, ltb, nat_eq, subst, List, [], ◌∷◌, ◌++◌, map, length, get_or, sym, refl, ap, ◌∙◌, append-nil, arith}
use lib.Pointwise.{pointwise}
use Rattle.std.specs.List.{flat_map, AllByRecursion, Contains}
use Rattle.std.proofs.lemmas.List.Elements.{Contains-append_right}
use Rattle.std.proofs.lemmas.Bool.Decides.{nat_tests}
use Rattle.units.specs.Strings.{Octets, same, two}
use Rattle.units.proofs.StringLaws.{Octets-append_front, Octets-append_rest, same_tells}
use Rattle.generator.specs.Generators.{Sound}
use Rattle.recording.specs.Reading.{RecordingStands, Run, ahead, placed, records}
use Rattle.recording.specs.Records.{Entry, WellFormed, NoRecord, keystream, keystream_mark, remark, written}
use Rattle.playing.specs.Playing.{PlaybackStands, blocks_under, played, readable}

-- ---- the blocks are sound

-- at most 1,024 blocks of sixteen bytes
record SoundBlocks (blocks : List (List ℕ)) : Type 0 where
  few : length blocks ≤ 1024
  sixteen : (i : ℕ) → i < length blocks → length (get_or blocks i []) ≡ 16
  octets : (i : ℕ) → Octets (get_or blocks i [])

no_blocks : SoundBlocks []
no_blocks = record { few = omega arith; sixteen = λ i h. absurd (omega arith); octets = λ i k. omega arith }

each_sixteen : (blocks : List (List ℕ)) → AllByRecursion (λ block. length block ≡ 16) blocks → (i : ℕ) → i < length blocks → length (get_or blocks i []) ≡ 16
each_sixteen [] a i h = absurd (omega arith)
each_sixteen (b ∷ blocks) a zero h = a.0
each_sixteen (b ∷ blocks) a (suc i) h = each_sixteen blocks a.1 i (omega arith)

each_octets : (blocks : List (List ℕ)) → Octets (flat_map (λ block. block) blocks) → (i : ℕ) → Octets (get_or blocks i [])
each_octets [] o i = λ k. omega arith
each_octets (b ∷ blocks) o zero = Octets-append_front b (flat_map (λ block. block) blocks) o
each_octets (b ∷ blocks) o (suc i) = each_octets blocks (Octets-append_rest (b ++ flat_map (λ block. block) blocks) b (flat_map (λ block. block) blocks) o refl) i

sound_keystream : (nonce : List ℕ) (blocks : List (List ℕ)) → WellFormed (keystream nonce blocks) → Octets (written (keystream nonce blocks)) → SoundBlocks blocks
sound_keystream nonce blocks formed o =
    let all = flat_map (λ block. block) blocks in
    let counted = two (length blocks) ++ all in
    let body = Octets-append_rest (keystream_mark ++ (nonce ++ counted)) keystream_mark (nonce ++ counted) o refl in
    let flat = Octets-append_rest counted (two (length blocks)) all (Octets-append_rest (nonce ++ counted) nonce counted body refl) refl in
    record { few = formed.2; sixteen = each_sixteen blocks formed.3; octets = each_octets blocks flat }

SoundBlocks-cond : (b : Bool) (xs ys : List (List ℕ)) → SoundBlocks xs → SoundBlocks ys → SoundBlocks (cond b xs ys)
SoundBlocks-cond true xs ys s t = s
SoundBlocks-cond false xs ys s t = t

-- the blocks of well-formed records that are bytes when they are written out
sound_records : (n : List ℕ) (es : List Entry) → AllByRecursion WellFormed es → Octets (flat_map written es) → SoundBlocks (blocks_under n es)
sound_records n [] formed o = no_blocks
sound_records n (keystream nonce blocks ∷ es) formed o =
    let e = keystream nonce blocks in
    let later = Octets-append_rest (written e ++ flat_map written es) (written e) (flat_map written es) o refl in
    SoundBlocks-cond (same nonce n) blocks (blocks_under n es)
    (sound_keystream nonce blocks formed.0 (Octets-append_front (written e) (flat_map written es) o)) (sound_records n es formed.1 later)
sound_records n (remark text ∷ es) formed o =
    let e = remark text in
    sound_records n es formed.1 (Octets-append_rest (written e ++ flat_map written es) (written e) (flat_map written es) o refl)

sound_readable : RecordingStands → (n xs : List ℕ) → Octets xs → SoundBlocks (blocks_under n (readable xs))
sound_readable stands n xs o = go (ltb 65536 (length xs))
  where
    go : (b : Bool) → SoundBlocks (blocks_under n (cond b [] (records xs)))
    go true = no_blocks
    go false =
        let run = stands.every xs o in
        sound_records n (records xs) run.formed (Octets-append_front (flat_map written (records xs)) run.rest (subst Octets run.parts o))

pub sound : RecordingStands → (xs : List ℕ) → Octets xs → Sound (played xs)
sound stands xs o =
    record {
      near = λ n is. omega (arith, (sound_readable stands n xs o).few);
      sixteen = λ n i is h. (sound_readable stands n xs o).sixteen i h;
      octets = λ n i is h. (sound_readable stands n xs o).octets i;
    }

-- ---- the reading for a nonce

-- the records of those that are ahead
abbrev pub entries : List (ℕ × Entry) → List Entry
entries ps = map (λ p. p.1) ps

entries-placed : (at : ℕ) (es : List Entry) → entries (placed at es) ≡ es
entries-placed at [] = refl
entries-placed at (e ∷ es) = ap (λ (l : List Entry). e ∷ l) (entries-placed (at + length (written e)) es)

pub entries_start : (xs : List ℕ) → entries (ahead xs 0) ≡ readable xs
unfolding ahead
entries_start xs = go (ltb 65536 (length xs))
  where
    go : (b : Bool) → entries (cond b [] (placed 0 (records xs))) ≡ cond b [] (records xs)
    go true = refl
    go false = entries-placed 0 (records xs)

-- whether two nonces are equal, as the code tests it
same_pointwise : (xs ys : List ℕ) → pointwise nat_eq xs ys ≡ same xs ys
same_pointwise [] [] = refl
same_pointwise [] (y ∷ ys) = refl
same_pointwise (x ∷ xs) [] = refl
same_pointwise (x ∷ xs) (y ∷ ys) = ap (λ (b : Bool). nat_eq x y && b) (same_pointwise xs ys)

pub same_nonce : (xs ys : List ℕ) → pointwise nat_eq xs ys ≡ true → xs ≡ ys
same_nonce xs ys h = (same_tells xs ys).0 (sym (same_pointwise xs ys) ∙ h)

-- the next record is a keystream record, with the nonce or with another, or a remark
pub under_keystream :
    (n : List ℕ) (at : ℕ) (nonce : List ℕ) (blocks : List (List ℕ)) (all rest : List (ℕ × Entry)) → all ≡ (at, keystream nonce blocks) ∷ rest
    → blocks_under n (entries all) ≡ cond (pointwise nat_eq nonce n) blocks (blocks_under n (entries rest))
under_keystream n at nonce blocks all rest e =
    ap (λ (l : List (ℕ × Entry)). blocks_under n (entries l)) e
    ∙ ap (λ (b : Bool). cond b blocks (blocks_under n (entries rest))) (sym (same_pointwise nonce n))

pub under_remark :
    (n : List ℕ) (at : ℕ) (text : List ℕ) (all rest : List (ℕ × Entry)) → all ≡ (at, remark text) ∷ rest
    → blocks_under n (entries all) ≡ blocks_under n (entries rest)
under_remark n at text all rest e = ap (λ (l : List (ℕ × Entry)). blocks_under n (entries l)) e

pub under_end : (n : List ℕ) (all : List (ℕ × Entry)) → all ≡ [] → blocks_under n (entries all) ≡ []
under_end n all e = ap (λ (l : List (ℕ × Entry)). blocks_under n (entries l)) e

-- what the search of a recording rests on
pub ruleset searching = (entries_start, under_keystream, under_remark, under_end)

-- ---- what is played

-- records without the nonce are gone past
past : (n : List ℕ) (es later : List Entry) → ((bs : List (List ℕ)) → ¬ Contains es (keystream n bs)) → blocks_under n (es ++ later) ≡ blocks_under n later
past n [] later h = refl
past n (remark text ∷ es) later h = past n es later (λ bs found. h bs (Contains-append_right (remark text ∷ []) es (keystream n bs) found))
past n (keystream nonce blocks ∷ es) later h =
    go (same nonce n) refl (past n es later (λ bs found. h bs (Contains-append_right (keystream nonce blocks ∷ []) es (keystream n bs) found)))
  where
    go : (b : Bool) → same nonce n ≡ b → blocks_under n (es ++ later) ≡ blocks_under n later → cond b blocks (blocks_under n (es ++ later)) ≡ blocks_under n later
    go true e rest = absurd (h blocks (0, omega arith, ap (λ (m : List ℕ). keystream m blocks) ((same_tells nonce n).0 e)))
    go false e rest = rest

-- of records and then a rest with which no record begins, each is played
played_run : RecordingStands → (es : List Entry) (xs : List ℕ) (run : Run es xs) → Octets run.rest → length xs ≤ 65536 → readable xs ≡ es
played_run stands es xs run o h = let all = stands.only es xs run o in grind (arith, nat_tests)

-- no record begins where there are no bytes
no_record : NoRecord []
no_record (keystream nonce blocks) later there = let parts = there.parts in absurd (cc)
no_record (remark text) later there = let parts = there.parts in absurd (cc)

too_long : (xs : List ℕ) → 65536 < length xs → readable xs ≡ []
too_long xs h = grind (arith, nat_tests)

pub playback_stands : RecordingStands → PlaybackStands
playback_stands stands =
    record {
      damaged = λ es rest formed o none h. played_run stands es (flat_map written es ++ rest) record { formed = formed; rest = rest; parts = refl; none = none } o h;
      whole = λ es formed h.
          played_run stands es (flat_map written es) record { formed = formed; rest = []; parts = sym (append-nil (flat_map written es)); none = no_record } (λ k. omega arith) h;
      long = too_long;
      first = λ n blocks es later h.
          past n es (keystream n blocks ∷ later) h
          ∙ ap (λ (b : Bool). cond b blocks (blocks_under n later)) ((same_tells n n).1 refl);
      none = λ n es h. ap (blocks_under n) (sym (append-nil es)) ∙ past n es [] h;
    }
