-- The blocks that AES-256 makes as a generator.
use Rattle.std.proofs.Common.{◌≡◌, ℕ, ◌+◌, List, [], ◌∷◌, ◌++◌, append-nil, map, length, take, drop, ap, ◌∙◌, ap₂, arith}
use borrow.Rule.Slice.PartMut.{put_mid}
use Rattle.std.specs.List.{range_with_len}
use Rattle.std.proofs.lemmas.List.{drop_at, take_at}
use Rattle.std.proofs.lemmas.Simd.{map-map}
use Rattle.units.specs.Strings.{four}
use Rattle.units.proofs.FillLaws.{filled, filled_all}
use Rattle.aes.specs.Blocks.{EncryptsToBlocks}
use Rattle.aes.specs.KeyExpansion.{aes256}
use Rattle.generator.specs.Generators.{Sound}
use Rattle.aes_generator.specs.AesGenerator.{aes_meaning, counter_block}

pub counter_written :
    (n new last : List ℕ) (i : ℕ) → length new ≡ 12 → new ≡ n → last ≡ four i
    → put_mid 12 4 (new ++ 0 ∷ 0 ∷ 0 ∷ 0 ∷ []) last ≡ counter_block n i
counter_written n new last i l e f =
    ap₂ (λ (x y : List ℕ). x ++ (last ++ drop 4 y)) (take_at new (0 ∷ 0 ∷ 0 ∷ 0 ∷ []) 12 l) (drop_at new (0 ∷ 0 ∷ 0 ∷ 0 ∷ []) 12 l)
    ∙ ap₂ (λ (x y : List ℕ). x ++ y) e (append-nil last ∙ f)

-- the counter blocks from an index on
abbrev pub counter_from : List ℕ → ℕ → ℕ → List ℕ
counter_from n first i = counter_block n (first + i)

pub all_right :
    (key n : List ℕ) (first i : ℕ) (cs blocks : List (List ℕ)) → length cs ≡ 8 → i ≡ 8 → take i cs ≡ filled (counter_from n first) i
    → blocks ≡ map (aes256 key) cs
    → blocks ≡ map (λ i. aes256 key (counter_block n (first + i))) (range_with_len 0 8)
all_right key n first i cs blocks l h e f =
    f ∙ ap (map (aes256 key)) (filled_all (counter_from n first) cs i 8 l h e) ∙ map-map (aes256 key) (counter_from n first) (range_with_len 0 8)

-- what AES means as a generator is sound, since each encryption is a block
pub aes_sound : (key : List ℕ) → EncryptsToBlocks key → Sound (aes_meaning key)
aes_sound key encrypts =
    record {
      near = λ n is. omega arith;
      sixteen = λ n i is h. encrypts.sixteen (counter_block n i);
      octets = λ n i is h. encrypts.octets (counter_block n i);
    }
