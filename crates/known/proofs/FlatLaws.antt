-- The flat keystream.
use Rattle.std.proofs.Common.{ℕ, zero, suc, ◌%◌, ◌<◌, List, length, replicate, cond, get_or, eqb, ltb, ◌++◌, refl, arith, ◌≡◌}
use Rattle.std.proofs.lemmas.Bool.{cond_both}
use Rattle.units.specs.Strings.{Octets}
use Rattle.units.proofs.StringLaws.{Octets-append}
use Rattle.known.specs.Flat.{FlatSound, e_bytes, flat}

Octets-replicate : (n x : ℕ) → x < 256 → Octets (replicate n x)
Octets-replicate zero x h k = omega arith
Octets-replicate (suc n) x h zero = h
Octets-replicate (suc n) x h (suc k) = Octets-replicate n x h k

-- what holds of each of the three blocks holds of every block
flat_each : (P : List ℕ → Type 0) → P e_bytes → P (replicate 16 0) → P (replicate 16 0xFF) → (n : List ℕ) (i : ℕ) → P (flat.block n i)
flat_each P e z f n i =
    cond_both (eqb (get_or n 0 0 % 2) 1) (cond (ltb i 2) e_bytes (replicate 16 0)) (replicate 16 0xFF) P
    (λ o. cond_both (ltb i 2) e_bytes (replicate 16 0) P (λ l. e) (λ l. z))
    (λ o. f)

e_octets : Octets e_bytes
e_octets =
    let zeros = Octets-replicate 14 0 (omega arith) in
    let last = Octets-replicate 1 0xC2 (omega arith) in
    Octets-append (replicate 1 0x01) (replicate 14 0 ++ replicate 1 0xC2) (Octets-replicate 1 0x01 (omega arith))
    (Octets-append (replicate 14 0) (replicate 1 0xC2) zeros last)

pub flat_sound : FlatSound
flat_sound =
    record {
      near = λ n is. omega arith;
      sixteen = λ n i is h. flat_each (λ (l : List ℕ). length l ≡ 16) refl refl refl n i;
      octets = λ n i is h.
          flat_each Octets e_octets (Octets-replicate 16 0 (omega arith)) (Octets-replicate 16 0xFF (omega arith)) n i;
    }
