-- Nonces.
use Rattle.std.proofs.Common.{◌≡◌, ℕ, zero, suc, ◌+◌, ◌*◌, ◌/◌, ◌%◌, ◌^◌, ◌<◌, ◌≤◌, Bool, true, false, List, ◌∷◌, ◌++◌, length, Some, None, Option, get_or, take, drop, sym, refl, ap, ◌∙◌, arith, length-append}
use Rattle.std.proofs.lemmas.Bool.Decides.{nat_tests}
use Rattle.generator.specs.Generators.{IsNonce}
use Rattle.nonces.specs.Nonces.{NoncesDiffer, NoncesStand, NoncesTwelve, bit, extra_bytes, nonce}
use Rattle.nonces.specs.declared.ExtraIv.{ExtraIv}
use Rattle.units.specs.Strings.{Octets, four}
use Rattle.units.proofs.StringLaws.{Octets-append, Octets-four}

-- flags with the same bit are the same
bit_tells : (b c : Bool) → bit b ≡ bit c → b ≡ c
bit_tells true true e = refl
bit_tells true false e = absurd (omega arith)
bit_tells false true e = absurd (omega arith)
bit_tells false false e = refl

bit_small : (b : Bool) → bit b < 2
bit_small true = omega arith
bit_small false = omega arith

take_extra : (x : Option ExtraIv) (ys : List ℕ) → take 6 (extra_bytes x ++ ys) ≡ extra_bytes x
take_extra (Some v) ys = refl
take_extra None ys = refl

drop_extra : (x : Option ExtraIv) (ys : List ℕ) → drop 6 (extra_bytes x ++ ys) ≡ ys
drop_extra (Some v) ys = refl
drop_extra None ys = refl

-- numbers with the same four bytes are the same
four_tells : (m n : ℕ) → m < 2 ^ 32 → n < 2 ^ 32 → four m ≡ four n → m ≡ n
unfolding four
four_tells m n h g e =
    let at : (k : ℕ) → get_or (four m) k 0 ≡ get_or (four n) k 0 = λ k. ap (λ (l : List ℕ). get_or l k 0) e in
    let b0 : m / 16777216 % 256 ≡ n / 16777216 % 256 = at 0 in
    let b1 : m / 65536 % 256 ≡ n / 65536 % 256 = at 1 in
    let b2 : m / 256 % 256 ≡ n / 256 % 256 = at 2 in
    let b3 : m % 256 ≡ n % 256 = at 3 in
    omega arith

pub nonces_differ : NoncesDiffer
unfolding nonce
nonces_differ t u c d i j p q f g e =
    let at : (k : ℕ) → get_or (nonce t c i p) k 0 ≡ get_or (nonce u d j q) k 0 = λ k. ap (λ (l : List ℕ). get_or l k 0) e in
    let first : t * 8 + bit c * 4 + 0 * 2 + bit i ≡ u * 8 + bit d * 4 + 0 * 2 + bit j = at 0 in
    let second : p.bearer * 2 + p.direction ≡ q.bearer * 2 + q.direction = at 1 in
    let size : t ≡ u = omega (arith, first, bit_small c, bit_small d, bit_small i, bit_small j) in
    let flag : bit c ≡ bit d = omega (arith, first, bit_small c, bit_small d, bit_small i, bit_small j) in
    let instance : bit i ≡ bit j = omega (arith, first, bit_small c, bit_small d, bit_small i, bit_small j) in
    let bearer : p.bearer ≡ q.bearer = omega (arith, second, f.direction, g.direction) in
    let direction : p.direction ≡ q.direction = omega (arith, second, f.direction, g.direction) in
    let rest : extra_bytes p.extra_iv ++ four p.count ≡ extra_bytes q.extra_iv ++ four q.count = ap (drop 2) e in
    record {
      size = size;
      combined = bit_tells c d flag;
      instance = bit_tells i j instance;
      bearer = bearer;
      direction = direction;
      extra_iv = sym (take_extra p.extra_iv (four p.count)) ∙ ap (take 6) rest ∙ take_extra q.extra_iv (four q.count);
      count =
          four_tells p.count q.count f.count g.count
          (sym (drop_extra p.extra_iv (four p.count)) ∙ ap (drop 6) rest ∙ drop_extra q.extra_iv (four q.count));
    }

length_extra : (x : Option ExtraIv) → length (extra_bytes x) ≡ 6
length_extra (Some v) = refl
length_extra None = refl

-- two bytes, six, and the four of a number
twelve_bytes : (a b : ℕ) (x : Option ExtraIv) (c : ℕ) → a < 256 → b < 256 → Octets (extra_bytes x)
    → IsNonce (a ∷ b ∷ (extra_bytes x ++ four c))
unfolding four
twelve_bytes a b x c h k o =
    record {
      twelve = omega (arith, length-append (extra_bytes x) (four c), length_extra x);
      octets = octets;
    }
  where
    octets : Octets (a ∷ b ∷ (extra_bytes x ++ four c))
    octets zero = h
    octets (suc zero) = k
    octets (suc (suc i)) = Octets-append (extra_bytes x) (four c) o (Octets-four c) i

nonces_twelve : NoncesTwelve
unfolding nonce
nonces_twelve None combined instance p accepted o =
    let line : (p.bearer ≤ 31) × (p.direction ≤ 1) = (grind (arith, nat_tests, accepted), grind (arith, nat_tests, accepted)) in
    twelve_bytes (0 * 8 + bit combined * 4 + 0 * 2 + bit instance) (p.bearer * 2 + p.direction) p.extra_iv p.count
    (omega (arith, bit_small combined, bit_small instance)) (omega (arith, line.0, line.1)) o
nonces_twelve (Some t) combined instance p accepted o =
    let line : (p.bearer ≤ 31) × (p.direction ≤ 1) = (grind (arith, nat_tests, accepted), grind (arith, nat_tests, accepted)) in
    let size : t ≤ 16 = grind (arith, nat_tests, accepted) in
    twelve_bytes (t * 8 + bit combined * 4 + 0 * 2 + bit instance) (p.bearer * 2 + p.direction) p.extra_iv p.count
    (omega (arith, size, bit_small combined, bit_small instance)) (omega (arith, line.0, line.1)) o

pub nonces_stand : NoncesStand
nonces_stand = record { differ = nonces_differ; twelve = nonces_twelve }
