-- The nonce of a message.
use Rattle.std.specs.Prelude.{◌≡◌, ℕ, ◌+◌, ◌*◌, ◌^◌, ◌<◌, ◌≤◌, Bool, cond, ◌||◌, List, [], ◌∷◌, ◌++◌, Some, None, Option, Result, nat_lt, unwrap_or}
use Rattle.units.specs.Refusals.{◌⊳◌, refused, unless}
use Rattle.units.specs.Strings.{Octets, four}
use Rattle.units.specs.declared.refusals.Layer.TheVariants.{Cover}
use Rattle.units.specs.declared.refusals.Reason.TheVariants.{BearerDirection, TagSize}
use Rattle.units.specs.declared.refusals.Refusal.{Refusal}
use Rattle.generator.specs.Generators.{IsNonce}
use Rattle.generator.specs.declared.generators.Nonce.{Nonce}
use Rattle.nonces.specs.declared.ExtraIv.{ExtraIv}
use Rattle.nonces.specs.declared.Parameters.{Parameters}

-- EXTRA_IV as six bytes; absent, six zero bytes
abbrev pub extra_bytes : Option ExtraIv → List ℕ
extra_bytes (Some v) = v.b0 ∷ v.b1 ∷ v.b2 ∷ v.b3 ∷ v.b4 ∷ v.b5 ∷ []
extra_bytes None = 0 ∷ 0 ∷ 0 ∷ 0 ∷ 0 ∷ 0 ∷ []

-- a flag as a bit
abbrev pub bit : Bool → ℕ
bit flag = cond flag 1 0

-- the tag size (0 without a tag), the combined flag, LK, which is 0, and the instance bit; BEARER and DIRECTION; EXTRA_IV; COUNT
unfoldable pub nonce : ℕ → Bool → Bool → Parameters → List ℕ
nonce t combined instance p =
    (t * 8 + bit combined * 4 + 0 * 2 + bit instance) ∷ (p.bearer * 2 + p.direction) ∷ (extra_bytes p.extra_iv ++ four p.count)

-- BEARER outside 0 to 31, or DIRECTION outside 0 and 1
abbrev pub line_outside : Parameters → Bool
line_outside p = nat_lt 31 p.bearer || nat_lt 1 p.direction

-- a tag size outside 4 to 16
abbrev pub size_outside : ℕ → Bool
size_outside t = nat_lt t 4 || nat_lt 16 t

-- why there is no nonce: 2, and then 3, which concerns a message with a tag alone
abbrev pub nonce_refusal : Option ℕ → Parameters → Option Refusal
nonce_refusal None p = refused (line_outside p) BearerDirection Cover 0
nonce_refusal (Some t) p = refused (line_outside p) BearerDirection Cover 0 ⊳ refused (size_outside t) TagSize Cover 0

-- the answer to one who asks for a nonce
abbrev pub given : Option ℕ → Bool → Bool → Parameters → Result Nonce Refusal
given t combined instance p = unless (nonce_refusal t p) (record { 0 = nonce (unwrap_or t 0) combined instance p })

-- a tag size and parameters within their ranges; the tag size is 0 without a tag
pub record Fit (t : ℕ) (p : Parameters) : Type 0 where
  pub size : t ≤ 16
  pub bearer : p.bearer ≤ 31
  pub direction : p.direction ≤ 1
  pub count : p.count < 2 ^ 32

-- the parts of two nonces are the same; an absent EXTRA_IV is the same as six zero bytes
pub record Alike (t u : ℕ) (c d i j : Bool) (p q : Parameters) : Type 0 where
  pub size : t ≡ u
  pub combined : c ≡ d
  pub instance : i ≡ j
  pub bearer : p.bearer ≡ q.bearer
  pub direction : p.direction ≡ q.direction
  pub extra_iv : extra_bytes p.extra_iv ≡ extra_bytes q.extra_iv
  pub count : p.count ≡ q.count

-- nonces whose parts are not all the same differ: two nonces are equal only where their parts are the same
abbrev pub NoncesDiffer : Type 0
NoncesDiffer =
    (t u : ℕ) (c d i j : Bool) (p q : Parameters)
    → Fit t p
    → Fit u q
    → nonce t c i p ≡ nonce u d j q
    → Alike t u c d i j p q

-- a nonce that is given is twelve bytes, where EXTRA_IV is bytes
abbrev pub NoncesTwelve : Type 0
NoncesTwelve =
    (t : Option ℕ) (combined instance : Bool) (p : Parameters)
    → nonce_refusal t p ≡ None
    → Octets (extra_bytes p.extra_iv)
    → IsNonce (nonce (unwrap_or t 0) combined instance p)

-- what holds of the nonces of messages
pub record NoncesStand : Type 0 where
  pub differ : NoncesDiffer
  pub twelve : NoncesTwelve
