-- What an end is set to.
use Rattle.std.specs.Prelude.{ℕ, ◌+◌, ◌*◌, ◌≤◌, Option, Result}
use Rattle.units.specs.Refusals.{◌⊳◌, unless}
use Rattle.units.specs.Strings.{Octets}
use Rattle.units.specs.declared.refusals.Reason.TheVariants.{BearerDirection, TagSize}
use Rattle.units.specs.declared.refusals.Refusal.{Refusal}
use Rattle.nonces.specs.Nonces.{extra_bytes, line_outside, size_outside}
use Rattle.nonces.specs.declared.Parameters.{Parameters}
use Rattle.link.specs.Answers.{refused_here}
use Rattle.link.specs.declared.settings.Terms.{Terms}

-- what the message of a count goes under
abbrev pub parameters : Terms → ℕ → Parameters
parameters s count = record { bearer = s.bearer; direction = s.direction; extra_iv = s.extra_iv; count = count }

-- why an end does not take terms: 2, and then 3
abbrev pub terms_refusal : Terms → Option Refusal
terms_refusal s =
    refused_here (line_outside (parameters s 0)) BearerDirection
    ⊳ refused_here (size_outside s.tag_size) TagSize

-- terms that an end takes
pub record Lawful (s : Terms) : Type 0 where
  pub bearer : s.bearer ≤ 31
  pub direction : s.direction ≤ 1
  pub smallest : 4 ≤ s.tag_size
  pub largest : s.tag_size ≤ 16
  pub extra_iv : Octets (extra_bytes s.extra_iv)

-- terms and a first count
pub record Setting : Type 0 where
  pub terms : Terms
  pub first : ℕ

abbrev pub setting : Terms → ℕ → Setting
setting s first = record { terms = s; first = first }

-- the settings that terms and a first count make
abbrev pub settled : Terms → ℕ → Result Setting Refusal
settled s first = unless (terms_refusal s) (setting s first)

-- BEARER × 2 + DIRECTION
abbrev pub line : Terms → ℕ
line s = s.bearer * 2 + s.direction
