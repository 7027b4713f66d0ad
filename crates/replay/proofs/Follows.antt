-- A journal of which each event follows from those before it: what the laws are proved of.
use Rattle.std.proofs.Common.{◌≡◌, ℕ, List, [], ◌∷◌, ◌++◌}
use Rattle.units.specs.Strings.{Octets}
use Rattle.generator.specs.Generators.{Meaning}
use Rattle.windows.specs.Windows.{marked, new_window}
use Rattle.link.specs.Seals.{sealed}
use Rattle.link.specs.Opens.{opened}
use Rattle.link.specs.declared.settings.Terms.{Terms}
use Rattle.replay.specs.Runs.{Event, sealing, opening, losing, seal_event, open_event}
use Rattle.replay.specs.Laws.{counts_in}

-- the AAD and the message of a seal, and the frame of an open, are bytes
abbrev pub OctetsAsked : Event → Type 0
OctetsAsked (sealing e) = Octets e.asked.aad × Octets e.asked.message
OctetsAsked (opening o) = Octets o.asked.frame
OctetsAsked (losing n) = Unit {0}

-- of all calls of a journal
abbrev pub AllAsked : List Event → Type 0
AllAsked [] = Unit {0}
AllAsked (e ∷ es) = OctetsAsked e × AllAsked es

module _ (m : Meaning) (s : Terms) (first : ℕ) where
  -- with the next count, and after the counts `done` were opened
  abbrev pub Follows : ℕ → List ℕ → List Event → Type 0
  Follows next done [] = Unit {0}
  Follows next done (sealing e ∷ es) =
      (e ≡ seal_event e.asked (sealed m s next e.asked)) × Follows (sealed m s next e.asked).next done es
  Follows next done (opening o ∷ es) =
      (o ≡ open_event o.asked (opened m s (marked (new_window first) done) o.asked)) × Follows next (done ++ counts_in o.answer) es
  Follows next done (losing n ∷ es) = Follows next done es
