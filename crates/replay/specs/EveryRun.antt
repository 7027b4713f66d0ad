-- The laws of a link and the round trip, of whatever is called on the two ends.
use Rattle.std.specs.Prelude.{ℕ, List, []}
use Rattle.generator.specs.Generators.{Meaning}
use Rattle.windows.specs.Windows.{new_window}
use Rattle.windows.specs.declared.Window.{Window}
use Rattle.link.specs.declared.settings.Settings.{Settings}
use Rattle.link.specs.declared.settings.Terms.{Terms}
use Rattle.replay.specs.Asked.{CallsOctets}
use Rattle.replay.specs.Laws.{Laws, OneLink}
use Rattle.replay.specs.RoundTrip.{RoundTrip}
use Rattle.replay.specs.Runs.{Call, Event, play}

-- what holds of a journal, from a next count of the sending end and a first count of the receiving end on
abbrev pub LawsOf : Meaning → Terms → ℕ → ℕ → List Event → Type 0
LawsOf m s next first journal = Laws m s first journal × RoundTrip next first journal

-- it holds of what comes of every list of calls that hand over bytes
abbrev pub EveryRun : Meaning → Meaning → Terms → Terms → ℕ → Window → ℕ → Type 0
EveryRun m k s r next w first = (calls : List Call) → CallsOctets calls → LawsOf m s next first (play m k s r [] next w calls)

-- as long as the two ends are those of one link
abbrev pub LinkLaws : Meaning → Meaning → Settings → Settings → ℕ → Window → Type 0
LinkLaws m k s r next w = OneLink m k s.terms r.terms w r.first → EveryRun m k s.terms r.terms next w r.first

-- the journal of a list of calls on two new ends, which mean m and are set alike
abbrev pub new_run : Meaning → Settings → List Call → List Event
new_run m s calls = play m m s.terms s.terms [] s.first (new_window s.first) calls

-- what holds of it, whatever the calls
abbrev pub EveryNewRun : Meaning → Settings → Type 0
EveryNewRun m s = EveryRun m m s.terms s.terms s.first (new_window s.first) s.first
