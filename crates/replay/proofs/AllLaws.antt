-- The laws and the round trip, of every run of the two ends of a link.
use Rattle.std.proofs.Common.{ℕ, List, [], sym, refl, subst}
use Rattle.generator.specs.Generators.{Meaning, Same, Sound}
use Rattle.windows.specs.Windows.{new_window}
use Rattle.windows.specs.declared.Window.{Window}
use Rattle.link.specs.Settings.{Lawful}
use Rattle.link.specs.declared.settings.Settings.{Settings}
use Rattle.link.specs.declared.settings.Terms.{Terms}
use Rattle.replay.specs.Asked.{CallsOctets}
use Rattle.replay.specs.EveryRun.{EveryRun, LawsOf, LinkLaws}
use Rattle.replay.specs.Layers.{Layers}
use Rattle.replay.specs.Runs.{Call, Event, play}
use Rattle.replay.specs.Laws.{Laws, SameTerms}
use Rattle.replay.proofs.DecidesLaws.{sum_decides}
use Rattle.replay.proofs.Follows.{Follows}
use Rattle.replay.proofs.JournalLaws.{play_follows}
use Rattle.replay.proofs.OctetLaws.{play_asked}
use Rattle.replay.proofs.OnceLaws.{opened_once}
use Rattle.replay.proofs.PlaceLaws.{keystream_counted, keystream_once}
use Rattle.replay.proofs.ReturnLaws.{round_trip}

-- the sending end means m and the receiving end means the same, both have the same terms, and the receiving end has opened nothing
module _ (layers : Layers) (m k : Meaning) (s r : Terms) (next first : ℕ) (calls : List Call) (sound : Sound m) (alike : Same m k)
    (lawful : Lawful s) (shared : SameTerms s r) (octets : CallsOctets calls) where
  abbrev journal : List Event
  journal = play m k s r [] next (new_window first) calls

  follows : Follows m s first next [] journal
  follows = play_follows layers m k alike s r lawful shared first [] next (new_window first) [] calls refl

  laws : Laws m s first journal
  laws =
      record {
        keystream_once = keystream_once layers m s first sound lawful next [] journal follows;
        keystream_counted = keystream_counted layers m s first sound lawful next [] journal follows;
        sum_decides =
            sum_decides layers m sound s lawful first next journal follows
            (play_asked layers m sound k s lawful r [] next (new_window first) calls tt octets);
        opened_once = opened_once layers.windows m s first next [] journal follows;
      }

  laws_hold : LawsOf m s next first journal
  laws_hold = (laws, round_trip layers m sound s lawful first next journal follows)

pub link_laws : Layers → (m k : Meaning) (s r : Settings) (next : ℕ) (w : Window) → Sound m → Lawful s.terms → LinkLaws m k s r next w
link_laws layers m k s r next w sound lawful one =
    subst (λ (v : Window). EveryRun m k s.terms r.terms next v r.first) (sym one.new)
    (λ calls octets. laws_hold layers m k s.terms r.terms next r.first calls sound one.same lawful one.terms octets)
