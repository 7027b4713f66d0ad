use Rattle.std.proofs.Common.{◌≡◌, ◌∙◌, ap, map, refl}
use Rattle.generator.proofs.SameLaws.{Same-refl}
use Rattle.replay.specs.Journals.{played}
use Rattle.day.proofs.journal_of.Goals as goal

-- both ends have the key and the settings, and the window is new
pub returns-clause-laws : goal.returns-clause-laws
returns-clause-laws c =
    let sending : c.new-sender.result.generator.aes.key ≡ c.args.key.now.0 =
    ap (λ g. g.aes.key) c.new-sender.ensures.generator ∙ c.new.ensures
    in
    let receiving : c.new-receiver.result.generator.aes.key ≡ c.args.key.now.0 =
    ap (λ g. g.aes.key) c.new-receiver.ensures.generator ∙ c.new-2.ensures
    in
    let s = c.new-sender.ensures.settings in
    let r = c.new-receiver.ensures.settings in
    let laws = rw (sending, receiving, s, r, c.new-sender.ensures.next, c.new-receiver.ensures.window) at c.replay.ensures.laws in
    laws
    (record {
      same = Same-refl _;
      terms = record { bearer = refl; direction = refl; tag_size = refl; extra_iv = refl };
      new = refl;
    })

-- and the calls hand over bytes
pub returns-clause-own : goal.returns-clause-own
returns-clause-own c = returns-clause-laws c (map played c.args.calls.now) c.replay.ensures.bytes
