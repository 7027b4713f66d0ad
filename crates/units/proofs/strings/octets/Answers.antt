use Rattle.std.proofs.Common.{◌≡◌, ◌↔◌, ℕ, get_or, sym, subst, rules}
use Rattle.units.specs.Strings.{united}
use Rattle.units.proofs.StringLaws.{united_none}
use Rattle.units.proofs.strings.octets.Goals as goal

pub returns-clause-none : goal.returns-clause-none
returns-clause-none c =
    let value : c.fold.result ≡ united c.args.bytes.now = search rules in
    subst (λ (n : ℕ). n ≡ 0 ↔ ((k : ℕ) → get_or c.args.bytes.now k 0 ≡ 0)) (sym value) (united_none c.args.bytes.now)
