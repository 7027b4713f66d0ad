use Rattle.std.proofs.Common.{rules}
use Rattle.frames.specs.Frames.{view}
use Rattle.link.proofs.OpenLaws.{message_within, told_some, written_err}
use Rattle.link.proofs.receiving.Receiver.open.Goals as goal

pub returns-in_err-judge-clause-outcome : goal.returns-in_err-judge-clause-outcome
returns-in_err-judge-clause-outcome g c =
    let refused = told_some _ _ c.in_err-judge.ensures.value in
    search rules

pub returns-in_err-uncover-clause-outcome : goal.returns-in_err-uncover-clause-outcome
returns-in_err-uncover-clause-outcome g c =
    let refused = written_err _ _ _ _ _ c.in_err-uncover.ensures.outcome in
    search rules

pub returns-clause-message_within : goal.returns-clause-message_within
returns-clause-message_within g c = message_within (view c.in_ok-parts.parts) c.uncover.new.message c.in_ok-parts.ensures.fits (search rules)
