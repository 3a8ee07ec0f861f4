use Rattle.outcome_replies.proofs.Told.{outcomes_told}
use Rattle.outcome_replies.proofs.law.outcomes_can_be_told.Goals as goal

pub returns : goal.returns
returns c = outcomes_told
