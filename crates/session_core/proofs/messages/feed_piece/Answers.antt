-- What is left to show of `feed_piece`.
use Rattle.std.proofs.Common.{[], refl, ◌∙◌}
use Rattle.session_core.specs.Told.{owed_by}
use Rattle.session_core.proofs.Meeting.{leads_own}
use Rattle.session_core.proofs.messages.feed_piece.Goals as goal

pub returns-in-Err-clause-leads : goal.returns-in-Err-clause-leads
returns-in-Err-clause-leads c = λ r fit.
    leads_own (owed_by c.args.phase) c.leave.result r (c.leave.ensures.owed r ∙ c.owed_by.ensures)
    (c.leave.ensures.under r) c.leave.ensures.outer
    (c.leave.ensures.lacks [] refl refl) c.leave.ensures.constant fit
