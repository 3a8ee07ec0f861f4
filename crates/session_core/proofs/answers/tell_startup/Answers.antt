-- What is left to show of `tell_startup`.
use Rattle.std.proofs.Common.{ℕ, ◌<◌, List, length, sym, subst}
use Rattle.session_core.specs.declared.turns.SessionStep.{SessionStep}
use Rattle.session_core.specs.Stands.{HasReply}
use Rattle.session_core.proofs.Somes.{startup-some}
use Rattle.session_core.proofs.answers.tell_startup.Goals as goal

pub returns-in-Ok-clause-some : goal.returns-in-Ok-clause-some
returns-in-Ok-clause-some c = λ r.
    subst (λ (x : SessionStep). HasReply x.stage r c.in-Ok.reply.items) (sym c.at_rest.ensures)
    (λ holding. subst (λ (x : List ℕ). 0 < length x) (sym c.in-Ok.ensures) (startup-some c.args.session))
