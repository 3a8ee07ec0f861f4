use Rattle.std.proofs.Common.{sym, subst}
use Rattle.history_core.specs.declared.event.Event.{Event}
use Rattle.history_log.specs.Leading.{IsLeading}
use Rattle.history_log.proofs.leading.leading_event.Goals as goal

pub returns-in-Some : goal.returns-in-Some
returns-in-Some c = subst (λ (event : Event). IsLeading event c.args.text.now c.in-Some.rest.now) (sym c.event.ensures) c.in-Some.ensures
