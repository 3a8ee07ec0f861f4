use Rattle.std.proofs.Common.{List, sym, subst, All}
use Rattle.cell_base.specs.declared.cell.Cell.{Cell}
use Rattle.cell_base.specs.declared.value.Value.{Value}
use Rattle.history_core.specs.declared.event.Event.{Event}
use Rattle.history_core.specs.Initial.{IsInitialState}
use Rattle.history_log.specs.Log.{HasNoWide}
use Rattle.log_file.proofs.NoWide.{events_have_no_wide, initial_has_no_wide}
use Rattle.log_file.proofs.text.log_text.Goals as goal

pub print-requires-clause-initial : goal.print-requires-clause-initial
print-requires-clause-initial c =
    initial_has_no_wide c.cells-initial.result.now
    (subst (λ (cells : List (Cell × Value)). IsInitialState cells) (sym c.cells-initial.ensures.items) c.cells-initial.ensures.is)

pub print-requires-clause-events : goal.print-requires-clause-events
print-requires-clause-events c =
    let formed = c.events-events.ensures.formed in
    subst (λ (events : List Event). All HasNoWide events) (sym c.events-events.ensures.items)
    (events_have_no_wide c.args.history.now.initial c.args.history.now.events formed.initial formed.formed)
