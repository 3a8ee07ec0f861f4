use Rattle.std.proofs.Common.{List, ◌∙◌, subst}
use Rattle.cell_base.specs.declared.cell.Cell.{Cell}
use Rattle.cell_base.specs.declared.value.Value.{Value}
use Rattle.txn_buffer.specs.Buffer.{IsAbsent}
use Rattle.history_core.proofs.initial.InitialState.value.Goals as goal

pub returns-in-None-clause-none : goal.returns-in-None-clause-none
returns-in-None-clause-none c =
    subst (λ (xs : List (Cell × Value)). IsAbsent xs c.args.cell.now) (c.as_slice.ensures.value ∙ c.self.view_is) c.in-None.ensures.absent
