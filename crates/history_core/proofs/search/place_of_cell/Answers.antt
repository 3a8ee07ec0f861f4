use Rattle.std.proofs.Common.{sym, subst}
use Rattle.std.specs.Prelude.{IfNone}
use Rattle.cell_base.specs.declared.cell.Cell.{Cell}
use Rattle.txn_buffer.specs.Buffer.{IsAbsent}
use Rattle.history_core.proofs.search.place_of_cell.Goals as goal

pub returns-in-Presence-clause-absent : goal.returns-in-Presence-clause-absent
returns-in-Presence-clause-absent c =
    subst (λ (x : Cell). IfNone c.place_of.result (IsAbsent c.args.cells.now x)) (sym c.in-Presence.is) c.place_of.ensures.absent

pub returns-in-Field-clause-absent : goal.returns-in-Field-clause-absent
returns-in-Field-clause-absent c =
    subst (λ (x : Cell). IfNone c.place_of-in-Field.result (IsAbsent c.args.cells.now x)) (sym c.in-Field.is) c.place_of-in-Field.ensures.absent
