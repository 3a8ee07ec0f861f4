use Rattle.std.proofs.Common.{List, sym, ◌∙◌, ap, subst, Err}
use Rattle.sql_tree.specs.declared.table.Table.{Table}
use Rattle.history_core.specs.declared.fault.BookFault.{BookFault}
use Rattle.history_core.specs.Initial.{HoldsWholeRows}
use Rattle.history_core.specs.Chronicle.{Chronicle}
use Rattle.committed_rows.specs.Defining.{CanStand}
use Rattle.committed_rows.proofs.Tables.{tables_stand}
use Rattle.committed_rows.proofs.Started.{no_state, no_some, too_full_store}
use Rattle.committed_rows.proofs.start.start_after.Goals as goal

pub returns-in_default-clause-none : goal.returns-in_default-clause-none
returns-in_default-clause-none c =
    no_state c.args.level c.args.setup.now c.in_ok-cells.cells.items c.tables.ensures.formed c.in_ok-cells.ensures
    (λ fits. no_some c.new.result c.in_default.not-Some (c.new.ensures.exact.1 (
      fits.0,
      subst (λ (ts : List Table). HoldsWholeRows ts c.in_ok-cells.cells.items) (sym c.tables.ensures.items) fits.1,
      fits.2,
    )))

pub with_tables-requires-clause-stand : goal.with_tables-requires-clause-stand
with_tables-requires-clause-stand c =
    subst (λ (ts : List Table). CanStand ts) (sym c.tables-2.ensures.items) (tables_stand c.args.setup.now c.tables-2.ensures.formed)

pub returns-in-Err-Full-clause-none : goal.returns-in-Err-Full-clause-none
returns-in-Err-Full-clause-none c =
    too_full_store c.args.level c.args.setup.now c.in_ok-store.store c.in_ok-cells.cells.items c.in-Some.initial c.tables-2.result.now c.in_ok-cells.ensures
    (ap (λ (h : Chronicle). h.initial) c.in_ok-store.ensures) c.in-Some.ensures.some c.tables-2.ensures.items
    (c.with_tables.ensures.full c.in-Err-Full.field-0-0
    (c.in-Err-Full.is ∙ ap (λ (f : BookFault). Err f) c.in-Err-Full.field-0-is))
