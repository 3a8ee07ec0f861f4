use Rattle.std.proofs.Common.{List, length, take, refl, sym, subst}
use Rattle.std.proofs.lemmas.Option.{slice_get_read}
use Rattle.sql_tree.specs.declared.table.Table.{Table}
use Rattle.committed_rows.specs.Defining.{DefinesMore}
use Rattle.committed_rows.proofs.Noted.{next_prefix}
use Rattle.committed_rows.proofs.Steps.{may_define, more_then}
use Rattle.committed_rows.proofs.start.define_all.Goals as goal

pub define-requires-clause-may : goal.define-requires-clause-may
define-requires-clause-may c =
    may_define c.args.seat.now c.loop-table.seat c.args.tables.now c.loop-table.table-index c.table-item.result c.requires.fresh c.requires.stand
    c.loop-table.invariant
    (slice_get_read c.args.tables.now (length c.args.tables.now) c.loop-table.table-index c.table-item.result refl c.loop-table-test.true c.table-item.is)

pub loop-table-preserved : goal.loop-table-preserved
loop-table-preserved c =
    subst (λ (ts : List Table). DefinesMore c.args.seat.now ts c.define.new.seat)
    (sym (next_prefix c.args.tables.now c.loop-table.table-index c.table-item.result
    (slice_get_read c.args.tables.now (length c.args.tables.now) c.loop-table.table-index c.table-item.result refl c.loop-table-test.true c.table-item.is)))
    (more_then c.args.seat.now c.loop-table.seat c.define.new.seat (take c.loop-table.table-index c.args.tables.now) c.table-item.result
    c.loop-table.invariant c.in_ok-define.ensures.ok)
