use Rattle.std.proofs.Common.{take}
use Rattle.committed_rows.specs.Defining.{DefinesMore}
use Rattle.committed_rows.proofs.start.define_all.Given as goal

abbrev pub invariant-loop-table : goal.invariant-loop-table
invariant-loop-table l = DefinesMore l.fn.seat (take l.table-index l.tables) l.seat
