-- The tables so far are narrow.
use Rattle.std.proofs.Common.{ℕ, ◌<◌, ◌^◌, length}
use Rattle.std.specs.Prelude.{slice_index_or}
use Rattle.sql_tree.specs.declared.table.Table.{Table}
use Rattle.case_tables.proofs.tables.are_narrow.Given as goal

abbrev pub invariant-loop-table : goal.invariant-loop-table
invariant-loop-table l = (k : ℕ) (d : Table) → k < l.table-index → k < length l.tables → length (slice_index_or l.tables k d).columns < 2 ^ 32
