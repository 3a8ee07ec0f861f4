use Rattle.std.proofs.Common.{◌≡◌, ◌≢◌, ◌<◌, ℕ, Some, slice_get}
use Rattle.sql_tree.specs.declared.table.Table.{Table}
use Rattle.table_schema.proofs.catalogue.number_of.Given as goal

abbrev pub invariant-loop-number : goal.invariant-loop-number
invariant-loop-number l = (k : ℕ) (table : Table) → k < l.number → slice_get l.tables k ≡ Some table → table.name ≢ l.name
