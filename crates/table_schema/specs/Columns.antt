-- The names of columns.
use Rattle.std.specs.Prelude.{ℕ, List, map}
use Rattle.sql_tree.specs.declared.statement.ColumnDef.{ColumnDef}

abbrev pub names : List ColumnDef → List (List ℕ)
names = map (λ d. d.name)
