use Rattle.std.proofs.Common.{◌≡◌, drop}
use Rattle.std.specs.List.{list_any}
use Rattle.std.specs.Str.{bytes_eq}
use Rattle.table_schema.specs.Columns.{names}
use Rattle.table_schema.proofs.columns.is_among.Given as goal

abbrev pub invariant-loop-column : goal.invariant-loop-column
invariant-loop-column l =
    list_any (λ other. bytes_eq other l.name) (names (drop l.column-index l.columns)) ≡ list_any (λ other. bytes_eq other l.name) (names l.columns)
