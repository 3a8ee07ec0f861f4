-- The columns of a result, as the definitions name them.
use Rattle.std.specs.Prelude.{ℕ, List, map, slice_get, Option, Some, None, Err}
use Rattle.cell_base.specs.declared.sql_state.SqlState.TheVariants.{S42601}
use Rattle.sql_tree.specs.declared.typed_expr.TypedExpr.{TypedExpr}
use Rattle.select_typing.specs.declared.output.Output.{Output}
use Rattle.typing_rules.specs.Select.{Output as Column, expr_or}
use Rattle.typing_rules.specs.Outcome.{Outcome}

abbrev pub output : Output → Column
output o = record { name = o.name; expr = o.expr }

abbrev pub outputs : List Output → List Column
outputs = map output

-- the value of the column at this place, from 0, where a place is given
abbrev pub at_index : List Column → Option ℕ → Outcome TypedExpr
at_index columns None = Err S42601
at_index columns (Some n) = expr_or (Err S42601) (slice_get columns n)
