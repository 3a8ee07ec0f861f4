-- The typing of UPDATE and DELETE (PostgreSQL's documentation, "UPDATE" and "DELETE").
use Rattle.std.specs.Prelude.{ℕ, Bool, true, false, ◌&&◌, ◌||◌, ◌==◌, if◌then◌else◌, List, [], ◌∷◌, ◌++◌, Option, Some, None, Ok, Err}
use Rattle.std.specs.List.{list_any}
use Rattle.cell_base.specs.declared.sql_state.SqlState.TheVariants.{S0A000, S42601}
use Rattle.sql_tree.specs.declared.expr.Expr.{Expr}
use Rattle.sql_tree.specs.declared.statement.Delete.{Delete}
use Rattle.sql_tree.specs.declared.statement.Update.{Update}
use Rattle.sql_tree.specs.declared.table.Table.{Table}
use Rattle.sql_tree.specs.declared.typed.TypedChange.{TypedChange}
use Rattle.sql_tree.specs.declared.typed_expr.TypedExpr.{TypedExpr}
use Rattle.typing_rules.specs.Outcome.{Outcome, and_then}
use Rattle.typing_rules.specs.Names.{Source}
use Rattle.typing_rules.specs.Expressions.{flag}
use Rattle.typing_rules.specs.Tables.{table_named, Target, target_named, is_among}
use Rattle.typing_rules.specs.Given.{cell}
use Rattle.typing_rules.specs.Mentions.{mentions, in_filter, columns_where}
use Rattle.typing_rules.specs.Points.{point_of}

abbrev pub own_source : Table → List Source
own_source t = record { name = t.name; columns = t.columns } ∷ []

abbrev pub filter_of : List Source → Option Expr → Outcome (Option TypedExpr)
filter_of sources None = Ok None
filter_of sources (Some e) = and_then (flag sources e) (λ f. Ok (Some f))

-- the assigned columns: unknown 42703, twice 42601, the key 0A000
abbrev pub assigned_from : Table → List Target → List (List ℕ × Option Expr) → Outcome (List Target)
assigned_from t before [] = Ok before
assigned_from t before (a ∷ more) =
    and_then (target_named t.columns a.0) (λ c.
    if is_among c.number before then Err S42601 else (if c.number == t.key then Err S0A000 else assigned_from t (before ++ c ∷ []) more))

abbrev pub set_values : List Source → List Target → List (List ℕ × Option Expr) → Outcome (List (ℕ × TypedExpr))
set_values sources [] more = Ok []
set_values sources (c ∷ cs) [] = Ok []
set_values sources (c ∷ cs) (a ∷ more) =
    and_then (cell sources c.column a.1) (λ x. and_then (set_values sources cs more) (λ xs. Ok ((c.number, x) ∷ xs)))

-- whether an UPDATE reads a column: in a right side, in WHERE, or in a CHECK that mentions an assigned column
abbrev pub update_reads : Table → List (ℕ × TypedExpr) → Option TypedExpr → ℕ → Bool
update_reads t set filter c =
    list_any (λ a. mentions 0 c a.1) set || in_filter 0 c filter
    || list_any (λ check. mentions 0 c check && list_any (λ a. mentions 0 a.0 check) set) t.checks

unfoldable pub typed_update : List Table → Update → Outcome TypedChange
typed_update tables update =
    and_then (table_named tables update.table) (λ t.
    and_then (assigned_from t.table [] update.set) (λ targets.
    and_then (set_values (own_source t.table) targets update.set) (λ set.
    and_then (filter_of (own_source t.table) update.filter) (λ filter.
    Ok (record {
      table = t.number;
      point = point_of 0 t.table.key filter;
      mentioned = columns_where t.table (update_reads t.table set filter);
      filter = filter;
      set = set;
      delete = false;
    })))))

unfoldable pub typed_delete : List Table → Delete → Outcome TypedChange
typed_delete tables delete =
    and_then (table_named tables delete.table) (λ t.
    and_then (filter_of (own_source t.table) delete.filter) (λ filter.
    Ok (record {
      table = t.number;
      point = point_of 0 t.table.key filter;
      mentioned = columns_where t.table (λ c. in_filter 0 c filter);
      filter = filter;
      set = [];
      delete = true;
    })))
