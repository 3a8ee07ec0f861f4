-- The columns that a statement gives values to.
use Rattle.std.specs.Prelude.{◌≡◌, ◌==◌, ◌<◌, ℕ, false, if◌then◌else◌, List, [], ◌∷◌, map, Option, Result, Ok, Err}
use Rattle.cell_base.specs.declared.sql_fault.SqlFault.{SqlFault}
use Rattle.cell_base.specs.declared.sql_fault.SqlFault.TheVariants.{State, Memory}
use Rattle.cell_base.specs.declared.sql_state.SqlState.TheVariants.{S0A000, S42601}
use Rattle.sql_tree.specs.declared.expr.Expr.{Expr}
use Rattle.sql_tree.specs.declared.table.Table.{Table}
use Rattle.sql_tree.specs.declared.typed_expr.TypedExpr.{TypedExpr}
use Rattle.typing_rules.specs.Outcome.{Outcome, and_then}
use Rattle.typing_rules.specs.Changes.{assigned_from, own_source, set_values}
use Rattle.typing_rules.specs.Tables.{Target, target_named, is_among}
use Rattle.typing_parts.specs.declared.tables.ColumnAt.{ColumnAt}
use Rattle.typing_parts.specs.Numbered.{target}

abbrev pub targets : List ColumnAt → List Target
targets = map target

-- these columns, or this code, unless memory runs out
abbrev pub Finds : Outcome (List Target) → Result (List ColumnAt) SqlFault → Type 0
Finds outcome (Ok columns) = outcome ≡ Ok (targets columns)
Finds outcome (Err (State code)) = outcome ≡ Err code
Finds outcome (Err Memory) = Unit {0}

-- numbers of columns of which there are so many, each once
abbrev pub AreColumns : ℕ → List Target → Type 0
AreColumns count [] = Unit {0}
AreColumns count (t ∷ ts) = (t.number < count) × ((is_among t.number ts ≡ false) × AreColumns count ts)

-- a column that is assigned after these
abbrev pub assigned_target : Table → List Target → List ℕ → Outcome Target
assigned_target t before name =
    and_then (target_named t.columns name) (λ c. if is_among c.number before then Err S42601 else (if c.number == t.key then Err S0A000 else Ok c))

-- the assigned columns, each with its right side
abbrev pub assigned_values : Table → List (List ℕ × Option Expr) → Outcome (List (ℕ × TypedExpr))
assigned_values t set = and_then (assigned_from t [] set) (λ targets. set_values (own_source t) targets set)
