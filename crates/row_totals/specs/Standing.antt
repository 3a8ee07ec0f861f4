-- What the totals stand for: the rows that were added so far.
use Rattle.std.specs.Prelude.{◌≡◌, List, [], ◌∷◌, ◌++◌, map, fold, Result, Ok, Err, ⊤}
use Rattle.cell_base.specs.declared.sql_fault.SqlFault.{SqlFault}
use Rattle.cell_base.specs.declared.sql_fault.SqlFault.TheVariants.{State, Memory}
use Rattle.cell_base.specs.declared.value.Value.{Value}
use Rattle.sql_tree.specs.declared.typed_expr.TypedExpr.{TypedExpr}
use Rattle.typing_rules.specs.Outcome.{Outcome, and_then, all_of}
use Rattle.expr_eval.specs.Values.{Row}
use Rattle.row_meaning.specs.Groups as groups
use Rattle.row_meaning.specs.Groups.{calls_of, operand_values, group_values}
use Rattle.row_totals.specs.declared.calls.Call.{Call}
use Rattle.row_totals.specs.declared.tally.Tally.{Tally}
use Rattle.row_totals.specs.declared.totals.Totals.{Totals}
use Rattle.row_totals.specs.Calls.{operand_value}
use Rattle.row_totals.specs.Tallies.{started, with_value}

-- what a call keeps of some rows, where its operand has a value in each
abbrev pub after : groups.Call → List Row → Outcome Tally
after call rows = and_then (all_of (map call.operand rows)) (λ values. Ok (fold with_value (started call.kind call.function) values))

-- the calls one by one: the same operand, and what is kept of the rows
abbrev pub AreTallied : List Row → List Call → List groups.Call → Type 0
AreTallied rows [] [] = ⊤
AreTallied rows (c ∷ cs) (call ∷ calls) = (operand_value c.operand ≡ call.operand) × (after call rows ≡ Ok c.tally) × AreTallied rows cs calls
AreTallied rows _ _ = ⊥

-- no operand had a fault in these rows, and of each call that is kept which its values in the rows give
pub record Stands (totals : Totals) (exprs : List TypedExpr) (rows : List Row) : Type 0 where
  pub evaluated : (values : List (List Value)) × (all_of (map (operand_values (calls_of exprs)) rows) ≡ Ok values)
  pub tallied : AreTallied rows totals.calls.items (calls_of exprs)

-- After one row more the totals stand for the rows with it. A code is that of the whole, whichever rows would follow.
abbrev pub Adds : Result (Unit {0}) SqlFault → Totals → List TypedExpr → List Row → Row → Type 0
Adds (Ok u) new exprs rows row = Stands new exprs (rows ++ row ∷ [])
Adds (Err (State code)) new exprs rows row = (more : List Row) → group_values exprs (rows ++ row ∷ more) ≡ Err code
Adds (Err Memory) new exprs rows row = ⊤
