-- The calls of aggregates, with what they keep.
use Rattle.std.specs.Prelude.{◌≡◌, true, Option, Some, None, unwrap_or, Result, Ok, Err, ⊤}
use Rattle.cell_base.specs.declared.sql_fault.SqlFault.{SqlFault}
use Rattle.cell_base.specs.declared.sql_fault.SqlFault.TheVariants.{State, Memory}
use Rattle.cell_base.specs.declared.value.Value.{Value}
use Rattle.cell_base.specs.declared.value.Value.TheVariants.{Flag}
use Rattle.sql_tree.specs.declared.typed_expr.TypedExpr.{TypedExpr}
use Rattle.typing_rules.specs.Outcome.{Outcome, and_then}
use Rattle.expr_eval.specs.Values.{Row, value_of}
use Rattle.row_meaning.specs.Groups as groups
use Rattle.row_totals.specs.declared.calls.Call.{Call}
use Rattle.row_totals.specs.declared.tally.Tally.{Tally}
use Rattle.row_totals.specs.Tallies.{started, with_value}

-- `*` stands for a value that is never null
abbrev pub operand_value : Option TypedExpr → Row → Outcome Value
operand_value None row = Ok (Flag true)
operand_value (Some e) row = value_of e row

-- what a call's operand means, and what it keeps: of a call in the code, and of one in the definition before the first row
abbrev pub meant : Call → (Row → Outcome Value) × Tally
meant call = (operand_value call.operand, call.tally)

abbrev pub at_start : groups.Call → (Row → Outcome Value) × Tally
at_start call = (call.operand, started call.kind call.function)

-- a call with one row more
abbrev pub added_to : Row → Call → Outcome Call
added_to row call = and_then (operand_value call.operand row) (λ v. Ok (record { operand = call.operand; tally = with_value call.tally v }))

-- exactly the outcome, unless memory runs out, where the value stands after a reference
abbrev pub Leaves : {A B : Type 0} → Result A SqlFault → B → Outcome B → Type 0
Leaves (Ok a) new outcome = outcome ≡ Ok new
Leaves (Err (State code)) new outcome = outcome ≡ Err code
Leaves (Err Memory) new outcome = ⊤

-- what a call keeps with one row more; none stands for the same as before
abbrev pub NextTally : Result (Option Tally) SqlFault → Call → Row → Type 0
NextTally (Ok new) call row = and_then (operand_value call.operand row) (λ v. Ok (with_value call.tally v)) ≡ Ok (unwrap_or new call.tally)
NextTally (Err (State code)) call row = operand_value call.operand row ≡ Err code
NextTally (Err Memory) call row = ⊤
