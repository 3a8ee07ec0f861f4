-- What a call answers, given the outcome that is defined for it.
use Rattle.std.specs.Prelude.{◌≡◌, Ok, Err, Result, ⊤}
use Rattle.cell_base.specs.declared.sql_fault.SqlFault.{SqlFault}
use Rattle.cell_base.specs.declared.sql_fault.SqlFault.TheVariants.{State, Memory}
use Rattle.cell_base.specs.declared.value.Value.{Value}
use Rattle.cell_base.specs.declared.value.Value.TheVariants.{Text}
use Rattle.expr_eval.specs.Operators.{Outcome}

-- only a text takes memory
abbrev pub IsTextOutcome : Outcome → Type 0
IsTextOutcome (Ok (Text text)) = ⊤
IsTextOutcome _ = ⊥

-- exactly the value or the code, unless memory runs out
abbrev pub Answers : Result Value SqlFault → Outcome → Type 0
Answers (Ok v) outcome = outcome ≡ Ok v
Answers (Err (State code)) outcome = outcome ≡ Err code
Answers (Err Memory) outcome = IsTextOutcome outcome
