-- What a call gives, given the outcome that is defined for it: exactly the value or the code, unless memory runs out.
use Rattle.std.specs.Prelude.{◌≡◌, Result, Ok, Err}
use Rattle.cell_base.specs.declared.sql_fault.SqlFault.{SqlFault}
use Rattle.cell_base.specs.declared.sql_fault.SqlFault.TheVariants.{State, Memory}
use Rattle.typing_rules.specs.Outcome.{Outcome}

abbrev pub Gives : {A : Type 0} → Outcome A → Result A SqlFault → Type 0
Gives outcome (Ok x) = outcome ≡ Ok x
Gives outcome (Err (State code)) = outcome ≡ Err code
Gives outcome (Err Memory) = Unit {0}

-- the same where the call's value stands for another one
abbrev pub GivesBy : {A B : Type 0} → (A → B) → Outcome B → Result A SqlFault → Type 0
GivesBy meaning outcome (Ok x) = outcome ≡ Ok (meaning x)
GivesBy meaning outcome (Err (State code)) = outcome ≡ Err code
GivesBy meaning outcome (Err Memory) = Unit {0}
