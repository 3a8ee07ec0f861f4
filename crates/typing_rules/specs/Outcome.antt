-- What typing comes to: a value, or the code that comes first.
use Rattle.std.specs.Prelude.{List, [], ◌∷◌, Result, Ok, Err}
use Rattle.cell_base.specs.declared.sql_state.SqlState.{SqlState}

abbrev pub Outcome : Type 0 → Type 0
Outcome A = Result A SqlState

-- the code of the first, or else what follows from its value
abbrev pub and_then : {A B : Type 0} → Outcome A → (A → Outcome B) → Outcome B
and_then (Ok a) f = f a
and_then (Err code) f = Err code

-- all values, or the first code from left to right
abbrev pub all_of : {A : Type 0} → List (Outcome A) → Outcome (List A)
all_of [] = Ok []
all_of (a ∷ as') = and_then a (λ x. and_then (all_of as') (λ xs. Ok (x ∷ xs)))
