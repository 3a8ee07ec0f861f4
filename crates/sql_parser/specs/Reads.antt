-- What a function that reads ensures: this outcome, unless memory runs out.
use Rattle.std.specs.Prelude.{◌≡◌, ◌≢◌, List, [], Option, Some, None, Result, Ok, Err}
use Rattle.sql_grammar.specs.declared.mark.Mark.{Mark}
use Rattle.sql_parser.specs.declared.error.Refusal.{Refusal}
use Rattle.sql_parser.specs.declared.error.Refusal.TheVariants.{Memory, NotInGrammar}

abbrev pub Reads : {A : Type 0} → Option (A × List Mark) → Result A Refusal → List Mark → Type 0
Reads outcome (Ok a) new = outcome ≡ Some (a, new)
Reads outcome (Err Memory) new = Unit {0}
Reads outcome (Err NotInGrammar) new = outcome ≡ None

-- the same of a function that reads no mark
abbrev pub Makes : {A : Type 0} → (List Mark → Option (A × List Mark)) → Result A Refusal → Type 0
Makes outcome (Ok a) = (ts : List Mark) → outcome ts ≡ Some (a, ts)
Makes outcome (Err Memory) = Unit {0}
Makes outcome (Err NotInGrammar) = (ts : List Mark) → outcome ts ≡ None

-- the outcome is this value and no marks after it, unless memory runs out
abbrev pub EndsWith : {A : Type 0} → Option (A × List Mark) → Result A Refusal → Type 0
EndsWith outcome (Ok x) = outcome ≡ Some (x, [])
EndsWith outcome (Err Memory) = Unit {0}
EndsWith {A = A} outcome (Err NotInGrammar) = (x : A) → outcome ≢ Some (x, [])

-- the value, unless memory runs out
abbrev pub Gives : {A : Type 0} → Result A Refusal → A → Type 0
Gives (Ok y) x = y ≡ x
Gives (Err Memory) x = Unit {0}
Gives (Err NotInGrammar) x = ⊥
