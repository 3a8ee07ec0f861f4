-- The reading of whole messages is exact against the grammar.
use Rattle.std.proofs.Common.{◌≡◌, List, [], ◌∷◌, Option, Some, None, Result, Ok, Err, refl, ap, sym, ◌∙◌}
use Rattle.std.specs.Prelude.{IfOk}
use Rattle.sql_tree.specs.declared.statement.Statement.{Statement}
use Rattle.sql_grammar.specs.declared.mark.Mark.{Mark}
use Rattle.sql_grammar.specs.Reading.{front}
use Rattle.sql_grammar.specs.Statements.{message}
use Rattle.sql_grammar.specs.Steps.{reading}
use Rattle.sql_grammar.proofs.Taken.{value_of}
use Rattle.sql_grammar.proofs.Messages.{message_sound, message_reads}
use Rattle.sql_parser.specs.declared.error.Refusal.{Refusal}
use Rattle.sql_parser.specs.declared.error.Refusal.TheVariants.{Memory, NotInGrammar}
use Rattle.sql_grammar.specs.Limited.{IsLimited, max_depth, max_rows, max_statements}
use Rattle.sql_parser.specs.Reads.{EndsWith, Gives}

pub found_is : (ts : List Mark) (r : Result (List Statement) Refusal) → EndsWith (reading (message max_depth max_rows max_statements) ts) r → IfOk r (λ xs. IsLimited ts xs)
found_is ts (Ok xs) e = message_sound max_depth max_rows max_statements ts xs e
found_is ts (Err Memory) e = tt
found_is ts (Err NotInGrammar) e = tt

pub only_is : (ts : List Mark) (r : Result (List Statement) Refusal) → EndsWith (reading (message max_depth max_rows max_statements) ts) r → (xs : List Statement) → IsLimited ts xs → Gives r xs
only_is ts (Ok ys) e xs s = value_of ys xs [] [] (sym e ∙ message_reads max_depth max_rows max_statements ts xs s)
only_is ts (Err Memory) e xs s = tt
only_is ts (Err NotInGrammar) e xs s = e xs (message_reads max_depth max_rows max_statements ts xs s)

front_none : (ts : List Mark) → None ≡ front ts → ts ≡ []
front_none [] e = refl
front_none (m ∷ ts) e = cc

-- a reading after which nothing is left
pub ends_with : {A : Type 0} (whole : Option (A × List Mark)) (x : A) (ts : List Mark) → whole ≡ Some (x, ts) → None ≡ front ts → whole ≡ Some (x, [])
ends_with whole x ts e f = e ∙ ap (λ z. Some (x, z)) (front_none ts f)
