-- What functions ensure that read one part after the other.
use Rattle.std.specs.Prelude.{◌≡◌, List, [], ◌∷◌, ◌++◌, length, Option, Some, None, Result, Ok, Err}
use Rattle.sql_tree.specs.declared.token.Sign.TheVariants as s
use Rattle.sql_grammar.specs.declared.mark.Mark.{Mark}
use Rattle.sql_grammar.specs.declared.mark.Sought.TheVariants as sought
use Rattle.sql_grammar.specs.Reading.{Parser, and_then}
use Rattle.sql_grammar.specs.Syntax.{is, one}
use Rattle.sql_grammar.specs.Steps.{reading, repeat_from}
use Rattle.sql_parser.specs.declared.error.Refusal.{Refusal}
use Rattle.sql_parser.specs.declared.error.Refusal.TheVariants.{Memory, NotInGrammar}

-- the list was found so, unless memory runs out
abbrev pub Finds : {A : Type 0} → Option (List A × List Mark) → Result (Unit {0}) Refusal → List A → List Mark → Type 0
Finds outcome (Ok u) found new = outcome ≡ Some (found, new)
Finds outcome (Err Memory) found new = Unit {0}
Finds outcome (Err NotInGrammar) found new = outcome ≡ None

-- a list after what was found
abbrev pub following : {A : Type 0} → List A → Option (List A × List Mark) → Option (List A × List Mark)
following found outcome = and_then outcome (λ xs ts. Some (found ++ xs, ts))

abbrev pub single_by : {A : Type 0} → Parser A → Parser (List A)
single_by part ts = and_then (part ts) (λ x us. Some (x ∷ [], us))

-- a comma, and one more
abbrev pub after_comma : {A : Type 0} → Parser A → Parser (List A)
after_comma {A = A} part ts =
    and_then {A = Unit {0} × List A} (and_then (reading (one (sought.Sign s.Comma)) ts) (λ u us. and_then (single_by part us) (λ xs vs. Some ((u, xs), vs)))) (λ p us. Some (p.1, us))

-- one or more with commas between
abbrev pub listed_by : {A : Type 0} → Parser A → Parser (List A)
listed_by part ts = and_then (single_by part ts) (λ xs us. repeat_from (is (sought.Sign s.Comma)) (after_comma part) (length us) xs us)

-- '(' part ')'
abbrev pub braced_by : {A : Type 0} → Parser A → Parser A
braced_by {A = A} part ts =
    and_then {A = Unit {0} × A} (and_then (reading (one (sought.Sign s.Open)) ts) (λ u us. and_then
    (and_then {A = A × Unit {0}} (and_then (part us) (λ x vs. and_then (reading (one (sought.Sign s.Close)) vs) (λ y ws. Some ((x, y), ws)))) (λ p vs. Some (p.0, vs)))
    (λ x vs. Some ((u, x), vs)))) (λ p us. Some (p.1, us))
