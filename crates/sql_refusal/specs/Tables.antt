-- The rules that the code holds as data, as forms. No public clause speaks of them.
use Rattle.std.specs.Prelude.{◌≡◌, Bool, false, List, [], ◌∷◌, map, Option, Some, None}
use denote.Bor.{Bor}
use Rattle.sql_grammar.specs.declared.mark.Mark.{Mark}
use Rattle.sql_grammar.specs.declared.mark.Sought.TheVariants as sought
use Rattle.sql_grammar.specs.Grammar as g
use Rattle.sql_grammar.specs.Steps as steps
use Rattle.sql_grammar.specs.Steps.{the, a_name, a_number, a_string}
use Rattle.sql_grammar.specs.Syntax.{Kind}
use Rattle.sql_refusal.specs.declared.rule.Level.{Level}
use Rattle.sql_refusal.specs.declared.rule.Level.TheVariants as l
use Rattle.sql_refusal.specs.declared.rule.Pattern.{Pattern}
use Rattle.sql_refusal.specs.declared.rule.Pattern.TheVariants as p
use Rattle.sql_refusal.specs.declared.rule.Rule.{Rule, Nothing, Plain, Reserved, Key, Sign, Name, Number, Text, Any, Part, Then', Either', Many'}
use Rattle.sql_refusal.specs.Forms.{Form, nothing, mark, part, ◌▸◌, either, many, Passer, one_of}

abbrev pub level_of : Level → g.Level
level_of l.Or = g.expr
level_of l.And = g.and
level_of l.Not = g.not
level_of l.Is = g.is
level_of l.Comparison = g.cmp
level_of l.Range = g.rng
level_of l.Sum = g.sum
level_of l.Product = g.prod
level_of l.Signed = g.un
level_of l.Atom = g.atom

abbrev pub pattern_of : Pattern → steps.Pattern
pattern_of (p.Key k) = the (sought.Key k)
pattern_of (p.Sign s) = the (sought.Sign s)
pattern_of p.Name = a_name []
pattern_of p.Number = a_number
pattern_of p.Text = a_string

abbrev pub form_of : Rule → Form
form_of Nothing = nothing
form_of (Plain w) = mark (the (sought.Plain w) ∷ [])
form_of (Reserved w) = mark (the (sought.Reserved w) ∷ [])
form_of (Key k) = mark (the (sought.Key k) ∷ [])
form_of (Sign s) = mark (the (sought.Sign s) ∷ [])
form_of (Name but) = mark (a_name but.now ∷ [])
form_of Number = mark (a_number ∷ [])
form_of Text = mark (a_string ∷ [])
form_of (Any ps) = mark (map pattern_of ps.now)
form_of (Part l) = part (level_of l)
form_of (Then' p a q b) = form_of a ▸ form_of b
form_of (Either' p a q b) = either (form_of a) (form_of b)
form_of (Many' p a) = many (form_of a)

-- whether the form is one mark, and this mark is as it asks for
abbrev pub fits_one : Form → Kind → Bool
fits_one (mark ps) m = steps.any ps m
fits_one _ m = false

abbrev pub single : Form → Passer
single (mark ps) ts = one_of ps ts
single _ ts = None

-- the marks that were left
abbrev pub Leaves : Option (List Mark) → Option (Bor (List Mark)) → Type 0
Leaves outcome (Some rest) = outcome ≡ Some rest.now
Leaves outcome None = outcome ≡ None
