-- Rules without their trees and limits: what they spell, and how it is passed over from left to right. No public clause speaks of it.
use Rattle.std.specs.Prelude.{◌≡◌, ℕ, zero, suc, Bool, true, false, ◌||◌, ◌&&◌, not as opposite, if◌then◌else◌, List, [], ◌∷◌, ◌++◌, length, Option, Some, None}
use Rattle.sql_tree.specs.declared.token.Sign.{Sign}
use Rattle.sql_tree.specs.declared.token.Sign.TheVariants as s
use Rattle.sql_grammar.specs.declared.mark.Keyword.{Keyword}
use Rattle.sql_grammar.specs.declared.mark.Keyword.TheVariants as k
use Rattle.sql_grammar.specs.declared.mark.Mark.{Mark}
use Rattle.sql_grammar.specs.declared.mark.Sought.TheVariants as sought
use Rattle.sql_grammar.specs.Grammar.{Level, expr, and, not, is, cmp, rng, sum, prod, un, atom}
use Rattle.sql_grammar.specs.Reading.{front}
use Rattle.sql_grammar.specs.Syntax as syntax
use Rattle.sql_grammar.specs.Syntax.{Kind, kind, Syntax}
use Rattle.sql_grammar.specs.Steps.{Pattern, the, a_name, a_number, a_string, any, apart}

infixr 20 ◌▸◌
pub data Form : Type 0 where
  nothing : Form
  -- one mark that is as one of the patterns
  mark : List Pattern → Form
  -- what a level of expressions spells
  part : Level → Form
  -- the one and then the other
  ◌▸◌ : Form → Form → Form
  either : Form → Form → Form
  -- any number of times
  many : Form → Form

-- the rule without its trees and limits
abbrev pub form : {A : Type 0} → Syntax A → Form
form (syntax.gives x) = nothing
form (syntax.one t) = mark (the t ∷ [])
form (syntax.name_but but) = mark (a_name but ∷ [])
form syntax.integer = mark (a_number ∷ [])
form syntax.text = mark (a_string ∷ [])
form (syntax.expression most) = part expr
form (syntax.◌⨟◌ a b) = form a ▸ form b
form (syntax.map f a) = form a
form (syntax.only test a) = form a
form (syntax.either a b) = either (form a) (form b)
form (syntax.repeat a b) = form a ▸ many (form b)

-- ---- what a form spells

-- The marks, all of them, are spelled by the form; what a level of expressions spells is given.
pub data Spelled (E : Level → List Mark → Type 0) : Form → List Mark → Type 0 where
  is_nothing : Spelled E nothing []
  is_mark : {ps : List Pattern} {m : Mark} → any ps (kind (Some m)) ≡ true → Spelled E (mark ps) (m ∷ [])
  is_part : {l : Level} {ts : List Mark} → E l ts → Spelled E (part l) ts
  both : {a b : Form} {ts us : List Mark} → Spelled E a ts → Spelled E b us → Spelled E (a ▸ b) (ts ++ us)
  left : {a b : Form} {ts : List Mark} → Spelled E a ts → Spelled E (either a b) ts
  right : {a b : Form} {ts : List Mark} → Spelled E b ts → Spelled E (either a b) ts
  none : {a : Form} → Spelled E (many a) []
  more : {a : Form} {ts us : List Mark} → Spelled E a ts → Spelled E (many a) us → Spelled E (many a) (ts ++ us)

-- ---- which marks a form begins with and goes on with

abbrev pub begins_atom : List Pattern
begins_atom = a_number ∷ a_string ∷ a_name [] ∷ the (sought.Key k.True) ∷ the (sought.Key k.False) ∷ the (sought.Key k.Null) ∷ the (sought.Sign s.Open) ∷ []

abbrev pub begins_signed : List Pattern
begins_signed = the (sought.Sign s.Plus) ∷ the (sought.Sign s.Minus) ∷ begins_atom

abbrev pub begins_not : List Pattern
begins_not = the (sought.Key k.Not) ∷ begins_signed

abbrev pub begins_at : Level → List Pattern
begins_at expr = begins_not
begins_at and = begins_not
begins_at not = begins_not
begins_at atom = begins_atom
begins_at _ = begins_signed

abbrev pub products : List Pattern
products = the (sought.Sign s.Star) ∷ the (sought.Sign s.Slash) ∷ the (sought.Sign s.Percent) ∷ []

abbrev pub sums : List Pattern
sums = the (sought.Sign s.Plus) ∷ the (sought.Sign s.Minus) ∷ []

abbrev pub ranges : List Pattern
ranges = the (sought.Key k.Not) ∷ the (sought.Key k.In) ∷ the (sought.Key k.Between) ∷ []

abbrev pub comparisons : List Pattern
comparisons = the (sought.Sign s.Eq) ∷ the (sought.Sign s.Ne) ∷ the (sought.Sign s.Lt) ∷ the (sought.Sign s.Le) ∷ the (sought.Sign s.Gt) ∷ the (sought.Sign s.Ge) ∷ []

abbrev pub after_atom : List Pattern
after_atom = the (sought.Sign s.Open) ∷ the (sought.Sign s.Dot) ∷ []

abbrev pub after_product : List Pattern
after_product = products ++ after_atom

abbrev pub after_sum : List Pattern
after_sum = sums ++ after_product

abbrev pub after_range : List Pattern
after_range = ranges ++ after_sum

abbrev pub after_comparison : List Pattern
after_comparison = comparisons ++ after_range

abbrev pub after_test : List Pattern
after_test = the (sought.Key k.Is) ∷ after_comparison

-- what may follow a spelling of the level and makes it longer
abbrev pub goes_at : Level → List Pattern
goes_at atom = after_atom
goes_at un = after_atom
goes_at prod = after_product
goes_at sum = after_sum
goes_at rng = after_range
goes_at cmp = after_comparison
goes_at is = after_test
goes_at not = after_test
goes_at and = the (sought.Key k.And) ∷ after_test
goes_at expr = the (sought.Key k.Or) ∷ the (sought.Key k.And) ∷ after_test

-- whether the form may spell no mark at all
abbrev pub empty : Form → Bool
empty nothing = true
empty (mark ps) = false
empty (part l) = false
empty (a ▸ b) = empty a && empty b
empty (either a b) = empty a || empty b
empty (many a) = true

-- what a spelling of the form may begin with
abbrev pub begins : Form → List Pattern
begins nothing = []
begins (mark ps) = ps
begins (part l) = begins_at l
begins (a ▸ b) = begins a ++ (if empty a then begins b else [])
begins (either a b) = begins a ++ begins b
begins (many a) = begins a

-- the same, as a test of one mark
abbrev pub may_begin : Form → Kind → Bool
may_begin nothing m = false
may_begin (mark ps) m = any ps m
may_begin (part l) m = any (begins_at l) m
may_begin (a ▸ b) m = may_begin a m || (empty a && may_begin b m)
may_begin (either a b) m = may_begin a m || may_begin b m
may_begin (many a) m = may_begin a m

-- what may follow a spelling of the form and would be taken for more of it
abbrev pub goes_on : Form → List Pattern
goes_on nothing = []
goes_on (mark ps) = []
goes_on (part l) = goes_at l
goes_on (a ▸ b) = goes_on b ++ (if empty b then goes_on a else [])
goes_on (either a b) = (goes_on a ++ goes_on b) ++ (if empty b then begins a else [])
goes_on (many a) = begins a ++ goes_on a

-- whether the next mark always tells how the form goes on
abbrev pub clear : Form → Bool
clear nothing = true
clear (mark ps) = true
clear (part l) = true
clear (a ▸ b) = (clear a && clear b) && apart (goes_on a) (begins b)
clear (either a b) = (clear a && clear b) && (opposite (empty a) && apart (begins a) (begins b))
clear (many a) = clear a && (opposite (empty a) && apart (goes_on a) (begins a))

-- ---- passing over

abbrev pub Passer : Type 0
Passer = List Mark → Option (List Mark)

abbrev pub and_on : Option (List Mark) → Passer → Option (List Mark)
and_on (Some ts) f = f ts
and_on None f = None

abbrev pub one_of : List Pattern → Passer
one_of ps [] = None
one_of ps (m ∷ ts) = if any ps (kind (Some m)) then Some ts else None

unfoldable pub many_from : (Kind → Bool) → Passer → ℕ → Passer
many_from first item zero ts = None
many_from first item (suc turns) ts = if first (kind (front ts)) then and_on (item ts) (many_from first item turns) else Some ts

unfoldable pub passes : (Level → Passer) → Form → Passer
passes p nothing ts = Some ts
passes p (mark ps) ts = one_of ps ts
passes p (part l) ts = p l ts
passes p (a ▸ b) ts = and_on (passes p a ts) (passes p b)
passes p (either a b) ts = if may_begin a (kind (front ts)) then passes p a ts else passes p b ts
passes p (many a) ts = many_from (may_begin a) (passes p a) (suc (length ts)) ts

-- ---- the levels

abbrev pub key : Keyword → Form
key v = mark (the (sought.Key v) ∷ [])

abbrev pub sign : Sign → Form
sign v = mark (the (sought.Sign v) ∷ [])

abbrev pub optional_not : Form
optional_not = either (key k.Not) nothing

abbrev pub chain : Level → List Pattern → Form
chain l links = part l ▸ many (mark links ▸ part l)

-- '(' expr { ',' expr } ')'
abbrev pub list : Form
list = sign s.Open ▸ part expr ▸ many (sign s.Comma ▸ part expr) ▸ sign s.Close

-- after a name: '.' name | '(' ( '*' | expr ) ')' | nothing
abbrev pub after_name : Form
after_name = either (sign s.Dot ▸ mark (a_name [] ∷ [])) (either (sign s.Open ▸ either (sign s.Star) (part expr) ▸ sign s.Close) nothing)

abbrev pub leaf : List Pattern
leaf = a_number ∷ a_string ∷ the (sought.Key k.True) ∷ the (sought.Key k.False) ∷ the (sought.Key k.Null) ∷ []

abbrev pub rule_at : Level → Form
rule_at expr = chain and (the (sought.Key k.Or) ∷ [])
rule_at and = chain not (the (sought.Key k.And) ∷ [])
rule_at not = many (key k.Not) ▸ part is
rule_at is = part cmp ▸ many (key k.Is ▸ optional_not ▸ key k.Null)
rule_at cmp = part rng ▸ either (mark comparisons ▸ part rng) nothing
rule_at rng = part sum ▸ either (optional_not ▸ either (key k.In ▸ list) (key k.Between ▸ part sum ▸ key k.And ▸ part sum)) nothing
rule_at sum = chain prod sums
rule_at prod = chain un products
rule_at un = many (mark sums) ▸ part atom
rule_at atom = either (mark leaf) (either (mark (a_name [] ∷ []) ▸ after_name) (sign s.Open ▸ part expr ▸ sign s.Close))

-- how a level is passed over in so many steps from level to level
unfoldable pub at : ℕ → Level → Passer
at zero l ts = None
at (suc n) l ts = passes (at n) (rule_at l) ts
