-- How rules of statements are read, from left to right: what the private functions of the parser do. No public clause speaks of it.
use Rattle.std.specs.Prelude.{ℕ, ℤ, zero, suc, Bool, true, false, eqb, ◌||◌, ◌&&◌, not, if◌then◌else◌, List, [], ◌∷◌, ◌++◌, length, Option, Some, None}
use denote.Enum.Declared.{tag_of}
use Rattle.sql_tree.specs.contracts.token.Sign as the_sign
use Rattle.sql_grammar.specs.contracts.mark.Keyword as the_keyword
use Rattle.sql_grammar.specs.declared.mark.Word.{Word}
use Rattle.sql_tree.specs.declared.token.Sign.TheVariants as s
use Rattle.sql_grammar.specs.declared.mark.Keyword.TheVariants as k
use Rattle.sql_grammar.specs.declared.mark.Sought.{Sought}
use Rattle.sql_grammar.specs.declared.mark.Sought.TheVariants as sought
use Rattle.sql_grammar.specs.declared.mark.Mark.{Mark}
use Rattle.sql_grammar.specs.declared.mark.Mark.TheVariants.{Number, Str}
use Rattle.sql_grammar.specs.Grammar.{expr}
use Rattle.sql_grammar.specs.Reading.{Parser, and_then, ◌>>=◌, ◌>>◌, pure, refuse, front, rest, peek, skip, name, read}
use Rattle.sql_grammar.specs.Syntax
use Rattle.sql_grammar.specs.Syntax.{Kind, kind, place, among, is, is_name, Syntax, gives, one, name_but, integer, text, expression, ◌⨟◌, map, only, either, repeat}

-- whether the rule may spell no mark at all
abbrev pub empty : {A : Type 0} → Syntax A → Bool
empty (gives x) = true
empty (one t) = false
empty (name_but but) = false
empty integer = false
empty text = false
empty (expression most) = false
empty (a ⨟ b) = empty a && empty b
empty (map f a) = empty a
empty (only test a) = empty a
empty (either a b) = empty a || empty b
empty (repeat a b) = empty a

-- a kind of mark that a rule asks for
pub data Pattern : Type 0 where
  the : Sought → Pattern
  a_name : List Word → Pattern
  a_number : Pattern
  a_string : Pattern
  the_end : Pattern

abbrev pub fit : Pattern → Kind → Bool
fit (the t) m = is t m
fit (a_name but) m = is_name but m
fit a_number Syntax.number = true
fit a_string Syntax.string = true
fit the_end Syntax.end = true
fit _ _ = false

-- whether the mark is as one of the patterns
abbrev pub any : List Pattern → Kind → Bool
any [] m = false
any (p ∷ []) m = fit p m
any (p ∷ q ∷ ps) m = fit p m || any (q ∷ ps) m

-- what an expression may begin with
abbrev pub begins_expression : List Pattern
begins_expression =
    a_number ∷ a_string ∷ a_name [] ∷ the (sought.Key k.True) ∷ the (sought.Key k.False) ∷ the (sought.Key k.Null) ∷ the (sought.Key k.Not)
    ∷ the (sought.Sign s.Open) ∷ the (sought.Sign s.Plus) ∷ the (sought.Sign s.Minus) ∷ []

-- what a spelling of the rule may begin with
abbrev pub begins : {A : Type 0} → Syntax A → List Pattern
begins (gives x) = []
begins (one t) = the t ∷ []
begins (name_but but) = a_name but ∷ []
begins integer = a_number ∷ []
begins text = a_string ∷ []
begins (expression most) = begins_expression
begins (a ⨟ b) = if empty a then begins a ++ begins b else begins a
begins (map f a) = begins a
begins (only test a) = begins a
begins (either a b) = begins a ++ begins b
begins (repeat a b) = if empty a then begins a ++ begins b else begins a

-- Lists one after the other, put after what was found. Each takes a mark, so there are no more than marks.
unfoldable pub repeat_from : {A : Type 0} → (Kind → Bool) → Parser (List A) → ℕ → List A → Parser (List A)
repeat_from first item zero found = pure found
repeat_from first item (suc turns) found = λ ts.
    if first (kind (front ts)) then and_then (item ts) (λ xs us. repeat_from first item turns (found ++ xs) us) else Some (found, ts)

abbrev pub integer_by : Option Mark → Parser ℤ
integer_by (Some (Number n)) = skip >> pure n
integer_by _ = refuse

abbrev pub text_by : Option Mark → Parser (List ℕ)
text_by (Some (Str t)) = skip >> pure t
text_by _ = refuse

abbrev pub reading : {A : Type 0} → Syntax A → Parser A
reading (gives x) = pure x
reading (one t) = λ ts. if is t (kind (front ts)) then Some (tt, rest ts) else None
reading (name_but but) = λ ts. if is_name but (kind (front ts)) then name ts else None
reading integer = peek >>= integer_by
reading text = peek >>= text_by
reading (expression most) = read most expr >>= λ n. pure n.tree
reading (a ⨟ b) = reading a >>= λ x. reading b >>= λ y. pure (x, y)
reading (map f a) = reading a >>= λ x. pure (f x)
reading (only test a) = reading a >>= λ x ts. if test x then Some (x, ts) else None
reading (either a b) = λ ts. if any (begins a) (kind (front ts)) then reading a ts else reading b ts
reading (repeat a b) = reading a >>= λ xs ts. repeat_from (any (begins b)) (reading b) (length ts) xs ts

-- ---- rules that can be read so, where the next mark tells how it goes on

-- whether no mark is as both
abbrev pub differ : Pattern → Pattern → Bool
differ (the (sought.Plain v)) (the (sought.Plain w)) = not (eqb (place v) (place w))
differ (the (sought.Reserved v)) (the (sought.Reserved w)) = not (eqb (place v) (place w))
differ (the (sought.Key v)) (the (sought.Key w)) = not (eqb (tag_of the_keyword.the_type v) (tag_of the_keyword.the_type w))
differ (the (sought.Sign v)) (the (sought.Sign w)) = not (eqb (tag_of the_sign.the_type v) (tag_of the_sign.the_type w))
differ (the (sought.Plain v)) (a_name but) = among but (place v)
differ (a_name but) (the (sought.Plain v)) = among but (place v)
differ (a_name b) (a_name c) = false
differ a_number a_number = false
differ a_string a_string = false
differ the_end the_end = false
differ _ _ = true

abbrev pub differs : Pattern → List Pattern → Bool
differs p [] = true
differs p (q ∷ qs) = differ p q && differs p qs

abbrev pub apart : List Pattern → List Pattern → Bool
apart [] qs = true
apart (p ∷ ps) qs = differs p qs && apart ps qs

-- what an expression may go on with
abbrev pub goes_on : List Pattern
goes_on =
    the (sought.Sign s.Dot) ∷ the (sought.Sign s.Open) ∷ the (sought.Sign s.Star) ∷ the (sought.Sign s.Slash) ∷ the (sought.Sign s.Percent) ∷ the (sought.Sign s.Plus)
    ∷ the (sought.Sign s.Minus) ∷ the (sought.Sign s.Eq) ∷ the (sought.Sign s.Ne) ∷ the (sought.Sign s.Lt) ∷ the (sought.Sign s.Le) ∷ the (sought.Sign s.Gt)
    ∷ the (sought.Sign s.Ge) ∷ the (sought.Key k.In) ∷ the (sought.Key k.Between) ∷ the (sought.Key k.Not) ∷ the (sought.Key k.Is) ∷ the (sought.Key k.And)
    ∷ the (sought.Key k.Or) ∷ []

-- what the rule and what follows it begin with
abbrev pub opens : {A : Type 0} → Syntax A → List Pattern → List Pattern
opens a after = if empty a then begins a ++ after else begins a

-- whether the next mark always tells how the rule goes on, where such marks may follow it
abbrev pub fits : {A : Type 0} → Syntax A → List Pattern → Bool
fits (gives x) after = true
fits (one t) after = true
fits (name_but but) after = true
fits integer after = true
fits text after = true
fits (expression most) after = apart goes_on after
fits (a ⨟ b) after = fits a (opens b after) && fits b after
fits (map f a) after = fits a after
fits (only test a) after = fits a after
fits (either a b) after = (not (empty a) && apart (begins a) (opens b after)) && (fits a after && fits b after)
fits (repeat a b) after = (not (empty b) && apart (begins b) after) && (fits a (begins b ++ after) && fits b (begins b ++ after))
