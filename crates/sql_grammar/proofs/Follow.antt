-- Which marks begin a spelling, and which a spelling goes on with.
use Rattle.std.proofs.Common.{◌≡◌, ℕ, ◌<◌, ◌≤◌, Bool, true, false, List, [], ◌∷◌, ◌++◌, Option, Some, None, refl, ap, arith}
use Rattle.sql_tree.specs.declared.token.Sign.TheVariants as s
use Rattle.sql_tree.specs.declared.op.Op.{Op}
use Rattle.sql_tree.specs.declared.expr.Expr.{Expr}
use Rattle.sql_grammar.specs.declared.mark.Keyword.TheVariants as k
use Rattle.sql_grammar.specs.declared.mark.Mark.{Mark}
use Rattle.sql_grammar.specs.declared.mark.Mark.TheVariants.{Key, Plain, Quoted, Number, Str, Sign}
use Rattle.sql_grammar.specs.Grammar
use Rattle.sql_grammar.specs.Grammar.{Level, expr, and, not, is, cmp, rng, sum, prod, un, atom, below, link, comparison, name_of, nots, Spells}
use Rattle.sql_grammar.specs.Reading.{front, link_at, comparison_at}
use Rattle.sql_grammar.proofs.Taken.{none_some}

-- how loosely a level binds
abbrev pub number : Level → ℕ
number expr = 10
number and = 9
number not = 8
number is = 7
number cmp = 6
number rng = 5
number sum = 4
number prod = 3
number un = 2
number atom = 1

-- the level that a mark goes on with, or 11 for a mark that ends every expression
abbrev pub rank : Option Mark → ℕ
rank (Some (Sign s.Dot)) = 1
rank (Some (Sign s.Open)) = 1
rank (Some (Sign s.Star)) = 3
rank (Some (Sign s.Slash)) = 3
rank (Some (Sign s.Percent)) = 3
rank (Some (Sign s.Plus)) = 4
rank (Some (Sign s.Minus)) = 4
rank (Some (Key k.In)) = 5
rank (Some (Key k.Between)) = 5
rank (Some (Key k.Not)) = 5
rank (Some (Sign s.Eq)) = 6
rank (Some (Sign s.Ne)) = 6
rank (Some (Sign s.Lt)) = 6
rank (Some (Sign s.Le)) = 6
rank (Some (Sign s.Gt)) = 6
rank (Some (Sign s.Ge)) = 6
rank (Some (Key k.Is)) = 7
rank (Some (Key k.And)) = 9
rank (Some (Key k.Or)) = 10
rank _ = 11

-- what comes next goes on with looser levels alone
abbrev pub Ends : Level → List Mark → Type 0
Ends l ts = number l < rank (front ts)

pub number_down : (l : Level) → number (below l) ≤ number l
number_down expr = omega arith
number_down and = omega arith
number_down not = omega arith
number_down is = omega arith
number_down cmp = omega arith
number_down rng = omega arith
number_down sum = omega arith
number_down prod = omega arith
number_down un = omega arith
number_down atom = omega arith

pub link_follows : (l : Level) (m : Mark) (o : Op) (ts : List Mark) → link l m ≡ Some o → Ends (below l) (m ∷ ts)
link_follows expr (Key k.Or) o ts e = omega arith
link_follows and (Key k.And) o ts e = omega arith
link_follows sum (Sign s.Plus) o ts e = omega arith
link_follows sum (Sign s.Minus) o ts e = omega arith
link_follows prod (Sign s.Star) o ts e = omega arith
link_follows prod (Sign s.Slash) o ts e = omega arith
link_follows prod (Sign s.Percent) o ts e = omega arith
link_follows _ _ o ts e = absurd (none_some e)

pub comparison_follows : (m : Mark) (o : Op) (ts : List Mark) → comparison m ≡ Some o → Ends rng (m ∷ ts)
comparison_follows (Sign s.Eq) o ts e = omega arith
comparison_follows (Sign s.Ne) o ts e = omega arith
comparison_follows (Sign s.Lt) o ts e = omega arith
comparison_follows (Sign s.Le) o ts e = omega arith
comparison_follows (Sign s.Gt) o ts e = omega arith
comparison_follows (Sign s.Ge) o ts e = omega arith
comparison_follows _ o ts e = absurd (none_some e)

pub expr_ends : (m : Option Mark) → 10 < rank m → link_at expr m ≡ None
expr_ends (Some (Key k.Or)) h = absurd (omega arith)
expr_ends _ h = refl

pub and_ends : (m : Option Mark) → 9 < rank m → link_at and m ≡ None
and_ends (Some (Key k.And)) h = absurd (omega arith)
and_ends _ h = refl

pub sum_ends : (m : Option Mark) → 4 < rank m → link_at sum m ≡ None
sum_ends (Some (Sign s.Plus)) h = absurd (omega arith)
sum_ends (Some (Sign s.Minus)) h = absurd (omega arith)
sum_ends _ h = refl

pub prod_ends : (m : Option Mark) → 3 < rank m → link_at prod m ≡ None
prod_ends (Some (Sign s.Star)) h = absurd (omega arith)
prod_ends (Some (Sign s.Slash)) h = absurd (omega arith)
prod_ends (Some (Sign s.Percent)) h = absurd (omega arith)
prod_ends _ h = refl

pub comparison_ends : (m : Option Mark) → 6 < rank m → comparison_at m ≡ None
comparison_ends (Some (Sign s.Eq)) h = absurd (omega arith)
comparison_ends (Some (Sign s.Ne)) h = absurd (omega arith)
comparison_ends (Some (Sign s.Lt)) h = absurd (omega arith)
comparison_ends (Some (Sign s.Le)) h = absurd (omega arith)
comparison_ends (Some (Sign s.Gt)) h = absurd (omega arith)
comparison_ends (Some (Sign s.Ge)) h = absurd (omega arith)
comparison_ends _ h = refl

-- ---- what a spelling begins with

abbrev pub begins_atom : Mark → Bool
begins_atom (Number n) = true
begins_atom (Str t) = true
begins_atom (Plain w t) = true
begins_atom (Quoted t) = true
begins_atom (Key k.True) = true
begins_atom (Key k.False) = true
begins_atom (Key k.Null) = true
begins_atom (Sign s.Open) = true
begins_atom _ = false

abbrev pub begins_un : Mark → Bool
begins_un (Sign s.Plus) = true
begins_un (Sign s.Minus) = true
begins_un m = begins_atom m

abbrev pub begins_not : Mark → Bool
begins_not (Key k.Not) = true
begins_not m = begins_un m

abbrev pub begins : Level → Mark → Bool
begins expr m = begins_not m
begins and m = begins_not m
begins not m = begins_not m
begins is m = begins_un m
begins cmp m = begins_un m
begins rng m = begins_un m
begins sum m = begins_un m
begins prod m = begins_un m
begins un m = begins_un m
begins atom m = begins_atom m

not_begins : (m : Mark) → begins_un m ≡ true → begins_not m ≡ true
not_begins (Key k.Not) h = refl
not_begins (Key _) h = h
not_begins _ h = h

un_begins : (m : Mark) → begins_atom m ≡ true → begins_un m ≡ true
un_begins (Sign s.Plus) h = refl
un_begins (Sign s.Minus) h = refl
un_begins _ h = h

begins_down : (l : Level) (m : Mark) → begins (below l) m ≡ true → begins l m ≡ true
begins_down expr m h = h
begins_down and m h = h
begins_down not m h = not_begins m h
begins_down is m h = h
begins_down cmp m h = h
begins_down rng m h = h
begins_down sum m h = h
begins_down prod m h = h
begins_down un m h = un_begins m h
begins_down atom m h = h

pub record Begins (l : Level) (ts : List Mark) : Type 0 where
  pub first : Mark
  pub more : List Mark
  pub splits : ts ≡ first ∷ more
  pub may : begins l first ≡ true

longer : (l : Level) (ts us : List Mark) → Begins l ts → Begins l (ts ++ us)
longer l ts us b = record { first = b.first; more = b.more ++ us; splits = ap (λ z. z ++ us) b.splits; may = b.may }

looser : (l : Level) (ts : List Mark) → Begins (below l) ts → Begins l ts
looser l ts b = record { first = b.first; more = b.more; splits = b.splits; may = begins_down l b.first b.may }

name_begins : (m : Mark) (name : List ℕ) (ts : List Mark) → name_of m ≡ Some name → Begins atom (m ∷ ts)
name_begins (Plain w n) name ts e = record { first = Plain w n; more = ts; splits = refl; may = refl }
name_begins (Quoted n) name ts e = record { first = Quoted n; more = ts; splits = refl; may = refl }
name_begins m name ts e = absurd (none_some e)

pub spelling_begins : {l : Level} {ts : List Mark} {x : Expr} {d : ℕ} → Spells l ts x d → Begins l ts
spelling_begins (Grammar.down l p) = looser l _ (spelling_begins p)
spelling_begins (Grammar.chain l m o p q e) = longer l _ _ (spelling_begins p)
spelling_begins (Grammar.negated {ts = ts} p) = record { first = Key k.Not; more = ts; splits = refl; may = refl }
spelling_begins (Grammar.is_null n p) = longer is _ _ (spelling_begins p)
spelling_begins (Grammar.compared m o p q e) = looser cmp _ (longer rng _ _ (spelling_begins p))
spelling_begins (Grammar.among n p q) = looser rng _ (longer sum _ _ (spelling_begins p))
spelling_begins (Grammar.between n p q r) = looser rng _ (longer sum _ _ (spelling_begins p))
spelling_begins (Grammar.minus {ts = ts} p) = record { first = Sign s.Minus; more = ts; splits = refl; may = refl }
spelling_begins (Grammar.plus {ts = ts} p) = record { first = Sign s.Plus; more = ts; splits = refl; may = refl }
spelling_begins (Grammar.number n) = record { first = Number n; more = []; splits = refl; may = refl }
spelling_begins (Grammar.string t) = record { first = Str t; more = []; splits = refl; may = refl }
spelling_begins Grammar.truth = record { first = Key k.True; more = []; splits = refl; may = refl }
spelling_begins Grammar.falsity = record { first = Key k.False; more = []; splits = refl; may = refl }
spelling_begins Grammar.null = record { first = Key k.Null; more = []; splits = refl; may = refl }
spelling_begins (Grammar.column m name e) = name_begins m name _ e
spelling_begins (Grammar.qualified m table n name e f) = name_begins m table _ e
spelling_begins (Grammar.call_star m name e) = name_begins m name _ e
spelling_begins (Grammar.call m name e p) = name_begins m name _ e
spelling_begins (Grammar.parens {ts = ts} p) = record { first = Sign s.Open; more = ts ++ Sign s.Close ∷ []; splits = refl; may = refl }

pub positive : {l : Level} {ts : List Mark} {x : Expr} {d : ℕ} → Spells l ts x d → 1 ≤ d
positive (Grammar.down l p) = positive p
positive _ = omega arith
