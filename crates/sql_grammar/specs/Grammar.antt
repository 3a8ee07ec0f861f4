-- The grammar of expressions, a line for each rule: which marks spell which tree at which level, and how deep the spelling is.
use Rattle.std.specs.Prelude.{◌≡◌, ◌≤◌, ℕ, ◌+◌, max, Bool, true, false, List, [], ◌∷◌, ◌++◌, Option, Some, None}
use Rattle.sql_tree.specs.declared.token.Sign.TheVariants as s
use Rattle.sql_tree.specs.declared.op.Op.{Op}
use Rattle.sql_tree.specs.declared.op.Op.TheVariants as op
use Rattle.sql_tree.specs.declared.expr.Expr.{Expr}
use Rattle.sql_tree.specs.declared.expr.Expr.TheVariants as e
use Rattle.sql_grammar.specs.declared.mark.Keyword.TheVariants as k
use Rattle.sql_grammar.specs.declared.mark.Mark.{Mark}
use Rattle.sql_grammar.specs.declared.mark.Mark.TheVariants.{Key, Plain, Quoted, Number, Str, Sign}

-- from what binds loosest to what binds tightest
pub data Level : Type 0 where
  expr : Level
  and : Level
  not : Level
  is : Level
  cmp : Level
  rng : Level
  sum : Level
  prod : Level
  un : Level
  atom : Level

-- the next tighter level
abbrev pub below : Level → Level
below expr = and
below and = not
below not = is
below is = cmp
below cmp = rng
below rng = sum
below sum = prod
below prod = un
below un = atom
below atom = atom

-- the operators that make chains
abbrev pub link : Level → Mark → Option Op
link expr (Key k.Or) = Some op.Or
link and (Key k.And) = Some op.And
link sum (Sign s.Plus) = Some op.Add
link sum (Sign s.Minus) = Some op.Sub
link prod (Sign s.Star) = Some op.Mul
link prod (Sign s.Slash) = Some op.Div
link prod (Sign s.Percent) = Some op.Rem
link _ _ = None

abbrev pub comparison : Mark → Option Op
comparison (Sign s.Eq) = Some op.Eq
comparison (Sign s.Ne) = Some op.Ne
comparison (Sign s.Lt) = Some op.Lt
comparison (Sign s.Le) = Some op.Le
comparison (Sign s.Gt) = Some op.Gt
comparison (Sign s.Ge) = Some op.Ge
comparison _ = None

abbrev pub name_of : Mark → Option (List ℕ)
name_of (Plain w name) = Some name
name_of (Quoted name) = Some name
name_of _ = None

-- [NOT]
abbrev pub nots : Bool → List Mark
nots true = Key k.Not ∷ []
nots false = []

abbrev pub negation : Bool → Expr → Expr
negation true x = e.Not x
negation false x = x

abbrev pub within : Expr → Expr → Expr → Expr
within x low high = e.Binary op.And (e.Binary op.Ge x low) (e.Binary op.Le x high)

mutual
  -- the marks spell the tree at the level, and this deep
  pub data Spells : Level → List Mark → Expr → ℕ → Type 0 where
    -- what a tighter level spells
    down : {ts : List Mark} {x : Expr} {d : ℕ} (l : Level) → Spells (below l) ts x d → Spells l ts x d
    -- expr := and { OR and }, and := not { AND not }, sum := prod { ('+' | '-') prod }, prod := un { ('*' | '/' | '%') un }
    chain : {ts us : List Mark} {x y : Expr} {d f : ℕ} (l : Level) (m : Mark) (o : Op) → Spells l ts x d → Spells (below l) us y f → link l m ≡ Some o
        → Spells l (ts ++ m ∷ us) (e.Binary o x y) (1 + max d f)
    -- not := NOT not
    negated : {ts : List Mark} {x : Expr} {d : ℕ} → Spells not ts x d → Spells not (Key k.Not ∷ ts) (e.Not x) (1 + d)
    -- is := cmp { IS [NOT] NULL }
    is_null : {ts : List Mark} {x : Expr} {d : ℕ} (n : Bool) → Spells is ts x d → Spells is (ts ++ Key k.Is ∷ (nots n ++ Key k.Null ∷ [])) (e.IsNull x n) (1 + d)
    -- cmp := rng ( = | <> | < | <= | > | >= ) rng
    compared : {ts us : List Mark} {x y : Expr} {d f : ℕ} (m : Mark) (o : Op) → Spells rng ts x d → Spells rng us y f → comparison m ≡ Some o
        → Spells cmp (ts ++ m ∷ us) (e.Binary o x y) (1 + max d f)
    -- rng := sum [NOT] IN '(' expr { ',' expr } ')'
    among : {ts us : List Mark} {x : Expr} {xs : List Expr} {d f : ℕ} (n : Bool) → Spells sum ts x d → SpellsList us xs f
        → Spells rng (ts ++ (nots n ++ Key k.In ∷ Sign s.Open ∷ (us ++ Sign s.Close ∷ []))) (e.In x xs n) (1 + max d f)
    -- rng := sum [NOT] BETWEEN sum AND sum
    between : {ts us vs : List Mark} {x y z : Expr} {d f g : ℕ} (n : Bool) → Spells sum ts x d → Spells sum us y f → Spells sum vs z g
        → Spells rng (ts ++ (nots n ++ Key k.Between ∷ (us ++ Key k.And ∷ vs))) (negation n (within x y z)) (16 + max d (max f g))
    -- un := ( '-' | '+' ) un
    minus : {ts : List Mark} {x : Expr} {d : ℕ} → Spells un ts x d → Spells un (Sign s.Minus ∷ ts) (e.Neg x) (1 + d)
    plus : {ts : List Mark} {x : Expr} {d : ℕ} → Spells un ts x d → Spells un (Sign s.Plus ∷ ts) x (1 + d)
    -- atom
    number : (n : _) → Spells atom (Number n ∷ []) (e.Int n) 1
    string : (t : _) → Spells atom (Str t ∷ []) (e.Str t) 1
    truth : Spells atom (Key k.True ∷ []) (e.Flag true) 1
    falsity : Spells atom (Key k.False ∷ []) (e.Flag false) 1
    null : Spells atom (Key k.Null ∷ []) e.Null 1
    column : (m : Mark) (name : List ℕ) → name_of m ≡ Some name → Spells atom (m ∷ []) (e.Column None name) 1
    qualified : (m : Mark) (table : List ℕ) (n : Mark) (name : List ℕ) → name_of m ≡ Some table → name_of n ≡ Some name
        → Spells atom (m ∷ Sign s.Dot ∷ n ∷ []) (e.Column (Some table) name) 1
    call_star : (m : Mark) (name : List ℕ) → name_of m ≡ Some name → Spells atom (m ∷ Sign s.Open ∷ Sign s.Star ∷ Sign s.Close ∷ []) (e.Call name None) 1
    call : {ts : List Mark} {x : Expr} {d : ℕ} (m : Mark) (name : List ℕ) → name_of m ≡ Some name → Spells expr ts x d
        → Spells atom (m ∷ Sign s.Open ∷ (ts ++ Sign s.Close ∷ [])) (e.Call name (Some x)) (1 + d)
    parens : {ts : List Mark} {x : Expr} {d : ℕ} → Spells expr ts x d → Spells atom (Sign s.Open ∷ (ts ++ Sign s.Close ∷ [])) x (1 + d)

  -- expr { ',' expr }
  pub data SpellsList : List Mark → List Expr → ℕ → Type 0 where
    one : {ts : List Mark} {x : Expr} {d : ℕ} → Spells expr ts x d → SpellsList ts (x ∷ []) d
    more : {ts us : List Mark} {x : Expr} {xs : List Expr} {d f : ℕ} → Spells expr ts x d → SpellsList us xs f → SpellsList (ts ++ Sign s.Comma ∷ us) (x ∷ xs) (max d f)

-- an expression whose spelling is at most so deep
pub record IsExpr (most : ℕ) (ts : List Mark) (x : Expr) : Type 0 where
  pub depth : ℕ
  pub spelled : Spells expr ts x depth
  pub limited : depth ≤ most
