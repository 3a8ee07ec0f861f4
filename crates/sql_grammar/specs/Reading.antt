-- How the grammar is read, from left to right: what the private functions of the parser do. No public clause speaks of it.
use Rattle.std.specs.Prelude.{ℕ, zero, suc, ◌+◌, max, Bool, true, false, if◌then◌else◌, nat_le, List, [], ◌∷◌, ◌++◌, length, Option, Some, None}
use Rattle.sql_tree.specs.declared.token.Sign.TheVariants as s
use Rattle.sql_tree.specs.declared.op.Op.{Op}
use Rattle.sql_tree.specs.declared.expr.Expr.{Expr}
use Rattle.sql_tree.specs.declared.expr.Expr.TheVariants as e
use Rattle.sql_grammar.specs.declared.mark.Keyword.TheVariants as k
use Rattle.sql_grammar.specs.declared.mark.Mark.{Mark}
use Rattle.sql_grammar.specs.declared.mark.Mark.TheVariants.{Key, Plain, Quoted, Number, Str, Sign}
use Rattle.sql_grammar.specs.declared.mark.Node.{Node}
use Rattle.sql_grammar.specs.Grammar.{Level, expr, and, not, is, cmp, rng, sum, prod, un, atom, link, comparison, negation, within}

-- ---- steps

abbrev pub Parser : Type 0 → Type 0
Parser A = List Mark → Option (A × List Mark)

abbrev pub and_then : {A B : Type 0} → Option (A × List Mark) → (A → Parser B) → Option (B × List Mark)
and_then (Some r) f = f r.0 r.1
and_then None f = None

infixl 10 ◌>>=◌
abbrev pub ◌>>=◌ : {A B : Type 0} → Parser A → (A → Parser B) → Parser B
p >>= f = λ ts. and_then (p ts) f

infixl 10 ◌>>◌
abbrev pub ◌>>◌ : {A B : Type 0} → Parser A → Parser B → Parser B
p >> q = p >>= (λ _. q)

abbrev pub pure : {A : Type 0} → A → Parser A
pure a = λ ts. Some (a, ts)

abbrev pub refuse : {A : Type 0} → Parser A
refuse = λ ts. None

abbrev pub front : List Mark → Option Mark
front [] = None
front (m ∷ ts) = Some m

abbrev pub rest : List Mark → List Mark
rest [] = []
rest (m ∷ ts) = ts

abbrev pub peek : Parser (Option Mark)
peek = λ ts. Some (front ts, ts)

abbrev pub skip : Parser (Unit {0})
skip = λ ts. Some (tt, rest ts)

abbrev pub node : Expr → ℕ → Node
node x d = record { tree = x; depth = d }

-- a tree that is no deeper than there is room for
unfoldable pub made : ℕ → Expr → ℕ → Parser Node
made room x d = λ ts. if nat_le d room then Some (node x d, ts) else None

-- ---- single marks

abbrev pub close_by : Option Mark → Parser (Unit {0})
close_by (Some (Sign s.Close)) = skip
close_by _ = refuse

unfoldable pub close : Parser (Unit {0})
close = peek >>= close_by

abbrev pub open_by : Option Mark → Parser (Unit {0})
open_by (Some (Sign s.Open)) = skip
open_by _ = refuse

unfoldable pub opening : Parser (Unit {0})
opening = peek >>= open_by

abbrev pub null_by : Option Mark → Parser (Unit {0})
null_by (Some (Key k.Null)) = skip
null_by _ = refuse

unfoldable pub null_word : Parser (Unit {0})
null_word = peek >>= null_by

abbrev pub and_by : Option Mark → Parser (Unit {0})
and_by (Some (Key k.And)) = skip
and_by _ = refuse

unfoldable pub and_word : Parser (Unit {0})
and_word = peek >>= and_by

abbrev pub not_by : Option Mark → Parser Bool
not_by (Some (Key k.Not)) = skip >> pure true
not_by _ = pure false

-- [NOT]
unfoldable pub not_word : Parser Bool
not_word = peek >>= not_by

abbrev pub comma_by : Option Mark → Parser Bool
comma_by (Some (Sign s.Comma)) = skip >> pure true
comma_by _ = pure false

unfoldable pub comma : Parser Bool
comma = peek >>= comma_by

abbrev pub name_by : Option Mark → Parser (List ℕ)
name_by (Some (Plain w name)) = skip >> pure name
name_by (Some (Quoted name)) = skip >> pure name
name_by _ = refuse

unfoldable pub name : Parser (List ℕ)
name = peek >>= name_by

-- ---- the levels

abbrev pub link_at : Level → Option Mark → Option Op
link_at l (Some m) = link l m
link_at l None = None

abbrev pub comparison_at : Option Mark → Option Op
comparison_at (Some m) = comparison m
comparison_at None = None

-- Trees have at most the depth room. What stands in parentheses or after NOT or a sign is read by deep.
module _ (room : ℕ) (deep : Level → Parser Node) where
  unfoldable pub parens : Parser Node
  parens = do
    x ← deep expr
    close
    made room x.tree (1 + x.depth)

  unfoldable pub argument : List ℕ → Parser Node
  argument called = do
    x ← deep expr
    close
    made room (e.Call called (Some x.tree)) (1 + x.depth)

  abbrev pub call_by : List ℕ → Option Mark → Parser Node
  call_by called (Some (Sign s.Star)) = skip >> close >> pure (node (e.Call called None) 1)
  call_by called _ = argument called

  -- after the name and the parenthesis
  unfoldable pub call : List ℕ → Parser Node
  call called = peek >>= call_by called

  abbrev pub named_by : List ℕ → Option Mark → Parser Node
  named_by first (Some (Sign s.Dot)) = skip >> name >>= λ second. pure (node (e.Column (Some first) second) 1)
  named_by first (Some (Sign s.Open)) = skip >> call first
  named_by first _ = pure (node (e.Column None first) 1)

  unfoldable pub named : List ℕ → Parser Node
  named first = peek >>= named_by first

  abbrev pub atom_by : Option Mark → Parser Node
  atom_by (Some (Number n)) = skip >> pure (node (e.Int n) 1)
  atom_by (Some (Str t)) = skip >> pure (node (e.Str t) 1)
  atom_by (Some (Key k.True)) = skip >> pure (node (e.Flag true) 1)
  atom_by (Some (Key k.False)) = skip >> pure (node (e.Flag false) 1)
  atom_by (Some (Key k.Null)) = skip >> pure (node e.Null 1)
  atom_by (Some (Plain w first)) = skip >> named first
  atom_by (Some (Quoted first)) = skip >> named first
  atom_by (Some (Sign s.Open)) = skip >> parens
  atom_by _ = refuse

  unfoldable pub read_atom : Parser Node
  read_atom = peek >>= atom_by

  abbrev pub un_by : Option Mark → Parser Node
  un_by (Some (Sign s.Minus)) = skip >> deep un >>= λ x. made room (e.Neg x.tree) (1 + x.depth)
  un_by (Some (Sign s.Plus)) = skip >> deep un >>= λ x. made room x.tree (1 + x.depth)
  un_by _ = read_atom

  unfoldable pub read_un : Parser Node
  read_un = peek >>= un_by

  abbrev pub linked : Parser Node → (Node → Parser Node) → Node → Option Op → Parser Node
  linked item go left None = pure left
  linked item go left (Some o) = do
    skip
    right ← item
    whole ← made room (e.Binary o left.tree right.tree) (1 + max left.depth right.depth)
    go whole

  -- The links of a chain after what stands left of them. Each makes the tree deeper, so there are fewer than there is room.
  unfoldable pub chain_from : Parser Node → Level → ℕ → Node → Parser Node
  chain_from item l zero left = refuse
  chain_from item l (suc turns) left = peek >>= λ m. linked item (λ x. chain_from item l turns x) left (link_at l m)

  abbrev pub read_chain : Parser Node → Level → Parser Node
  read_chain item l = item >>= chain_from item l room

  unfoldable pub read_prod : Parser Node
  read_prod = read_chain read_un prod

  unfoldable pub read_sum : Parser Node
  read_sum = read_chain read_prod sum

  unfoldable pub list_from : ℕ → List Expr → ℕ → Parser (List Expr × ℕ)
  list_from zero found depth = refuse
  list_from (suc turns) found depth = do
    x ← deep expr
    more ← comma
    if more then list_from turns (found ++ x.tree ∷ []) (max depth x.depth) else pure (found ++ x.tree ∷ [], max depth x.depth)

  -- one or more, with commas between; each takes a mark
  unfoldable pub list : Parser (List Expr × ℕ)
  list = λ ts. list_from (length ts) [] 0 ts

  unfoldable pub among : Bool → Node → Parser Node
  among n left = do
    opening
    found ← list
    close
    made room (e.In left.tree found.0 n) (1 + max left.depth found.1)

  unfoldable pub between : Bool → Node → Parser Node
  between n left = do
    low ← read_sum
    and_word
    high ← read_sum
    made room (negation n (within left.tree low.tree high.tree)) (16 + max left.depth (max low.depth high.depth))

  -- after NOT
  abbrev pub not_range_by : Node → Option Mark → Parser Node
  not_range_by left (Some (Key k.In)) = skip >> among true left
  not_range_by left (Some (Key k.Between)) = skip >> between true left
  not_range_by left _ = refuse

  unfoldable pub not_range : Node → Parser Node
  not_range left = peek >>= not_range_by left

  abbrev pub range_by : Node → Option Mark → Parser Node
  range_by left (Some (Key k.In)) = skip >> among false left
  range_by left (Some (Key k.Between)) = skip >> between false left
  range_by left (Some (Key k.Not)) = skip >> not_range left
  range_by left _ = pure left

  unfoldable pub range : Node → Parser Node
  range left = peek >>= range_by left

  unfoldable pub read_rng : Parser Node
  read_rng = read_sum >>= range

  abbrev pub compared_by : Node → Option Op → Parser Node
  compared_by left None = pure left
  compared_by left (Some o) = do
    skip
    right ← read_rng
    made room (e.Binary o left.tree right.tree) (1 + max left.depth right.depth)

  unfoldable pub compared : Node → Parser Node
  compared left = peek >>= λ m. compared_by left (comparison_at m)

  unfoldable pub read_cmp : Parser Node
  read_cmp = read_rng >>= compared

  -- after IS
  unfoldable pub null_test : Node → Parser Node
  null_test left = do
    n ← not_word
    null_word
    made room (e.IsNull left.tree n) (1 + left.depth)

  abbrev pub tested_by : (Node → Parser Node) → Node → Option Mark → Parser Node
  tested_by go left (Some (Key k.Is)) = skip >> null_test left >>= go
  tested_by go left _ = pure left

  unfoldable pub tests_from : ℕ → Node → Parser Node
  tests_from zero left = refuse
  tests_from (suc turns) left = peek >>= λ m. tested_by (λ x. tests_from turns x) left m

  unfoldable pub read_is : Parser Node
  read_is = read_cmp >>= tests_from room

  abbrev pub not_by_mark : Option Mark → Parser Node
  not_by_mark (Some (Key k.Not)) = skip >> deep not >>= λ x. made room (e.Not x.tree) (1 + x.depth)
  not_by_mark _ = read_is

  unfoldable pub read_not : Parser Node
  read_not = peek >>= not_by_mark

  unfoldable pub read_and : Parser Node
  read_and = read_chain read_not and

  unfoldable pub read_or : Parser Node
  read_or = read_chain read_and expr

  abbrev pub read_at : Level → Parser Node
  read_at expr = read_or
  read_at and = read_and
  read_at not = read_not
  read_at is = read_is
  read_at cmp = read_cmp
  read_at rng = read_rng
  read_at sum = read_sum
  read_at prod = read_prod
  read_at un = read_un
  read_at atom = read_atom

-- An expression no deeper than the number, and the marks after it.
unfoldable pub read : ℕ → Level → Parser Node
read zero l = refuse
read (suc room) l = read_at (suc room) (λ level. read room level) l
