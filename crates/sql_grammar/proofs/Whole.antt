-- Expressions of at most so great a depth.
use Rattle.std.proofs.Common.{◌≡◌, ℕ, List, [], ◌++◌, Some, ap, sym, ◌∙◌, arith}
use Rattle.std.proofs.lemmas.List.{append-nil}
use Rattle.sql_tree.specs.declared.expr.Expr.{Expr}
use Rattle.sql_grammar.specs.declared.mark.Mark.{Mark}
use Rattle.sql_grammar.specs.declared.mark.Node.{Node}
use Rattle.sql_grammar.specs.Grammar.{expr, IsExpr}
use Rattle.sql_grammar.specs.Reading.{node, read}
use Rattle.sql_grammar.proofs.Taken.{value_of}
use Rattle.sql_grammar.proofs.Sound.{read_sound}
use Rattle.sql_grammar.proofs.Follow.{Ends, positive}
use Rattle.sql_grammar.proofs.Complete.{reads, deeply}

-- the marks in front of the rest spell the tree
pub record Found (most : ℕ) (whole : List Mark) (x : Expr) (after : List Mark) : Type 0 where
  pub taken : List Mark
  pub splits : whole ≡ taken ++ after
  pub is : IsExpr most taken x

pub expr_sound : (most : ℕ) (ts : List Mark) (x : Node) (r : List Mark) → read most expr ts ≡ Some (x, r) → Found most ts x.tree r
expr_sound most ts x r e =
    let h = read_sound most expr ts x r e in
    record { taken = h.taken; splits = h.splits; is = record { depth = x.depth; spelled = h.spells; limited = h.fits } }

pub expr_reads : (most : ℕ) (ts : List Mark) (x : Expr) → (i : IsExpr most ts x) → (r : List Mark) → Ends expr r → read most expr (ts ++ r) ≡ Some (node x i.depth, r)
expr_reads most ts x i r h = deeply most expr ts x i.depth (positive i.spelled) i.limited (λ n g. reads i.spelled n g) r h

pub expr_whole : (most : ℕ) (ts : List Mark) (x : Expr) → (i : IsExpr most ts x) → read most expr ts ≡ Some (node x i.depth, [])
expr_whole most ts x i = ap (λ z. read most expr z) (sym (append-nil ts)) ∙ expr_reads most ts x i [] (omega arith)

-- no list stands for two trees
pub one_tree : (most : ℕ) (ts : List Mark) (x y : Expr) → IsExpr most ts x → IsExpr most ts y → x ≡ y
one_tree most ts x y i j =
    let e = sym (expr_whole most ts x i) ∙ expr_whole most ts y j in
    ap (λ n. n.tree) (value_of (node x i.depth) (node y j.depth) [] [] e)
