use Rattle.std.proofs.Common.{◌≡◌, ℕ, zero, suc, ◌+◌, ◌<◌, max, min, List, [], ◌∷◌, take, get_or, length, refl, ap, add-one, arith}
use Rattle.sql_tree.specs.declared.expr.Expr.{Expr}
use Rattle.sql_tree.specs.Depth.{greatest_depth, depth}

one_more : (es : List Expr) (i : ℕ) (d : Expr) → i < length es → greatest_depth (take (suc i) es) ≡ max (depth (get_or es i d)) (greatest_depth (take i es))
one_more [] i d h = absurd (omega arith)
one_more (e ∷ es) zero d h = refl
one_more (e ∷ es) (suc i) d h = omega (arith, one_more es i d (omega arith))

pub goes_on : (es : List Expr) (i : ℕ) (d : Expr) (most next height top : ℕ) → i < length es → d ≡ get_or es i d → most ≡ min (greatest_depth (take i es)) top
    → height ≡ min (depth d) top → next ≡ max height most → next ≡ min (greatest_depth (take (i + 1) es)) top
goes_on es i d most next height top within is m h n = rw add-one (omega (arith, one_more es i d within, ap depth is))
