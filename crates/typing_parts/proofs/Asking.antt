-- What an expression is to the search for a point, case by case.
use Rattle.std.proofs.Common.{◌≡◌, ℕ, true, false, Option, Ok, Err, refl, ap, sym, ◌∙◌}
use Rattle.std.specs.Prelude.{Result, IfOk}
use Rattle.cell_base.specs.declared.key.Key.{Key}
use Rattle.cell_base.specs.declared.memory.Memory.{Memory}
use Rattle.sql_tree.specs.declared.typed_expr.TypedExpr.{TypedExpr}
use Rattle.sql_tree.specs.declared.typed_expr.TypedNode.{TypedNode}
use Rattle.sql_tree.specs.declared.typed_expr.TypedNode.TheVariants.{Neg, rolls-Neg}
use Rattle.sql_tree.specs.declared.typed_expr.TypedNode.TheOpen.{TypedNode-F, TypedExpr-F}
use Rattle.sql_tree.specs.declared.typed_expr.TypedNode.TheFolds.{fold-TypedNode, fold-roll-TypedNode, fold_out-TypedExpr}
use Rattle.typing_rules.specs.Points.{Reading, reading_node, negative_key, asked}
use Rattle.typing_parts.specs.Readings.{reading}

abbrev pub node_reading : ℕ → ℕ → TypedNode → Reading
node_reading e k = fold-TypedNode Reading Reading (reading_node e k) (λ (x : TypedExpr-F Reading Reading). x.node)

by_node : (e k : ℕ) (x : TypedExpr) → reading e k x ≡ node_reading e k x.node
by_node e k x = fold_out-TypedExpr Reading Reading (reading_node e k) (λ (x : TypedExpr-F Reading Reading). x.node) x

of_neg : (e k : ℕ) (a : TypedExpr) → node_reading e k (Neg a) ≡ reading_node e k (TypedNode-F.Neg (reading e k a))
of_neg e k a = ap (node_reading e k) (sym (rolls-Neg a))
    ∙ fold-roll-TypedNode Reading Reading (reading_node e k) (λ (x : TypedExpr-F Reading Reading). x.node) (TypedNode-F.Neg a)

-- a number after a minus sign
pub constant-neg : (e k : ℕ) (x a : TypedExpr) → x.node ≡ Neg a → (reading e k x).constant ≡ negative_key (reading e k a).literal
constant-neg e k x a is = ap (λ (r : Reading). r.constant) (by_node e k x ∙ ap (node_reading e k) is ∙ of_neg e k a)

asked-left : (a b : Reading) → a.is_key ≡ true → asked a b ≡ b.constant
asked-left a b e = rw e refl

asked-right : (a b : Reading) → a.is_key ≡ false → b.is_key ≡ true → asked a b ≡ a.constant
asked-right a b e f = rw (e, f) refl

of_both : (r : Result (Option Key) Memory) (asks : Option Key) (constant : ℕ → ℕ → Option Key) (e k : ℕ) → asks ≡ constant e k
    → IfOk r (λ key. (e k : ℕ) → key ≡ constant e k) → IfOk r (λ key. key ≡ asks)
of_both (Ok key) asks constant e k is h = h e k ∙ sym is
of_both (Err memory) asks constant e k is h = tt

-- the left one is the key
pub left_asks : (r : Result (Option Key) Memory) (e k : ℕ) (a b : TypedExpr) → (reading e k a).is_key ≡ true
    → IfOk r (λ key. (e k : ℕ) → key ≡ (reading e k b).constant)
    → IfOk r (λ key. key ≡ asked (reading e k a) (reading e k b))
left_asks r e k a b is h =
    of_both r (asked (reading e k a) (reading e k b)) (λ e k. (reading e k b).constant) e k (asked-left (reading e k a) (reading e k b) is) h

-- the right one alone is the key
pub right_asks : (r : Result (Option Key) Memory) (e k : ℕ) (a b : TypedExpr) → (reading e k a).is_key ≡ false → (reading e k b).is_key ≡ true
    → IfOk r (λ key. (e k : ℕ) → key ≡ (reading e k a).constant) → IfOk r (λ key. key ≡ asked (reading e k a) (reading e k b))
right_asks r e k a b other is h =
    of_both r (asked (reading e k a) (reading e k b)) (λ e k. (reading e k a).constant) e k (asked-right (reading e k a) (reading e k b) other is) h
