-- The calls of aggregates in an expression, node by node.
use Rattle.std.proofs.Common.{◌≡◌, List, [], ◌∷◌, ◌++◌, map, flat_map, Bool, Option, Some, None, option_map, Result, OnOk, Ok, Err, refl, sym, ap, ◌∙◌, subst, append_assoc}
use Rattle.std.proofs.lemmas.List.{map-append}
use Rattle.cell_base.specs.declared.memory.Memory.{Memory}
use Rattle.cell_base.specs.declared.sql_type.SqlType.{SqlType}
use Rattle.cell_base.specs.declared.value.Value.{Value}
use Rattle.sql_tree.specs.declared.op.Op.{Op}
use Rattle.sql_tree.specs.declared.op.Aggregate.{Aggregate as Function}
use Rattle.sql_tree.specs.declared.typed_expr.TypedExpr.{TypedExpr}
use Rattle.sql_tree.specs.declared.typed_expr.TypedNode.{TypedNode}
use Rattle.sql_tree.specs.declared.typed_expr.TypedNode.TheVariants.{Aggregate, Binary, In, rolls-Aggregate, rolls-Binary, rolls-In}
use Rattle.sql_tree.specs.declared.typed_expr.TypedNode.TheOpen.{TypedNode-F}
use Rattle.sql_tree.specs.declared.typed_expr.TypedNode.TheFolds.{fold-roll-TypedNode, fold_out-TypedExpr}
use Rattle.typing_rules.specs.Outcome.{Outcome}
use Rattle.expr_eval.specs.Values.{Row}
use Rattle.row_meaning.specs.Groups as groups
use Rattle.row_meaning.specs.Groups.{Meaning, meaning, node_meaning, expr_meaning, call_of, calls_of, operand_of}
use Rattle.row_totals.specs.declared.calls.Call.{Call}
use Rattle.row_totals.specs.Calls.{operand_value, meant, at_start}
use Rattle.row_totals.specs.Tallies.{started}
use Rattle.row_totals.proofs.Meanings.{meaning_of, in_row_is}

at_node : (e : TypedExpr) (n : TypedNode) → e.node ≡ n → meaning e ≡ meaning_of n e.kind
at_node e n is = fold_out-TypedExpr (SqlType → Meaning) Meaning node_meaning expr_meaning e ∙ ap (λ m. meaning_of m e.kind) is

at_Aggregate : (function : Function) (operand : Option TypedExpr) → meaning_of (Aggregate function operand) ≡ node_meaning (TypedNode-F.Aggregate function (option_map meaning operand))
at_Aggregate function None = ap meaning_of (sym (rolls-Aggregate function None)) ∙ fold-roll-TypedNode (SqlType → Meaning) Meaning node_meaning expr_meaning (TypedNode-F.Aggregate function None)
at_Aggregate function (Some a) = ap meaning_of (sym (rolls-Aggregate function (Some a))) ∙ fold-roll-TypedNode (SqlType → Meaning) Meaning node_meaning expr_meaning (TypedNode-F.Aggregate function (Some a))

at_Binary : (o : Op) (a b : TypedExpr) → meaning_of (Binary o a b) ≡ node_meaning (TypedNode-F.Binary o (meaning a) (meaning b))
at_Binary o a b = ap meaning_of (sym (rolls-Binary o a b)) ∙ fold-roll-TypedNode (SqlType → Meaning) Meaning node_meaning expr_meaning (TypedNode-F.Binary o a b)

at_In : (a : TypedExpr) (members : List TypedExpr) (denies : Bool) → meaning_of (In a members denies) ≡ node_meaning (TypedNode-F.In (meaning a) (map meaning members) denies)
at_In a members denies = ap meaning_of (sym (rolls-In a members denies)) ∙ fold-roll-TypedNode (SqlType → Meaning) Meaning node_meaning expr_meaning (TypedNode-F.In a members denies)

members_calls : (members : List TypedExpr) → flat_map (λ m. m.calls) (map meaning members) ≡ calls_of members
members_calls [] = refl
members_calls (m ∷ members) = ap (λ cs. (meaning m).calls ++ cs) (members_calls members)

binary_calls : (e : TypedExpr) (o : Op) (a b : TypedExpr) → e.node ≡ Binary o a b → (meaning e).calls ≡ (meaning a).calls ++ (meaning b).calls
binary_calls e o a b is = ap (λ m. m.calls) (at_node e (Binary o a b) is) ∙ ap (λ (f : SqlType → Meaning). (f e.kind).calls) (at_Binary o a b)

in_calls : (e a : TypedExpr) (members : List TypedExpr) (denies : Bool) → e.node ≡ In a members denies → (meaning e).calls ≡ (meaning a).calls ++ calls_of members
in_calls e a members denies is =
    ap (λ m. m.calls) (at_node e (In a members denies) is) ∙ ap (λ (f : SqlType → Meaning). (f e.kind).calls) (at_In a members denies) ∙ ap (λ cs. (meaning a).calls ++ cs) (members_calls members)

-- ---- after the calls that stand there

abbrev Following : List Call → List Call → List groups.Call → Type 0
Following old new calls = map meant new ≡ map meant old ++ map at_start calls

after_both : (old mid new : List Call) (xs ys : List groups.Call) → Following old mid xs → Following mid new ys → Following old new (xs ++ ys)
after_both old mid new xs ys h g =
    g ∙ ap (λ cs. cs ++ map at_start ys) h ∙ append_assoc (map meant old) (map at_start xs) (map at_start ys) ∙ ap (λ cs. map meant old ++ cs) (sym (map-append at_start xs ys))

on_ok : {A E : Type 0} (r : Result A E) (P Q : Type 0) → (P → Q) → OnOk r P → OnOk r Q
on_ok (Ok a) P Q f h = f h
on_ok (Err e) P Q f h = h

pub both_collected : {A : Type 0} (r : Result A Memory) (e : TypedExpr) (o : Op) (a b : TypedExpr) (old mid new : List Call) → e.node ≡ Binary o a b → Following old mid (meaning a).calls → OnOk r (Following mid new (meaning b).calls)
    → OnOk r (Following old new (meaning e).calls)
both_collected r e o a b old mid new is h g =
    on_ok r (Following mid new (meaning b).calls) (Following old new (meaning e).calls) (λ k. subst (Following old new) (sym (binary_calls e o a b is)) (after_both old mid new (meaning a).calls (meaning b).calls h k)) g

pub in_collected : {A : Type 0} (r : Result A Memory) (e a : TypedExpr) (members : List TypedExpr) (denies : Bool) (old mid new : List Call) → e.node ≡ In a members denies → Following old mid (meaning a).calls
    → OnOk r (Following mid new (calls_of members)) → OnOk r (Following old new (meaning e).calls)
in_collected r e a members denies old mid new is h g =
    on_ok r (Following mid new (calls_of members)) (Following old new (meaning e).calls) (λ k. subst (Following old new) (sym (in_calls e a members denies is)) (after_both old mid new (meaning a).calls (calls_of members) h k)) g

operand_is : (operand : Option TypedExpr) → operand_value operand ≡ operand_of (option_map meaning operand)
operand_is None = refl
operand_is (Some a) = sym (in_row_is a)

pub aggregate_collected : (e : TypedExpr) (function : Function) (operand : Option TypedExpr) (old : List Call) → e.node ≡ Aggregate function operand
    → Following old (old ++ record { operand = operand; tally = started e.kind function } ∷ []) (meaning e).calls
aggregate_collected e function operand old is =
    let calls : (meaning e).calls ≡ call_of e.kind function (option_map meaning operand) ∷ [] = ap (λ m. m.calls) (at_node e (Aggregate function operand) is) ∙ ap (λ (f : SqlType → Meaning). (f e.kind).calls) (at_Aggregate function operand) in
    map-append meant old (record { operand = operand; tally = started e.kind function } ∷ [])
    ∙ ap (λ (f : Row → Outcome Value). map meant old ++ (f, started e.kind function) ∷ []) (operand_is operand) ∙ ap (λ cs. map meant old ++ map at_start cs) (sym calls)
