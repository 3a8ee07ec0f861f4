-- Each typed expression is well typed, and no aggregate stands in one that is of one row.
use Rattle.std.proofs.Common.{◌≡◌, ℕ, Bool, true, false, cond, ◌||◌, ◌&&◌, ◌^◌, List, [], ◌∷◌, map, Option, Some, None, Ok, Err, ℤ, refl, sym, ap, subst, ◌∙◌, arith}
use Rattle.std.specs.List.{list_any}
use Rattle.std.proofs.lemmas.Bool.{and_parts}
use Rattle.cell_base.specs.declared.sql_type.SqlType.{SqlType}
use Rattle.cell_base.specs.declared.sql_type.SqlType.TheVariants as type
use Rattle.cell_base.specs.declared.sql_state.SqlState.TheVariants.{S0A000, S42804, S42883}
use Rattle.cell_base.specs.declared.value.Value.{Value}
use Rattle.cell_base.specs.declared.value.Value.TheVariants as value
use Rattle.sql_tree.specs.declared.expr.Expr.{Expr}
use Rattle.sql_tree.specs.declared.expr.Expr.TheOpen.{Expr-F}
use Rattle.sql_tree.specs.declared.expr.Expr.TheFolds.{fold-roll-Expr, ind-Expr}
use Rattle.sql_tree.specs.declared.expr.Expr.{map-Expr}
use Rattle.sql_tree.specs.declared.op.Op.{Op}
use Rattle.sql_tree.specs.declared.op.Op.TheVariants.{Add, Sub, Mul, Div, Rem, Eq, Ne, Lt, Le, Gt, Ge, And, Or}
use Rattle.sql_tree.specs.declared.op.Aggregate.{Aggregate}
use Rattle.sql_tree.specs.declared.op.Aggregate.TheVariants.{Count, Sum, Min, Max}
use Rattle.sql_tree.specs.declared.typed_expr.TypedExpr.{TypedExpr}
use Rattle.sql_tree.specs.declared.typed_expr.TypedNode.{TypedNode}
use Rattle.sql_tree.specs.declared.typed_expr.TypedNode.TheVariants as node
use Rattle.sql_tree.specs.declared.typed_expr.TypedNode.TheVariants.{rolls-Constant, rolls-Column, rolls-Neg, rolls-Not, rolls-IsNull, rolls-Binary, rolls-In}
use Rattle.sql_tree.specs.declared.typed_expr.TypedNode.TheOpen.{TypedNode-F}
use Rattle.sql_tree.specs.declared.typed_expr.TypedNode.TheFolds.{fold-TypedNode, fold-roll-TypedNode, fold_out-TypedExpr}
use Rattle.typing_rules.specs.declared.form.Form.{Form}
use Rattle.typing_rules.specs.declared.form.Form.TheVariants.{Typed, Quoted, Null}
use Rattle.typing_rules.specs.declared.place.Place.{Place}
use Rattle.typing_rules.specs.declared.place.Place.TheVariants.{Row, Group}
use Rattle.typing_rules.specs.Outcome.{Outcome, and_then, all_of}
use Rattle.typing_rules.specs.Kinds.{is_boolean, is_number, is_numeric, are_comparable, wider, is_within, is_null_or_of}
use Rattle.typing_rules.specs.WellTyped.{ColumnTypes, AreMembers, has_aggregate, node_has_aggregate, expr_has_aggregate, is_arithmetic, is_comparison, is_connective, aggregate_type}
use Rattle.typing_rules.specs.WellTyped.IsWellTyped.{constant as constant_rule, column as column_rule, count_rows as count_rule, aggregate_of as aggregate_rule, negated as neg_rule, denied as not_rule, tested as null_rule, computed as computed_rule, compared as compared_rule, connected as connected_rule, among as in_rule}
use Rattle.typing_rules.specs.WellTyped.AreMembers.{none, more}
use Rattle.typing_rules.specs.Names.{Source, Found, resolved}
use Rattle.typing_rules.specs.Literals.{quoted}
use Rattle.typing_rules.specs.Operators.{aggregate_named}
use Rattle.typing_rules.specs.Expressions as spec
use Rattle.typing_rules.specs.Expressions.{typed_node, null, operand, settled, condition_of, condition, compared_to, compared, calculated_with, whole_operands, calculated, joined, combined, negated_form, inverted, null_test, member_of, member, among_members, among, aggregate_of, aggregate, aggregated, starred, inside, column_at, column, typing, typing_step, flag, common_kind, kind_or, kind_of, first_kind, is_numeric_form, literal_kind}
use Rattle.typing_rules.specs.Sound.{Holds, IsPlainIn, IsSoundExpr, IsSoundForm, column_types, TypingIsSound, FlagIsSound, IsCondition as IsTypedCondition}
use Rattle.typing_rules.proofs.Numbers.{IsConstant, then_holds, quoted_is}
use Rattle.typing_rules.proofs.Columns.{IsIn, resolved_in}

-- ---- where no aggregate stands

node_aggregate : TypedNode → Bool
node_aggregate = fold-TypedNode Bool Bool node_has_aggregate expr_has_aggregate

of_node : (k : SqlType) (n : TypedNode) → has_aggregate (record { kind = k; node = n }) ≡ node_aggregate n
unfolding node_aggregate
of_node k n = fold_out-TypedExpr Bool Bool node_has_aggregate expr_has_aggregate (record { kind = k; node = n })

at_constant : (v : Value) → node_aggregate (node.Constant v) ≡ false
unfolding node_aggregate
at_constant v = ap node_aggregate (sym (rolls-Constant v)) ∙ fold-roll-TypedNode Bool Bool node_has_aggregate expr_has_aggregate (TypedNode-F.Constant v)

at_column : (e c : ℕ) → node_aggregate (node.Column e c) ≡ false
unfolding node_aggregate
at_column e c = ap node_aggregate (sym (rolls-Column e c)) ∙ fold-roll-TypedNode Bool Bool node_has_aggregate expr_has_aggregate (TypedNode-F.Column e c)

at_neg : (a : TypedExpr) → node_aggregate (node.Neg a) ≡ has_aggregate a
unfolding node_aggregate
at_neg a = ap node_aggregate (sym (rolls-Neg a)) ∙ fold-roll-TypedNode Bool Bool node_has_aggregate expr_has_aggregate (TypedNode-F.Neg a)

at_not : (a : TypedExpr) → node_aggregate (node.Not a) ≡ has_aggregate a
unfolding node_aggregate
at_not a = ap node_aggregate (sym (rolls-Not a)) ∙ fold-roll-TypedNode Bool Bool node_has_aggregate expr_has_aggregate (TypedNode-F.Not a)

at_null_test : (a : TypedExpr) (negated : Bool) → node_aggregate (node.IsNull a negated) ≡ has_aggregate a
unfolding node_aggregate
at_null_test a negated = ap node_aggregate (sym (rolls-IsNull a negated)) ∙ fold-roll-TypedNode Bool Bool node_has_aggregate expr_has_aggregate (TypedNode-F.IsNull a negated)

at_binary : (o : Op) (a b : TypedExpr) → node_aggregate (node.Binary o a b) ≡ (has_aggregate a || has_aggregate b)
unfolding node_aggregate
at_binary o a b = ap node_aggregate (sym (rolls-Binary o a b)) ∙ fold-roll-TypedNode Bool Bool node_has_aggregate expr_has_aggregate (TypedNode-F.Binary o a b)

at_in : (a : TypedExpr) (members : List TypedExpr) (negated : Bool) → node_aggregate (node.In a members negated) ≡ (has_aggregate a || list_any (λ m. m) (map has_aggregate members))
unfolding node_aggregate
at_in a members negated = ap node_aggregate (sym (rolls-In a members negated)) ∙ fold-roll-TypedNode Bool Bool node_has_aggregate expr_has_aggregate (TypedNode-F.In a members negated)

plain_none : (place : Place) (k : SqlType) (n : TypedNode) → node_aggregate n ≡ false → IsPlainIn place (record { kind = k; node = n })
plain_none Row k n e = of_node k n ∙ e
plain_none Group k n e = tt

plain_one : (place : Place) (k : SqlType) (n : TypedNode) (a : TypedExpr) → node_aggregate n ≡ has_aggregate a → IsPlainIn place a → IsPlainIn place (record { kind = k; node = n })
plain_one Row k n a e h = of_node k n ∙ e ∙ h
plain_one Group k n a e h = tt

neither : (a b : Bool) → a ≡ false → b ≡ false → (a || b) ≡ false
neither a b e f = rw (e, f) refl

plain_two : (place : Place) (k : SqlType) (o : Op) (a b : TypedExpr) → IsPlainIn place a → IsPlainIn place b → IsPlainIn place (record { kind = k; node = node.Binary o a b })
plain_two Row k o a b h g = of_node k (node.Binary o a b) ∙ at_binary o a b ∙ neither (has_aggregate a) (has_aggregate b) h g
plain_two Group k o a b h g = tt

-- ---- what has taken a type

record IsSettled (types : ColumnTypes) (place : Place) (e : TypedExpr) : Type 0 where
  sound : IsSoundExpr types place e
  plain : is_numeric e.kind ≡ false

constant_sound : (types : ColumnTypes) (place : Place) (k : SqlType) (v : Value) → is_numeric k ≡ false → is_null_or_of k v ≡ true → IsSoundExpr types place (typed_node k (node.Constant v))
constant_sound types place k v p h = record { well = constant_rule k v p h; plain = plain_none place k (node.Constant v) (at_constant v) }

operand_by : (types : ColumnTypes) (place : Place) (e : TypedExpr) (test : Bool) → is_numeric e.kind ≡ test → IsSoundExpr types place e → Holds (IsSettled types place) (cond test (Err S0A000) (Ok e))
operand_by types place e true p h = tt
operand_by types place e false p h = record { sound = h; plain = p }

null_by : (types : ColumnTypes) (place : Place) (k : SqlType) (test : Bool) → is_numeric k ≡ test → Holds (IsSettled types place) (cond test (Err S0A000) (Ok (null k)))
null_by types place k true p = tt
null_by types place k false p = record { sound = constant_sound types place k value.Null p refl; plain = p }

settled_sound : (types : ColumnTypes) (place : Place) (k : SqlType) (form : Form) → IsSoundForm types place form → Holds (IsSettled types place) (settled k form)
settled_sound types place k (Typed e) h = operand_by types place e (is_numeric e.kind) refl h
settled_sound types place k (Quoted text) h =
    then_holds (IsConstant k) (IsSettled types place) (quoted k text) (λ v. Ok (typed_node k (node.Constant v))) (quoted_is k text)
    (λ v c. record { sound = constant_sound types place k v c.plain c.typed; plain = c.plain })
settled_sound types place k Null h = null_by types place k (is_numeric k) refl

record IsCondition (types : ColumnTypes) (place : Place) (e : TypedExpr) : Type 0 where
  sound : IsSoundExpr types place e
  boolean : is_boolean e.kind ≡ true

other_fault : (types : ColumnTypes) (place : Place) (e : TypedExpr) (test : Bool) → Holds (IsCondition types place) (cond test (Err S0A000) (Err S42804))
other_fault types place e true = tt
other_fault types place e false = tt

condition_by : (types : ColumnTypes) (place : Place) (e : TypedExpr) (test : Bool) → is_boolean e.kind ≡ test → IsSoundExpr types place e
    → Holds (IsCondition types place) (cond test (Ok e) (cond (is_numeric e.kind) (Err S0A000) (Err S42804)))
condition_by types place e true p h = record { sound = h; boolean = p }
condition_by types place e false p h = other_fault types place e (is_numeric e.kind)

condition_sound : (types : ColumnTypes) (place : Place) (form : Form) → IsSoundForm types place form → Holds (IsCondition types place) (condition form)
condition_sound types place (Typed e) h = condition_by types place e (is_boolean e.kind) refl h
condition_sound types place (Quoted text) h = tt
condition_sound types place Null h = record { sound = constant_sound types place type.Boolean value.Null refl refl; boolean = refl }

-- ---- operators

compared_to_sound : (types : ColumnTypes) (place : Place) (o : Op) (a b : TypedExpr) (test : Bool) → is_comparison o ≡ true → IsSoundExpr types place a → IsSoundExpr types place b
    → are_comparable a.kind b.kind ≡ test → Holds (IsSoundForm types place) (cond test (spec.typed_form type.Boolean (node.Binary o a b)) (Err S42883))
compared_to_sound types place o a b true c h g e = record { well = compared_rule o a b c h.well g.well e; plain = plain_two place type.Boolean o a b h.plain g.plain }
compared_to_sound types place o a b false c h g e = tt

compared_sound : (types : ColumnTypes) (place : Place) (o : Op) (a b : Form) → is_comparison o ≡ true → IsSoundForm types place a → IsSoundForm types place b
    → Holds (IsSoundForm types place) (compared o a b)
unfolding compared
compared_sound types place o a b c h g =
    then_holds (IsSettled types place) (IsSoundForm types place) (settled (common_kind a b) a) _ (settled_sound types place (common_kind a b) a h)
    (λ x sx. then_holds (IsSettled types place) (IsSoundForm types place) (settled (common_kind a b) b) (λ y. compared_to o x y) (settled_sound types place (common_kind a b) b g)
    (λ y sy. compared_to_sound types place o x y (are_comparable x.kind y.kind) c sx.sound sy.sound refl))

calculated_with_sound : (types : ColumnTypes) (place : Place) (o : Op) (a b : TypedExpr) (test : Bool) → is_arithmetic o ≡ true → IsSoundExpr types place a → IsSoundExpr types place b
    → (is_number a.kind && is_number b.kind) ≡ test → Holds (IsSoundForm types place) (cond test (spec.typed_form (wider a.kind b.kind) (node.Binary o a b)) (Err S42883))
calculated_with_sound types place o a b true c h g e =
    let p = and_parts (is_number a.kind) (is_number b.kind) e in
    record { well = computed_rule o a b c h.well g.well p.0 p.1; plain = plain_two place (wider a.kind b.kind) o a b h.plain g.plain }
calculated_with_sound types place o a b false c h g e = tt

whole_operands_sound : (types : ColumnTypes) (place : Place) (o : Op) (k : SqlType) (a b : Form) → is_arithmetic o ≡ true → IsSoundForm types place a → IsSoundForm types place b
    → Holds (IsSoundForm types place) (whole_operands o k a b)
whole_operands_sound types place o k a b c h g =
    then_holds (IsSettled types place) (IsSoundForm types place) (settled k a) _ (settled_sound types place k a h)
    (λ x sx. then_holds (IsSettled types place) (IsSoundForm types place) (settled k b) (λ y. calculated_with o x y) (settled_sound types place k b g)
    (λ y sy. calculated_with_sound types place o x y (is_number x.kind && is_number y.kind) c sx.sound sy.sound refl))

either_holds : {A : Type 0} (P : A → Type 0) (test : Bool) (a b : Outcome A) → Holds P a → Holds P b → Holds P (cond test a b)
either_holds P true a b h g = h
either_holds P false a b h g = g

calculated_sound : (types : ColumnTypes) (place : Place) (o : Op) (a b : Form) → is_arithmetic o ≡ true → IsSoundForm types place a → IsSoundForm types place b
    → Holds (IsSoundForm types place) (calculated o a b)
unfolding calculated
calculated_sound types place o a b c h g =
    either_holds (IsSoundForm types place) (is_numeric_form a || is_numeric_form b) _ _ tt
    (either_holds (IsSoundForm types place) (is_number (common_kind a b)) _ _ (whole_operands_sound types place o (common_kind a b) a b c h g) tt)

joined_sound : (types : ColumnTypes) (place : Place) (o : Op) (a b : Form) → is_connective o ≡ true → IsSoundForm types place a → IsSoundForm types place b
    → Holds (IsSoundForm types place) (joined o a b)
unfolding joined
joined_sound types place o a b c h g =
    then_holds (IsCondition types place) (IsSoundForm types place) (condition a) _ (condition_sound types place a h)
    (λ x sx. then_holds (IsCondition types place) (IsSoundForm types place) (condition b) (λ y. spec.typed_form type.Boolean (node.Binary o x y)) (condition_sound types place b g)
    (λ y sy. record { well = connected_rule o x y c sx.sound.well sy.sound.well sx.boolean sy.boolean; plain = plain_two place type.Boolean o x y sx.sound.plain sy.sound.plain }))

else_comparison : (o : Op) → is_arithmetic o ≡ false → is_connective o ≡ false → is_comparison o ≡ true
else_comparison Eq h g = refl
else_comparison Ne h g = refl
else_comparison Lt h g = refl
else_comparison Le h g = refl
else_comparison Gt h g = refl
else_comparison Ge h g = refl
else_comparison Add h g = cc
else_comparison Sub h g = cc
else_comparison Mul h g = cc
else_comparison Div h g = cc
else_comparison Rem h g = cc
else_comparison And h g = cc
else_comparison Or h g = cc

combined_by : (types : ColumnTypes) (place : Place) (o : Op) (a b : Form) (first second : Bool) → is_arithmetic o ≡ first → is_connective o ≡ second → IsSoundForm types place a → IsSoundForm types place b
    → Holds (IsSoundForm types place) (cond first (calculated o a b) (cond second (joined o a b) (compared o a b)))
combined_by types place o a b true second e f h g = calculated_sound types place o a b e h g
combined_by types place o a b false true e f h g = joined_sound types place o a b f h g
combined_by types place o a b false false e f h g = compared_sound types place o a b (else_comparison o e f) h g

combined_sound : (types : ColumnTypes) (place : Place) (o : Op) (a b : Form) → IsSoundForm types place a → IsSoundForm types place b → Holds (IsSoundForm types place) (combined o a b)
unfolding combined
combined_sound types place o a b h g = combined_by types place o a b (is_arithmetic o) (is_connective o) refl refl h g

negated_by : (types : ColumnTypes) (place : Place) (e : TypedExpr) (test : Bool) → is_number e.kind ≡ test → IsSoundExpr types place e
    → Holds (IsSoundForm types place) (cond test (spec.typed_form e.kind (node.Neg e)) (cond (is_numeric e.kind) (Err S0A000) (Err S42883)))
negated_by types place e true p h = record { well = neg_rule e h.well p; plain = plain_one place e.kind (node.Neg e) e (at_neg e) h.plain }
negated_by types place e false p h = either_holds (IsSoundForm types place) (is_numeric e.kind) (Err S0A000) (Err S42883) tt tt

negated_sound : (types : ColumnTypes) (place : Place) (a : Form) → IsSoundForm types place a → Holds (IsSoundForm types place) (negated_form a)
negated_sound types place (Typed e) h = negated_by types place e (is_number e.kind) refl h
negated_sound types place (Quoted text) h = tt
negated_sound types place Null h = tt

inverted_sound : (types : ColumnTypes) (place : Place) (a : Form) → IsSoundForm types place a → Holds (IsSoundForm types place) (inverted a)
inverted_sound types place a h =
    then_holds (IsCondition types place) (IsSoundForm types place) (condition a) _ (condition_sound types place a h)
    (λ e s. record { well = not_rule e s.sound.well s.boolean; plain = plain_one place type.Boolean (node.Not e) e (at_not e) s.sound.plain })

null_test_sound : (types : ColumnTypes) (place : Place) (a : Form) (negated : Bool) → IsSoundForm types place a → Holds (IsSoundForm types place) (null_test a negated)
null_test_sound types place a negated h =
    then_holds (IsSettled types place) (IsSoundForm types place) (settled type.Text a) _ (settled_sound types place type.Text a h)
    (λ e s. record { well = null_rule e negated s.sound.well s.plain; plain = plain_one place type.Boolean (node.IsNull e negated) e (at_null_test e negated) s.sound.plain })

-- ---- IN

record IsMember (types : ColumnTypes) (place : Place) (k : SqlType) (e : TypedExpr) : Type 0 where
  sound : IsSoundExpr types place e
  comparable : are_comparable k e.kind ≡ true

abbrev AreGood : ColumnTypes → Place → SqlType → List TypedExpr → Type 0
AreGood types place k [] = Unit {0}
AreGood types place k (e ∷ es) = IsMember types place k e × AreGood types place k es

abbrev AreSome : ColumnTypes → Place → SqlType → List TypedExpr → Type 0
AreSome types place k [] = ⊥
AreSome types place k (e ∷ es) = IsMember types place k e × AreGood types place k es

abbrev AreSoundForms : ColumnTypes → Place → List Form → Type 0
AreSoundForms types place [] = Unit {0}
AreSoundForms types place (m ∷ ms) = IsSoundForm types place m × AreSoundForms types place ms

good_members : (types : ColumnTypes) (place : Place) (k : SqlType) (es : List TypedExpr) → AreGood types place k es → AreMembers types k es
good_members types place k [] h = none k
good_members types place k (e ∷ es) h = more k e es h.0.sound.well h.0.comparable (good_members types place k es h.1)

no_member : (types : ColumnTypes) (k : SqlType) (es : List TypedExpr) → AreGood types Row k es → list_any (λ m. m) (map has_aggregate es) ≡ false
no_member types k [] h = refl
no_member types k (e ∷ es) h = neither (has_aggregate e) (list_any (λ m. m) (map has_aggregate es)) h.0.sound.plain (no_member types k es h.1)

plain_in : (types : ColumnTypes) (place : Place) (k : SqlType) (x : TypedExpr) (es : List TypedExpr) (negated : Bool) → IsPlainIn place x → AreGood types place k es
    → IsPlainIn place (record { kind = type.Boolean; node = node.In x es negated })
plain_in types Row k x es negated h g =
    of_node type.Boolean (node.In x es negated) ∙ at_in x es negated ∙ neither (has_aggregate x) (list_any (λ m. m) (map has_aggregate es)) h (no_member types k es g)
plain_in types Group k x es negated h g = tt

member_by : (types : ColumnTypes) (place : Place) (k : SqlType) (e : TypedExpr) (test : Bool) → are_comparable k e.kind ≡ test → IsSoundExpr types place e
    → Holds (IsMember types place k) (cond test (Ok e) (Err S42883))
member_by types place k e true p h = record { sound = h; comparable = p }
member_by types place k e false p h = tt

member_sound : (types : ColumnTypes) (place : Place) (k : SqlType) (m : Form) → IsSoundForm types place m → Holds (IsMember types place k) (member k m)
unfolding member
member_sound types place k m h =
    then_holds (IsSettled types place) (IsMember types place k) (settled k m) _ (settled_sound types place k m h)
    (λ e s. member_by types place k e (are_comparable k e.kind) refl s.sound)

members_sound : (types : ColumnTypes) (place : Place) (k : SqlType) (ms : List Form) → AreSoundForms types place ms → Holds (AreGood types place k) (all_of (map (member k) ms))
members_sound types place k [] h = tt
members_sound types place k (m ∷ ms) h =
    then_holds (IsMember types place k) (AreGood types place k) (member k m) _ (member_sound types place k m h.0)
    (λ e s. then_holds (AreGood types place k) (AreGood types place k) (all_of (map (member k) ms)) (λ es. Ok (e ∷ es)) (members_sound types place k ms h.1) (λ es g. (s, g)))

some_sound : (types : ColumnTypes) (place : Place) (k : SqlType) (m : Form) (ms : List Form) → AreSoundForms types place (m ∷ ms) → Holds (AreSome types place k) (all_of (map (member k) (m ∷ ms)))
some_sound types place k m ms h =
    then_holds (IsMember types place k) (AreSome types place k) (member k m) _ (member_sound types place k m h.0)
    (λ e s. then_holds (AreGood types place k) (AreSome types place k) (all_of (map (member k) ms)) (λ es. Ok (e ∷ es)) (members_sound types place k ms h.1) (λ es g. (s, g)))

in_sound : (types : ColumnTypes) (place : Place) (x : TypedExpr) (es : List TypedExpr) (negated : Bool) → IsSoundExpr types place x → AreSome types place x.kind es
    → IsSoundExpr types place (record { kind = type.Boolean; node = node.In x es negated })
in_sound types place x [] negated h g = absurd g
in_sound types place x (e ∷ es) negated h g = record {
  well = in_rule x e es negated h.well (good_members types place x.kind (e ∷ es) (g.0, g.1));
  plain = plain_in types place x.kind x (e ∷ es) negated h.plain (g.0, g.1);
}

among_sound : (types : ColumnTypes) (place : Place) (left : Form) (ms : List Form) (negated : Bool) → IsSoundForm types place left → AreSoundForms types place ms
    → Holds (IsSoundForm types place) (among left ms negated)
among_sound types place left [] negated h g = tt
among_sound types place left (m ∷ ms) negated h g =
    let k = kind_or (first_kind (m ∷ ms)) (kind_of left) in
    then_holds (IsSettled types place) (IsSoundForm types place) (settled (kind_or (first_kind (m ∷ ms)) (kind_of left)) left) _ (settled_sound types place (kind_or (first_kind (m ∷ ms)) (kind_of left)) left h)
    (λ x sx. then_holds (AreSome types place x.kind) (IsSoundForm types place) (all_of (map (member x.kind) (m ∷ ms))) (λ xs. spec.typed_form type.Boolean (node.In x xs negated)) (some_sound types place x.kind m ms g)
    (λ xs sxs. in_sound types place x xs negated sx.sound sxs))

-- ---- calls and columns

aggregate_by : (types : ColumnTypes) (f : Aggregate) (e : TypedExpr) (o : Option SqlType) → aggregate_type f e.kind ≡ o → IsSoundExpr types Row e → Holds (IsSoundForm types Group) (aggregate_of f e o)
aggregate_by types f e None p h = tt
aggregate_by types f e (Some k) p h = record { well = aggregate_rule k f e h.well h.plain p; plain = tt }

aggregate_sound : (types : ColumnTypes) (f : Aggregate) (a : Form) → IsSoundForm types Row a → Holds (IsSoundForm types Group) (aggregate f a)
aggregate_sound types f a h =
    then_holds (IsSettled types Row) (IsSoundForm types Group) (settled type.Text a) _ (settled_sound types Row type.Text a h)
    (λ e s. aggregate_by types f e (aggregate_type f e.kind) refl s.sound)

aggregated_sound : (types : ColumnTypes) (place : Place) (o : Option Aggregate) (a : Form) → IsSoundForm types (inside o place) a → Holds (IsSoundForm types place) (aggregated place o a)
aggregated_sound types place None a h = tt
aggregated_sound types Row (Some f) a h = tt
aggregated_sound types Group (Some f) a h = aggregate_sound types f a h

starred_sound : (types : ColumnTypes) (place : Place) (o : Option Aggregate) → Holds (IsSoundForm types place) (starred place o)
starred_sound types place None = tt
starred_sound types Row (Some Count) = tt
starred_sound types Group (Some Count) = record { well = count_rule; plain = tt }
starred_sound types place (Some Sum) = tt
starred_sound types place (Some Min) = tt
starred_sound types place (Some Max) = tt

column_at_sound : (types : ColumnTypes) (place : Place) (f : Found) → IsIn types 0 f → Holds (IsSoundForm types place) (column_at place f)
column_at_sound types Row f i =
    let entry : f.entry ≡ i.at = omega (arith, i.entry) in
    record { well = column_rule f.kind f.entry f.column (rw entry i.kind); plain = plain_none Row f.kind (node.Column f.entry f.column) (at_column f.entry f.column) }
column_at_sound types Group f i = tt

column_sound : (sources : List Source) (place : Place) (qualifier : Option (List ℕ)) (name : List ℕ) → Holds (IsSoundForm (column_types sources) place) (column sources place qualifier name)
unfolding column
column_sound sources place qualifier name =
    then_holds (IsIn (column_types sources) 0) (IsSoundForm (column_types sources) place) (resolved sources qualifier name) _ (resolved_in sources qualifier name)
    (λ f i. column_at_sound (column_types sources) place f i)

-- ---- literals

literal_by : (types : ColumnTypes) (place : Place) (n : ℤ) (test : Bool) → is_within (2 ^ 31) n ≡ test
    → IsSoundExpr types place (typed_node (cond test type.Integer type.Bigint) (node.Constant (value.Int n)))
literal_by types place n true e = constant_sound types place type.Integer (value.Int n) refl e
literal_by types place n false e = constant_sound types place type.Bigint (value.Int n) refl refl

-- ---- the whole

abbrev IsGood : List Source → (Place → Outcome Form) → Type 0
IsGood sources f = (place : Place) → Holds (IsSoundForm (column_types sources) place) (f place)

forms_sound : {C : Type 0} (sources : List Source) (f : C → Place → Outcome Form) → ((c : C) → IsGood sources (f c)) → (cs : List C) (place : Place)
    → Holds (AreSoundForms (column_types sources) place) (all_of (map (λ (m : Place → Outcome Form). m place) (map f cs)))
forms_sound sources f good [] place = tt
forms_sound sources f good (c ∷ cs) place =
    then_holds (IsSoundForm (column_types sources) place) (AreSoundForms (column_types sources) place) (f c place) _ (good c place)
    (λ x s. then_holds (AreSoundForms (column_types sources) place) (AreSoundForms (column_types sources) place) (all_of (map (λ (m : Place → Outcome Form). m place) (map f cs))) (λ xs. Ok (x ∷ xs))
    (forms_sound sources f good cs place) (λ xs t. (s, t)))

layer : {C : Type 0} (sources : List Source) (f : C → Place → Outcome Form) → ((c : C) → IsGood sources (f c)) → (y : Expr-F C) → IsGood sources (typing_step sources (map-Expr C (Place → Outcome Form) f y))
layer sources f good (Expr-F.Int n) place = literal_by (column_types sources) place n (is_within (2 ^ 31) n) refl
layer sources f good (Expr-F.Str text) place = tt
layer sources f good (Expr-F.Flag b) place = constant_sound (column_types sources) place type.Boolean (value.Flag b) refl refl
layer sources f good Expr-F.Null place = tt
layer sources f good (Expr-F.Column qualifier name) place = column_sound sources place qualifier name
layer sources f good (Expr-F.Call name None) place = starred_sound (column_types sources) place (aggregate_named name)
layer sources f good (Expr-F.Call name (Some a)) place =
    then_holds (IsSoundForm (column_types sources) (inside (aggregate_named name) place)) (IsSoundForm (column_types sources) place) (f a (inside (aggregate_named name) place)) _
    (good a (inside (aggregate_named name) place)) (λ x s. aggregated_sound (column_types sources) place (aggregate_named name) x s)
layer sources f good (Expr-F.Neg a) place =
    then_holds (IsSoundForm (column_types sources) place) (IsSoundForm (column_types sources) place) (f a place) negated_form (good a place) (λ x s. negated_sound (column_types sources) place x s)
layer sources f good (Expr-F.Not a) place =
    then_holds (IsSoundForm (column_types sources) place) (IsSoundForm (column_types sources) place) (f a place) inverted (good a place) (λ x s. inverted_sound (column_types sources) place x s)
layer sources f good (Expr-F.IsNull a negated) place =
    then_holds (IsSoundForm (column_types sources) place) (IsSoundForm (column_types sources) place) (f a place) _ (good a place) (λ x s. null_test_sound (column_types sources) place x negated s)
layer sources f good (Expr-F.Binary o a b) place =
    then_holds (IsSoundForm (column_types sources) place) (IsSoundForm (column_types sources) place) (f a place) _ (good a place)
    (λ x s. then_holds (IsSoundForm (column_types sources) place) (IsSoundForm (column_types sources) place) (f b place) (λ y. combined o x y) (good b place)
    (λ y t. combined_sound (column_types sources) place o x y s t))
layer sources f good (Expr-F.In a members negated) place =
    then_holds (IsSoundForm (column_types sources) place) (IsSoundForm (column_types sources) place) (f a place) _ (good a place)
    (λ x s. then_holds (AreSoundForms (column_types sources) place) (IsSoundForm (column_types sources) place) (all_of (map (λ (m : Place → Outcome Form). m place) (map f members))) (λ xs. among x xs negated)
    (forms_sound sources f good members place) (λ xs t. among_sound (column_types sources) place x xs negated s t))

map_twice : {A B C : Type 0} (g : A → B) (h : B → C) (xs : List A) → map h (map g xs) ≡ map (λ x. h (g x)) xs
map_twice g h [] = refl
map_twice g h (x ∷ xs) = ap (λ ys. h (g x) ∷ ys) (map_twice g h xs)

layer_twice : {C : Type 0} (B : Type 0) (g : C → Expr) (h : Expr → B) (y : Expr-F C) → map-Expr C B (λ c. h (g c)) y ≡ map-Expr Expr B h (map-Expr C Expr g y)
layer_twice B g h (Expr-F.Int n) = refl
layer_twice B g h (Expr-F.Str text) = refl
layer_twice B g h (Expr-F.Flag b) = refl
layer_twice B g h Expr-F.Null = refl
layer_twice B g h (Expr-F.Column qualifier name) = refl
layer_twice B g h (Expr-F.Call name None) = refl
layer_twice B g h (Expr-F.Call name (Some a)) = refl
layer_twice B g h (Expr-F.Neg a) = refl
layer_twice B g h (Expr-F.Not a) = refl
layer_twice B g h (Expr-F.IsNull a negated) = refl
layer_twice B g h (Expr-F.Binary o a b) = refl
layer_twice B g h (Expr-F.In a members negated) = ap (λ ms. Expr-F.In (h (g a)) ms negated) (sym (map_twice g h members))

pub typing_sound : TypingIsSound
typing_sound sources = ind-Expr (λ e. IsGood sources (typing sources e)) (λ x y is.
    let below : IsGood sources (typing_step sources (map-Expr _ (Place → Outcome Form) (λ c. typing sources c.0) y)) = layer sources (λ c. typing sources c.0) (λ c. c.1) y in
    let step = layer_twice (Place → Outcome Form) (λ c. c.0) (typing sources) y ∙ ap (map-Expr Expr (Place → Outcome Form) (typing sources)) is in
    subst (IsGood sources) (ap (typing_step sources) step ∙ sym (fold-roll-Expr (Place → Outcome Form) (typing_step sources) x)) below)

boolean_is : (k : SqlType) → is_boolean k ≡ true → k ≡ type.Boolean
boolean_is type.Boolean h = refl
boolean_is type.Integer h = cc
boolean_is type.Bigint h = cc
boolean_is type.Text h = cc
boolean_is (type.Varchar n) h = cc
boolean_is type.Numeric h = cc

narrowed : (types : ColumnTypes) (o : Outcome TypedExpr) → Holds (IsCondition types Row) o → Holds (IsTypedCondition types) o
narrowed types (Ok e) h = record { well = h.sound.well; plain = h.sound.plain; boolean = boolean_is e.kind h.boolean }
narrowed types (Err code) h = tt

flag_of : (types : ColumnTypes) (o : Outcome Form) → Holds (IsSoundForm types Row) o → Holds (IsTypedCondition types) (and_then o condition)
flag_of types o h =
    then_holds (IsSoundForm types Row) (IsTypedCondition types) o condition h
    (λ x s. narrowed types (condition x) (condition_sound types Row x s))

pub flag_sound : FlagIsSound
unfolding flag
flag_sound sources e = flag_of (column_types sources) (typing sources e Row) (typing_sound sources e Row)
