-- An expression that takes the values of its aggregates from a list has its value over the group.
use Rattle.std.proofs.Common.{◌≡◌, List, [], ◌∷◌, ◌++◌, map, flat_map, Bool, false, Some, None, Ok, Err, refl, sym, ap, ◌∙◌, subst, append_assoc}
use Rattle.std.proofs.lemmas.List.{map-append}
use Rattle.cell_base.specs.declared.sql_type.SqlType.{SqlType}
use Rattle.cell_base.specs.declared.value.Value.{Value}
use Rattle.cell_base.specs.declared.value.Value.TheVariants.{Flag}
use Rattle.sql_tree.specs.declared.op.Op.TheVariants.{Eq}
use Rattle.sql_tree.specs.declared.typed_expr.TypedExpr.{TypedExpr, roll-TypedExpr}
use Rattle.sql_tree.specs.declared.typed_expr.TypedNode.{TypedNode, map-TypedNode}
use Rattle.sql_tree.specs.declared.typed_expr.TypedNode.TheOpen.{TypedNode-F}
use Rattle.sql_tree.specs.declared.typed_expr.TypedNode.TheFolds.{fold-TypedNode, fold-roll-TypedNode, fold-roll-TypedExpr, ind-TypedExpr}
use Rattle.typing_rules.specs.Outcome.{Outcome, and_then, all_of}
use Rattle.expr_eval.specs.Operators.{negated, compared, either, denied, binary}
use Rattle.expr_eval.specs.Values.{Row, of_kind, of_one, of_both, among, denied_if, null_test}
use Rattle.expr_eval.proofs.Members.{go_on, go_on_failed, among_failed, among_from_false}
use Rattle.row_meaning.specs.Groups.{Call, Meaning, meaning, call_value, node_meaning, expr_meaning, group_value, calls_of}
use Rattle.row_totals.specs.Filling.{Got, Filled, filled, node_filled, expr_filled, members_filled, all_filled}
use Rattle.row_totals.proofs.Meanings.{meaning_of, layer_twice}

abbrev pub leaving : List (Outcome Value) → Value → Outcome Got
leaving rest v = Ok (v, rest)

-- the values of calls, in front of others
abbrev pub in_front : List Row → List Call → List (Outcome Value) → List (Outcome Value)
in_front rows calls rest = map (λ call. call_value call rows) calls ++ rest

in_parts : (rows : List Row) (xs ys : List Call) (rest : List (Outcome Value)) → in_front rows (xs ++ ys) rest ≡ in_front rows xs (in_front rows ys rest)
in_parts rows xs ys rest = ap (λ os. os ++ rest) (map-append (λ call. call_value call rows) xs ys) ∙ append_assoc (map (λ call. call_value call rows) xs) (map (λ call. call_value call rows) ys) rest

abbrev pub Agrees : Meaning → Filled → Type 0
Agrees m f = (rows : List Row) (rest : List (Outcome Value)) → f (in_front rows m.calls rest) ≡ and_then (m.over rows) (leaving rest)

one_is : (f : Value → Outcome Value) (o : Outcome Value) (rest : List (Outcome Value)) → and_then (and_then o (leaving rest)) (λ (x : Got). and_then (f x.0) (leaving x.1)) ≡ and_then (of_one f o) (leaving rest)
one_is f (Ok v) rest = refl
one_is f (Err code) rest = refl

first_is : (f : Value → Value) (o : Outcome Value) (rest : List (Outcome Value)) → and_then o (λ v. leaving rest (f v)) ≡ and_then (of_one (λ v. Ok (f v)) o) (leaving rest)
first_is f (Ok v) rest = refl
first_is f (Err code) rest = refl

both_is : (f : Value → Value → Outcome Value) (b : Filled) (mid rest : List (Outcome Value)) (o p : Outcome Value) → b mid ≡ and_then p (leaving rest)
    → and_then (and_then o (leaving mid)) (λ (x : Got). and_then (b x.1) (λ y. and_then (f x.0 y.0) (leaving y.1))) ≡ and_then (of_both f o p) (leaving rest)
both_is f b mid rest (Err code) p h = refl
both_is f b mid rest (Ok v) (Err code) h = ap (λ z. and_then z (λ (y : Got). and_then (f v y.0) (leaving y.1))) h
both_is f b mid rest (Ok v) (Ok w) h = ap (λ z. and_then z (λ (y : Got). and_then (f v y.0) (leaving y.1))) h

members_is : {D : Type 0} (h : D → Meaning) (h' : D → Filled) → ((d : D) → Agrees (h d) (h' d)) → (rows : List Row) (rest : List (Outcome Value)) (ds : List D) (x found : Value)
    → members_filled x found (map h' ds) (in_front rows (flat_map (λ m. m.calls) (map h ds)) rest) ≡ and_then (go_on (Ok x) (Ok found) (map (λ m. m.over rows) (map h ds))) (leaving rest)
members_is h h' good rows rest [] x found = refl
members_is h h' good rows rest (d ∷ ds) x found =
    ap (λ totals. members_filled x found (h' d ∷ map h' ds) totals) (in_parts rows (h d).calls (flat_map (λ m. m.calls) (map h ds)) rest)
    ∙ ap (λ o. and_then o (λ y. members_filled x (either found (compared Eq x y.0)) (map h' ds) y.1)) (good d rows (in_front rows (flat_map (λ m. m.calls) (map h ds)) rest))
    ∙ by (members_is h h' good rows rest ds x) ((h d).over rows)
  where
    by : ((found : Value) → members_filled x found (map h' ds) (in_front rows (flat_map (λ m. m.calls) (map h ds)) rest) ≡ and_then (go_on (Ok x) (Ok found) (map (λ m. m.over rows) (map h ds))) (leaving rest))
        → (o : Outcome Value) → and_then (and_then o (leaving (in_front rows (flat_map (λ m. m.calls) (map h ds)) rest))) (λ (y : Got). members_filled x (either found (compared Eq x y.0)) (map h' ds) y.1)
        ≡ and_then (go_on (Ok x) (Ok found) (o ∷ map (λ m. m.over rows) (map h ds))) (leaving rest)
    by more (Err code) = sym (ap (λ o. and_then o (leaving rest)) (go_on_failed (Ok x) code (map (λ m. m.over rows) (map h ds))))
    by more (Ok w) = more (either found (compared Eq x w))

in_is : (denies : Bool) (members : List Filled) (mid rest : List (Outcome Value)) (others : List (Outcome Value)) → ((x : Value) → members_filled x (Flag false) members mid ≡ and_then (go_on (Ok x) (Ok (Flag false)) others) (leaving rest))
    → (o : Outcome Value)
    → and_then (and_then o (leaving mid)) (λ (x : Got). and_then (members_filled x.0 (Flag false) members x.1) (λ (found : Got). leaving found.1 (denied_if denies found.0)))
    ≡ and_then (of_one (λ v. Ok (denied_if denies v)) (among o others)) (leaving rest)
in_is denies members mid rest others h (Err code) = sym (ap (λ o. and_then (of_one (λ v. Ok (denied_if denies v)) o) (leaving rest)) (among_failed code others))
in_is denies members mid rest others h (Ok x) =
    ap (λ o. and_then o (λ (found : Got). leaving found.1 (denied_if denies found.0))) (h x ∙ ap (λ o. and_then o (leaving rest)) (among_from_false x others))
    ∙ one_is (λ v. Ok (denied_if denies v)) (among (Ok x) others) rest

layer_agrees : {C D : Type 0} (g : C → SqlType → Meaning) (h : D → Meaning) (g' : C → SqlType → Filled) (h' : D → Filled) → ((d : D) → Agrees (h d) (h' d)) → (y : TypedNode-F C D) (kind : SqlType)
    → Agrees (node_meaning (map-TypedNode C D (SqlType → Meaning) Meaning g h y) kind) (node_filled (map-TypedNode C D (SqlType → Filled) Filled g' h' y) kind)
layer_agrees g h g' h' good (TypedNode-F.Constant v) kind rows rest = refl
layer_agrees g h g' h' good (TypedNode-F.Column entry column) kind rows rest = refl
layer_agrees g h g' h' good (TypedNode-F.Aggregate function None) kind rows rest = first_is (of_kind kind) _ rest
layer_agrees g h g' h' good (TypedNode-F.Aggregate function (Some a)) kind rows rest = first_is (of_kind kind) _ rest
layer_agrees g h g' h' good (TypedNode-F.Neg a) kind rows rest =
    ap (λ o. and_then o (λ (x : Got). and_then (negated kind x.0) (leaving x.1))) (good a rows rest) ∙ one_is (negated kind) ((h a).over rows) rest
layer_agrees g h g' h' good (TypedNode-F.Not a) kind rows rest =
    ap (λ o. and_then o (λ (x : Got). leaving x.1 (denied x.0))) (good a rows rest) ∙ one_is (λ v. Ok (denied v)) ((h a).over rows) rest
layer_agrees g h g' h' good (TypedNode-F.IsNull a denies) kind rows rest =
    ap (λ o. and_then o (λ (x : Got). leaving x.1 (null_test denies x.0))) (good a rows rest) ∙ one_is (λ v. Ok (null_test denies v)) ((h a).over rows) rest
layer_agrees g h g' h' good (TypedNode-F.Binary op a b) kind rows rest =
    ap (λ totals. and_then (h' a totals) (λ (x : Got). and_then (h' b x.1) (λ y. and_then (binary kind op x.0 y.0) (leaving y.1)))) (in_parts rows (h a).calls (h b).calls rest)
    ∙ ap (λ o. and_then o (λ (x : Got). and_then (h' b x.1) (λ y. and_then (binary kind op x.0 y.0) (leaving y.1)))) (good a rows (in_front rows (h b).calls rest))
    ∙ both_is (binary kind op) (h' b) (in_front rows (h b).calls rest) rest ((h a).over rows) ((h b).over rows) (good b rows rest)
layer_agrees g h g' h' good (TypedNode-F.In a members denies) kind rows rest =
    let mid : List (Outcome Value) = in_front rows (flat_map (λ m. m.calls) (map h members)) rest in
    ap (λ totals. and_then (h' a totals) (λ (x : Got). and_then (members_filled x.0 (Flag false) (map h' members) x.1) (λ (found : Got). leaving found.1 (denied_if denies found.0))))
    (in_parts rows (h a).calls (flat_map (λ m. m.calls) (map h members)) rest)
    ∙ ap (λ o. and_then o (λ (x : Got). and_then (members_filled x.0 (Flag false) (map h' members) x.1) (λ (found : Got). leaving found.1 (denied_if denies found.0)))) (good a rows mid)
    ∙ in_is denies (map h' members) mid rest (map (λ m. m.over rows) (map h members)) (λ x. members_is h h' good rows rest members x (Flag false)) ((h a).over rows)

-- the value of a node alone
abbrev pub filled_of : TypedNode → SqlType → Filled
filled_of = fold-TypedNode (SqlType → Filled) Filled node_filled expr_filled

abbrev NodeAgrees : TypedNode → Type 0
NodeAgrees n = (kind : SqlType) → Agrees (meaning_of n kind) (filled_of n kind)

abbrev ExprAgrees : TypedExpr → Type 0
ExprAgrees e = Agrees (meaning e) (filled e)

moved : (m m' : Meaning) (f f' : Filled) → m ≡ m' → f ≡ f' → Agrees m f → Agrees m' f'
moved m m' f f' p q h = subst (λ n. Agrees n f') p (subst (λ g. Agrees m g) q h)

pub filled_is : (e : TypedExpr) → Agrees (meaning e) (filled e)
filled_is = ind-TypedExpr NodeAgrees ExprAgrees
    (λ x y is kind.
    let layer = layer_agrees (λ c. meaning_of c.0) (λ d. meaning d.0) (λ c. filled_of c.0) (λ d. filled d.0) (λ d. d.1) y kind in
    let there = layer_twice (λ c. c.0) (λ d. d.0) meaning_of meaning y ∙ ap (map-TypedNode TypedNode TypedExpr (SqlType → Meaning) Meaning meaning_of meaning) is in
    let here = layer_twice (λ c. c.0) (λ d. d.0) filled_of filled y ∙ ap (map-TypedNode TypedNode TypedExpr (SqlType → Filled) Filled filled_of filled) is in
    moved _ _ _ _ (ap (λ n. node_meaning n kind) there ∙ sym (ap (λ (f : SqlType → Meaning). f kind) (fold-roll-TypedNode (SqlType → Meaning) Meaning node_meaning expr_meaning x)))
    (ap (λ n. node_filled n kind) here ∙ sym (ap (λ (f : SqlType → Filled). f kind) (fold-roll-TypedNode (SqlType → Filled) Filled node_filled expr_filled x))) layer)
    (λ x y is.
    let node = subst (λ z. Agrees (meaning_of z.node z.kind) (filled_of z.node z.kind)) is (y.node.1 y.kind) in
    subst (λ m. Agrees m (filled (roll-TypedExpr x))) (sym (fold-roll-TypedExpr (SqlType → Meaning) Meaning node_meaning expr_meaning x))
    (subst (λ f. Agrees (meaning_of x.node x.kind) f) (sym (fold-roll-TypedExpr (SqlType → Filled) Filled node_filled expr_filled x)) node))

pub all_filled_is : (rows : List Row) (exprs : List TypedExpr) (rest : List (Outcome Value)) → all_filled exprs (in_front rows (calls_of exprs) rest) ≡ all_of (map (λ e. group_value e rows) exprs)
all_filled_is rows [] rest = refl
all_filled_is rows (e ∷ exprs) rest =
    ap (λ totals. all_filled (e ∷ exprs) totals) (in_parts rows (meaning e).calls (calls_of exprs) rest)
    ∙ ap (λ o. and_then o (λ (x : Got). and_then (all_filled exprs x.1) (λ values. Ok (x.0 ∷ values)))) (filled_is e rows (in_front rows (calls_of exprs) rest))
    ∙ by (all_filled_is rows exprs rest) (group_value e rows)
  where
    by : all_filled exprs (in_front rows (calls_of exprs) rest) ≡ all_of (map (λ e. group_value e rows) exprs) → (o : Outcome Value)
        → and_then (and_then o (leaving (in_front rows (calls_of exprs) rest))) (λ (x : Got). and_then (all_filled exprs x.1) (λ values. Ok (x.0 ∷ values)))
        ≡ and_then o (λ v. and_then (all_of (map (λ e. group_value e rows) exprs)) (λ values. Ok (v ∷ values)))
    by more (Err code) = refl
    by more (Ok v) = ap (λ os. and_then os (λ values. Ok (v ∷ values))) more
