-- The type of what an expression comes to: a varchar only where it is a column.
use Rattle.std.proofs.Common.{◌≡◌, ℕ, ◌^◌, ◌||◌, ◌&&◌, Bool, true, false, cond, List, [], ◌∷◌, map, Option, Some, None, Ok, Err, sym, subst, All}
use Rattle.std.proofs.lemmas.Bool.{cond_both, false≢true}
use Rattle.cell_base.specs.declared.sql_state.SqlState.TheVariants.{S0A000, S42883}
use Rattle.cell_base.specs.declared.sql_type.SqlType.{SqlType}
use Rattle.cell_base.specs.declared.sql_type.SqlType.TheVariants as type
use Rattle.sql_tree.specs.declared.expr.Expr.{Expr, map-Expr}
use Rattle.sql_tree.specs.declared.expr.Expr.TheOpen.{Expr-F}
use Rattle.sql_tree.specs.declared.expr.Expr.TheFolds.{fold-roll-Expr, ind-Expr}
use Rattle.sql_tree.specs.declared.op.Op.{Op}
use Rattle.sql_tree.specs.declared.op.Aggregate.{Aggregate}
use Rattle.sql_tree.specs.declared.op.Aggregate.TheVariants.{Count, Sum, Min, Max}
use Rattle.sql_tree.specs.declared.typed_expr.TypedExpr.{TypedExpr}
use Rattle.sql_tree.specs.declared.typed_expr.TypedNode.TheVariants as node
use Rattle.typing_rules.specs.declared.form.Form.{Form}
use Rattle.typing_rules.specs.declared.form.Form.TheVariants.{Typed, Quoted, Null}
use Rattle.typing_rules.specs.declared.place.Place.{Place}
use Rattle.typing_rules.specs.declared.place.Place.TheVariants.{Row, Group}
use Rattle.typing_rules.specs.Outcome.{Outcome, and_then, all_of}
use Rattle.typing_rules.specs.Kinds.{is_number, is_numeric, are_comparable, wider, is_within}
use Rattle.typing_rules.specs.WellTyped.{is_arithmetic, is_connective, aggregate_type}
use Rattle.typing_rules.specs.Operators.{aggregate_named}
use Rattle.typing_rules.specs.Names.{Source, Found, resolved}
use Rattle.typing_rules.specs.Expressions as forms
use Rattle.typing_rules.specs.Expressions.{settled, condition, compared_to, compared, calculated_with, calculated, joined, combined, negated_form, inverted, null_test, kind_or, kind_of, first_kind, member, typed_form, among, aggregate_of, aggregate, aggregated, starred, inside, column_at, column, typing, typing_step}
use Rattle.typing_rules.specs.Sound.{Holds}
use Rattle.typing_rules.proofs.Numbers.{then_holds}
use Rattle.pg_framing.specs.Replies.{FitsModifier}
use Rattle.described_columns.proofs.Columns.{AreShown, found_fits}

abbrev pub TypeFits : TypedExpr → Type 0
TypeFits e = FitsModifier e.kind

abbrev pub FormFits : Form → Type 0
FormFits (Typed e) = TypeFits e
FormFits _ = Unit {0}

-- ---- steps of which nothing has to be known

abbrev pub Whatever : {A : Type 0} → A → Type 0
Whatever a = Unit {0}

pub any_holds : {A : Type 0} (o : Outcome A) → Holds Whatever o
any_holds (Ok a) = tt
any_holds (Err code) = tt

abbrev pub after : {A B : Type 0} (Q : B → Type 0) (o : Outcome A) (f : A → Outcome B) → ((a : A) → Holds Q (f a)) → Holds Q (and_then o f)
after Q o f h = then_holds Whatever Q o f (any_holds o) (λ a _. h a)

either_holds : {A : Type 0} (P : A → Type 0) (test : Bool) (a b : Outcome A) → Holds P a → Holds P b → Holds P (cond test a b)
either_holds P test a b h g = cond_both test a b (Holds P) (λ _. h) (λ _. g)

-- ---- types

literal_fits : (test : Bool) → FitsModifier (cond test type.Integer type.Bigint)
literal_fits true = tt
literal_fits false = tt

number_fits : (k : SqlType) → is_number k ≡ true → FitsModifier k
number_fits (type.Varchar limit) h = absurd (false≢true h)
number_fits _ h = tt

wider_fits : (a b : SqlType) → FitsModifier (wider a b)
wider_fits type.Integer type.Integer = tt
wider_fits _ _ = tt

abbrev OptionFits : Option SqlType → Type 0
OptionFits None = Unit {0}
OptionFits (Some k) = FitsModifier k

aggregate_fits : (f : Aggregate) (k : SqlType) → OptionFits (aggregate_type f k)
aggregate_fits Count type.Numeric = tt
aggregate_fits Count _ = tt
aggregate_fits Sum type.Integer = tt
aggregate_fits Sum type.Bigint = tt
aggregate_fits Sum _ = tt
aggregate_fits Min (type.Varchar limit) = tt
aggregate_fits Min _ = tt
aggregate_fits Max (type.Varchar limit) = tt
aggregate_fits Max _ = tt

-- ---- operators

compared_fits : (o : Op) (a b : Form) → Holds FormFits (compared o a b)
unfolding compared
compared_fits o a b =
    after FormFits (settled (forms.common_kind a b) a) _ (λ x.
    after FormFits (settled (forms.common_kind a b) b) (compared_to o x) (λ y.
    either_holds FormFits (are_comparable x.kind y.kind) _ _ tt tt))

calculated_fits : (o : Op) (a b : Form) → Holds FormFits (calculated o a b)
unfolding calculated
calculated_fits o a b =
    let kind = forms.common_kind a b in
    either_holds FormFits (forms.is_numeric_form a || forms.is_numeric_form b) _ _ tt
    (either_holds FormFits (is_number kind) _ _
    (after FormFits (settled kind a) _ (λ x.
    after FormFits (settled kind b) (calculated_with o x) (λ y.
    either_holds FormFits (is_number x.kind && is_number y.kind) _ _ (wider_fits x.kind y.kind) tt)))
    tt)

joined_fits : (o : Op) (a b : Form) → Holds FormFits (joined o a b)
unfolding joined
joined_fits o a b = after FormFits (condition a) _ (λ x. after FormFits (condition b) _ (λ y. tt))

combined_fits : (o : Op) (a b : Form) → Holds FormFits (combined o a b)
unfolding combined
combined_fits o a b =
    either_holds FormFits (is_arithmetic o) _ _ (calculated_fits o a b)
    (either_holds FormFits (is_connective o) _ _ (joined_fits o a b) (compared_fits o a b))

negated_fits : (x : Form) → Holds FormFits (negated_form x)
negated_fits (Typed e) =
    cond_both (is_number e.kind) _ _ (Holds FormFits) (number_fits e.kind) (λ _. either_holds FormFits (is_numeric e.kind) (Err S0A000) (Err S42883) tt tt)
negated_fits _ = tt

among_fits : (x : Form) (xs : List Form) (negated : Bool) → Holds FormFits (among x xs negated)
among_fits x [] negated = tt
among_fits x (m ∷ ms) negated =
    after FormFits (settled (kind_or (first_kind (m ∷ ms)) (kind_of x)) x) _ (λ y.
    after FormFits (all_of (map (member y.kind) (m ∷ ms))) (λ ys. typed_form type.Boolean (node.In y ys negated)) (λ ys. tt))

-- ---- functions and columns

aggregate_of_fits : (f : Aggregate) (e : TypedExpr) (o : Option SqlType) → OptionFits o → Holds FormFits (aggregate_of f e o)
aggregate_of_fits f e None h = tt
aggregate_of_fits f e (Some kind) h = h

aggregated_fits : (place : Place) (o : Option Aggregate) (x : Form) → Holds FormFits (aggregated place o x)
aggregated_fits place None x = tt
aggregated_fits Row (Some f) x = tt
aggregated_fits Group (Some f) x =
    after FormFits (settled type.Text x) _ (λ e. aggregate_of_fits f e (aggregate_type f e.kind) (aggregate_fits f e.kind))

starred_fits : (place : Place) (o : Option Aggregate) → Holds FormFits (starred place o)
starred_fits place None = tt
starred_fits Row (Some Count) = tt
starred_fits Group (Some Count) = tt
starred_fits place (Some Sum) = tt
starred_fits place (Some Min) = tt
starred_fits place (Some Max) = tt

column_at_fits : (place : Place) (f : Found) → FitsModifier f.kind → Holds FormFits (column_at place f)
column_at_fits Row f h = h
column_at_fits Group f h = tt

column_fits : (sources : List Source) (place : Place) (qualifier : Option (List ℕ)) (name : List ℕ)
    → All AreShown sources → Holds FormFits (column sources place qualifier name)
unfolding column
column_fits sources place qualifier name h =
    then_holds (λ (f : Found). FitsModifier f.kind) FormFits (resolved sources qualifier name) (column_at place) (found_fits sources qualifier name h)
    (λ f is. column_at_fits place f is)

-- ---- expressions

-- one level, whatever its operands come to
step_fits : (sources : List Source) → All AreShown sources → (x : Expr-F (Place → Outcome Form)) (place : Place)
    → Holds FormFits (typing_step sources x place)
step_fits sources h (Expr-F.Int n) place = literal_fits (is_within (2 ^ 31) n)
step_fits sources h (Expr-F.Str text) place = tt
step_fits sources h (Expr-F.Flag b) place = tt
step_fits sources h Expr-F.Null place = tt
step_fits sources h (Expr-F.Column qualifier name) place = column_fits sources place qualifier name h
step_fits sources h (Expr-F.Call name None) place = starred_fits place (aggregate_named name)
step_fits sources h (Expr-F.Call name (Some a)) place =
    after FormFits (a (inside (aggregate_named name) place)) _ (aggregated_fits place (aggregate_named name))
step_fits sources h (Expr-F.Neg a) place = after FormFits (a place) negated_form negated_fits
step_fits sources h (Expr-F.Not a) place = after FormFits (a place) inverted (λ x. after FormFits (condition x) _ (λ e. tt))
step_fits sources h (Expr-F.IsNull a negated) place =
    after FormFits (a place) _ (λ x. after FormFits (settled type.Text x) _ (λ e. tt))
step_fits sources h (Expr-F.Binary op a b) place = after FormFits (a place) _ (λ x. after FormFits (b place) (combined op x) (combined_fits op x))
step_fits sources h (Expr-F.In a members negated) place =
    after FormFits (a place) _ (λ x.
    after FormFits (all_of (map (λ (f : Place → Outcome Form). f place) members)) (λ xs. among x xs negated) (λ xs. among_fits x xs negated))

pub typing_fits : (sources : List Source) → All AreShown sources → (e : Expr) (place : Place) → Holds FormFits (typing sources e place)
typing_fits sources h = ind-Expr (λ e. (place : Place) → Holds FormFits (typing sources e place)) (λ x y is place.
    subst (λ (f : Place → Outcome Form). Holds FormFits (f place)) (sym (fold-roll-Expr (Place → Outcome Form) (typing_step sources) x))
    (step_fits sources h (map-Expr Expr (Place → Outcome Form) (typing sources) x) place))

-- as a whole item
pub item_fits : (x : Form) → FormFits x → Holds TypeFits (forms.item x)
item_fits (Typed e) h = h
item_fits (Quoted text) h = tt
item_fits Null h = tt
