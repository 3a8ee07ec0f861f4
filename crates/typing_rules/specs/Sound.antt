-- What holds of each typed expression: it is well typed, and aggregates stand in it only where they may.
use Rattle.std.specs.Prelude.{◌≡◌, List, map, Ok, Err}
use Rattle.sql_tree.specs.declared.expr.Expr.{Expr}
use Rattle.sql_tree.specs.declared.typed_expr.TypedExpr.{TypedExpr}
use Rattle.typing_rules.specs.declared.form.Form.{Form}
use Rattle.typing_rules.specs.declared.form.Form.TheVariants.{Typed}
use Rattle.typing_rules.specs.declared.place.Place.{Place}
use Rattle.typing_rules.specs.declared.place.Place.TheVariants.{Row, Group}
use Rattle.typing_rules.specs.Outcome.{Outcome}
use Rattle.typing_rules.specs.Names.{Source}
use Rattle.typing_rules.specs.WellTyped.{ColumnTypes, IsWellTyped, HasNoAggregate}
use Rattle.cell_base.specs.declared.sql_type.SqlType.TheVariants.{Boolean}
use Rattle.typing_rules.specs.Expressions.{typing, flag}

-- the types of the columns of each entry
abbrev pub column_types : List Source → ColumnTypes
column_types = map (λ s. map (λ c. c.kind) s.columns)

-- no aggregate stands in an expression of one row
abbrev pub IsPlainIn : Place → TypedExpr → Type 0
IsPlainIn Row e = HasNoAggregate e
IsPlainIn Group e = Unit {0}

pub record IsSoundExpr (types : ColumnTypes) (place : Place) (e : TypedExpr) : Type 0 where
  pub well : IsWellTyped types e
  pub plain : IsPlainIn place e

abbrev pub IsSoundForm : ColumnTypes → Place → Form → Type 0
IsSoundForm types place (Typed e) = IsSoundExpr types place e
IsSoundForm types place _ = Unit {0}

-- a fact of the value, where there is one
abbrev pub Holds : {A : Type 0} → (A → Type 0) → Outcome A → Type 0
Holds P (Ok a) = P a
Holds P (Err code) = Unit {0}

-- what an expression comes to is sound
abbrev pub TypingIsSound : Type 0
TypingIsSound = (sources : List Source) (e : Expr) (place : Place) → Holds (IsSoundForm (column_types sources) place) (typing sources e place)

-- a condition: well typed, boolean, and without an aggregate
pub record IsCondition (types : ColumnTypes) (e : TypedExpr) : Type 0 where
  pub well : IsWellTyped types e
  pub plain : HasNoAggregate e
  pub boolean : e.kind ≡ Boolean

-- what a condition comes to is one
abbrev pub FlagIsSound : Type 0
FlagIsSound = (sources : List Source) (e : Expr) → Holds (IsCondition (column_types sources)) (flag sources e)
