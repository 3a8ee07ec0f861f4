-- The expressions of a typed SELECT, as the parts give them.
use Rattle.std.specs.Prelude.{◌≡◌, ◌++◌, ℕ, Bool, List, map, Option}
use Rattle.cell_base.specs.declared.key.Key.{Key}
use Rattle.sql_tree.specs.declared.statement.Select.{Select}
use Rattle.sql_tree.specs.declared.typed.TypedSelect.{TypedSelect}
use Rattle.sql_tree.specs.declared.typed_expr.TypedExpr.{TypedExpr}
use Rattle.typing_rules.specs.Select.{field_of, option_list, offset_of}
use Rattle.select_typing.specs.declared.select.Lists.{Lists}
use Rattle.select_typing.specs.Parts.{SelectParts}

-- the conditions, the fields and values of the columns, and the terms of ORDER BY
pub record AreLists (lists : Lists) (parts : SelectParts) : Type 0 where
  pub conditions : lists.conditions ≡ parts.ons ++ option_list parts.filter
  pub fields : lists.columns.fields ≡ map field_of parts.outputs
  pub items : lists.columns.items ≡ map (λ o. o.expr) parts.outputs
  pub order : lists.order ≡ parts.order

-- all of the expressions
abbrev pub listed : Lists → List TypedExpr
listed lists = lists.conditions ++ lists.columns.items ++ map (λ t. t.0) lists.order

-- the typed SELECT of the lists, and of what its entries come to
abbrev pub typed_of : Select → Lists → List (Option Key) → List (List ℕ) → List ℕ → Bool → TypedSelect
typed_of s lists points mentioned tables grouped = record {
  fields = lists.columns.fields;
  tables = tables;
  mentioned = mentioned;
  points = points;
  conditions = lists.conditions;
  items = lists.columns.items;
  order = lists.order;
  aggregate = grouped;
  limit = s.limit;
  offset = offset_of s.offset;
}
