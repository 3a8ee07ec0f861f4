-- The parts of a SELECT after FROM, and the typed SELECT of them.
use Rattle.std.specs.Prelude.{Bool, true, false, List, ◌++◌, [], map, Option, Ok}
use Rattle.sql_tree.specs.declared.statement.Select.{Select}
use Rattle.sql_tree.specs.declared.typed.TypedSelect.{TypedSelect}
use Rattle.sql_tree.specs.declared.typed_expr.TypedExpr.{TypedExpr}
use Rattle.typing_rules.specs.declared.place.Place.{Place}
use Rattle.typing_rules.specs.declared.place.Place.TheVariants as place
use Rattle.typing_rules.specs.Changes.{filter_of}
use Rattle.typing_rules.specs.Names.{Source}
use Rattle.typing_rules.specs.Outcome.{Outcome, and_then}
use Rattle.typing_rules.specs.Select.{Entry, Output, ons_of, items_from, order_of, field_of, mentioned_of, points_from, option_list, offset_of}
use Rattle.select_typing.specs.declared.select.Parts.{Parts}
use Rattle.select_typing.specs.Outputs.{outputs}

pub record SelectParts : Type 0 where
  pub ons : List TypedExpr
  pub filter : Option TypedExpr
  pub outputs : List Output
  pub order : List (TypedExpr × Bool)

abbrev pub select_parts : Parts → SelectParts
select_parts p = record { ons = p.ons; filter = p.filter; outputs = outputs p.outputs; order = p.order }

-- whether the place is that of groups of rows
abbrev pub is_group : Place → Bool
is_group place.Group = true
is_group place.Row = false

abbrev pub parts_of : List Source → Select → Place → Outcome SelectParts
parts_of sources s at =
    and_then (ons_of sources s.from) (λ ons.
    and_then (filter_of sources s.filter) (λ filter.
    and_then (items_from at sources [] s.items) (λ outputs.
    and_then (order_of (is_group at) sources outputs s.order) (λ order.
    Ok (record { ons = ons; filter = filter; outputs = outputs; order = order })))))

-- all expressions that are read
abbrev pub read : SelectParts → List TypedExpr
read p = p.ons ++ option_list p.filter ++ map (λ o. o.expr) p.outputs ++ map (λ t. t.0) p.order

abbrev pub whole : List Entry → Select → Bool → SelectParts → TypedSelect
whole entries s grouped p = record {
  fields = map field_of p.outputs;
  tables = map (λ e. e.found.number) entries;
  mentioned = map (mentioned_of entries (read p)) entries;
  points = points_from entries p.filter 0 entries;
  conditions = p.ons ++ option_list p.filter;
  items = map (λ o. o.expr) p.outputs;
  order = p.order;
  aggregate = grouped;
  limit = s.limit;
  offset = offset_of s.offset;
}
