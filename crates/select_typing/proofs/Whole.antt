-- A typed SELECT of its parts.
use Rattle.std.proofs.Common.{◌≡◌, ℕ, Bool, true, false, List, [], map, Option, Ok, Err, refl, ap, sym, ◌∙◌}
use Rattle.cell_base.specs.declared.key.Key.{Key}
use Rattle.cell_base.specs.declared.sql_fault.SqlFault.{SqlFault}
use Rattle.cell_base.specs.declared.sql_fault.SqlFault.TheVariants.{State, Memory}
use Rattle.cell_base.specs.declared.sql_state.SqlState.{SqlState}
use Rattle.typing_rules.specs.Gives.{Gives, GivesBy}
use Rattle.sql_tree.specs.declared.statement.Select.{Select}
use Rattle.sql_tree.specs.declared.table.Table.{Table}
use Rattle.sql_tree.specs.declared.typed.TypedSelect.{TypedSelect}
use Rattle.sql_tree.specs.declared.typed_expr.TypedExpr.{TypedExpr}
use Rattle.typing_rules.specs.declared.place.Place.{Place}
use Rattle.typing_rules.specs.Changes.{filter_of}
use Rattle.typing_rules.specs.Names.{Source}
use Rattle.typing_rules.specs.Outcome.{Outcome, and_then}
use Rattle.typing_rules.specs.Select.{Entry, entries_of, entry_sources, ons_of, items_from, place_of, order_of, has_aggregate, mentioned_of, points_from, typed_select}
use Rattle.select_typing.specs.declared.select.Lists.{Lists}
use Rattle.select_typing.specs.declared.select.Parts.{Parts}
use Rattle.select_typing.specs.Lists.{AreLists, listed, typed_of}
use Rattle.select_typing.specs.Parts.{SelectParts, select_parts, parts_of, whole, is_group}

under : {A B : Type 0} (o : Outcome A) (f g : A → Outcome B) → ((a : A) → f a ≡ g a) → and_then o f ≡ and_then o g
under (Ok a) f g h = h a
under (Err code) f g h = refl

assoc : {A B C : Type 0} (o : Outcome A) (f : A → Outcome B) (g : B → Outcome C) → and_then (and_then o f) g ≡ and_then o (λ a. and_then (f a) g)
assoc (Ok a) f g = refl
assoc (Err code) f g = refl

-- groups of rows are where an aggregate is called
pub group_is : (grouped : Bool) → is_group (place_of grouped) ≡ grouped
group_is true = refl
group_is false = refl

-- what follows from the parts follows from each of them
parts_then : {B : Type 0} (sources : List Source) (s : Select) (at : Place) (grouped : Bool) (k : SelectParts → Outcome B)
    → is_group at ≡ grouped
    → and_then (parts_of sources s at) k
    ≡ and_then (ons_of sources s.from) (λ ons.
    and_then (filter_of sources s.filter) (λ filter.
    and_then (items_from at sources [] s.items) (λ outputs.
    and_then (order_of grouped sources outputs s.order) (λ order.
    k (record { ons = ons; filter = filter; outputs = outputs; order = order })))))
parts_then sources s at grouped k is = rw (← is) (
    assoc (ons_of sources s.from) _ k ∙ under (ons_of sources s.from) _ _ (λ ons.
    assoc (filter_of sources s.filter) _ k ∙ under (filter_of sources s.filter) _ _ (λ filter.
    assoc (items_from at sources [] s.items) _ k ∙ under (items_from at sources [] s.items) _ _ (λ outputs.
    assoc (order_of (is_group at) sources outputs s.order) _ k))))

select_is : (tables : List Table) (s : Select)
    → typed_select tables s
    ≡ and_then (entries_of tables s.from) (λ es. and_then (parts_of (entry_sources es) s (place_of (has_aggregate s)))
    (λ p. Ok (whole es s (has_aggregate s) p)))
unfolding typed_select
select_is tables s = under (entries_of tables s.from) _ _ (λ es. sym
    (parts_then (entry_sources es) s (place_of (has_aggregate s)) (has_aggregate s) (λ p. Ok (whole es s (has_aggregate s) p)) (group_is (has_aggregate s))))

pub select_ok : (tables : List Table) (s : Select) (es : List Entry) (sources : List Source) (p : SelectParts) → entries_of tables s.from ≡ Ok es
    → sources ≡ entry_sources es
    → parts_of sources s (place_of (has_aggregate s)) ≡ Ok p → typed_select tables s ≡ Ok (whole es s (has_aggregate s) p)
select_ok tables s es sources p e f g =
    let h : parts_of (entry_sources es) s (place_of (has_aggregate s)) ≡ Ok p = rw (← f) g in
    select_is tables s
    ∙ ap (λ o. and_then o (λ xs. and_then (parts_of (entry_sources xs) s (place_of (has_aggregate s))) (λ q. Ok (whole xs s (has_aggregate s) q)))) e
    ∙ ap (λ o. and_then o (λ q. Ok (whole es s (has_aggregate s) q))) h

select_err : (tables : List Table) (s : Select) (es : List Entry) (sources : List Source) (code : SqlState) → entries_of tables s.from ≡ Ok es
    → sources ≡ entry_sources es
    → parts_of sources s (place_of (has_aggregate s)) ≡ Err code → typed_select tables s ≡ Err code
select_err tables s es sources code e f g =
    let h : parts_of (entry_sources es) s (place_of (has_aggregate s)) ≡ Err code = rw (← f) g in
    select_is tables s
    ∙ ap (λ o. and_then o (λ xs. and_then (parts_of (entry_sources xs) s (place_of (has_aggregate s))) (λ q. Ok (whole xs s (has_aggregate s) q)))) e
    ∙ ap (λ o. and_then o (λ q. Ok (whole es s (has_aggregate s) q))) h

pub select_failed : (tables : List Table) (s : Select) (es : List Entry) (sources : List Source) (why : SqlFault)
    → entries_of tables s.from ≡ Ok es → sources ≡ entry_sources es
    → GivesBy select_parts (parts_of sources s (place_of (has_aggregate s))) (Err why) → Gives {A = TypedSelect} (typed_select tables s) (Err why)
select_failed tables s es sources (State code) e f g = select_err tables s es sources code e f g
select_failed tables s es sources Memory e f g = tt

-- ---- the typed SELECT of the lists of its parts

lists_whole : (es : List Entry) (s : Select) (grouped : Bool) (p : SelectParts) (lists : Lists) → AreLists lists p
    → typed_of s lists (points_from es p.filter 0 es) (map (mentioned_of es (listed lists)) es) (map (λ e. e.found.number) es) grouped ≡ whole es s grouped p
lists_whole es s grouped p lists are = simp (are.conditions, are.fields, are.items, are.order)

pub whole_is : (es : List Entry) (s : Select) (grouped : Bool) (before parts : Parts) (made lists : Lists) (filter : Option TypedExpr) (points : List (Option Key))
    (mentioned : List (List ℕ)) (tables : List ℕ) → before ≡ parts → AreLists made (select_parts before) → lists ≡ made → filter ≡ parts.filter
    → points ≡ points_from es filter 0 es → mentioned ≡ map (mentioned_of es (listed made)) es → tables ≡ map (λ e. e.found.number) es
    → typed_of s lists points mentioned tables grouped ≡ whole es s grouped (select_parts parts)
whole_is es s grouped before parts made lists filter points mentioned tables same are kept by points_are mentioned_are tables_are =
    ap (λ p. typed_of s lists p mentioned tables grouped) (points_are ∙ ap (λ f. points_from es f 0 es) by)
    ∙ ap (λ m. typed_of s lists (points_from es parts.filter 0 es) m tables grouped) mentioned_are
    ∙ ap (λ t. typed_of s lists (points_from es parts.filter 0 es) (map (mentioned_of es (listed made)) es) t grouped) tables_are
    ∙ ap (λ l. typed_of s l (points_from es parts.filter 0 es) (map (mentioned_of es (listed made)) es) (map (λ e. e.found.number) es) grouped) kept
    ∙ lists_whole es s grouped (select_parts parts) made (rw same at are)
