-- The columns of each typed SELECT can be described.
use Rattle.std.proofs.Common.{List, [], Ok, All, subst, arith}
use Rattle.std.proofs.lemmas.List.Elements.{All-nil}
use Rattle.sql_tree.specs.declared.statement.Select.{Select}
use Rattle.sql_tree.specs.declared.statement.Statement.{Statement}
use Rattle.sql_tree.specs.declared.statement.Statement.TheVariants as tree
use Rattle.sql_tree.specs.declared.table.Table.{Table}
use Rattle.sql_tree.specs.declared.typed.Typed.{Typed}
use Rattle.sql_tree.specs.declared.typed.Typed.TheVariants as typed_tree
use Rattle.sql_tree.specs.declared.typed.TypedSelect.{TypedSelect}
use Rattle.typing_rules.specs.Changes.{filter_of, typed_update, typed_delete}
use Rattle.typing_rules.specs.Insert.{typed_insert}
use Rattle.typing_rules.specs.Select.{entry_sources, entries_of, ons_of, items_from, order_of, place_of, has_aggregate, typed_select}
use Rattle.typing_rules.specs.Sound.{Holds}
use Rattle.typing_rules.specs.Typed.{typed}
use Rattle.typing_rules.proofs.Numbers.{then_holds}
use Rattle.sound_table.specs.Sound.{IsSound}
use Rattle.sound_table.specs.WellFormed.{IsWellFormed}
use Rattle.sound_table.proofs.WellFormed.{sound_well}
use Rattle.described_columns.specs.Described.{AreDescribed, HasPlainNames}
use Rattle.described_columns.specs.Laws.{ColumnsAreDescribed, StatementIsDescribed}
use Rattle.described_columns.proofs.Entries.{IsOf, entries_well, sources_shown}
use Rattle.described_columns.proofs.Fields.{fields_described}
use Rattle.described_columns.proofs.Types.{after}
use Rattle.described_columns.proofs.Outputs.{AreFew, items_few}

abbrev CanBeDescribed : TypedSelect → Type 0
CanBeDescribed t = AreDescribed t.fields

select_described : (tables : List Table) (s : Select) → All IsWellFormed tables → HasPlainNames (tree.Select s) → Holds CanBeDescribed (typed_select tables s)
unfolding typed_select
select_described tables s h plain =
    then_holds (All IsOf) CanBeDescribed (entries_of tables s.from) _ (entries_well tables s.from h) (λ entries of_tables.
    let sources = entry_sources entries in
    let place = place_of (has_aggregate s) in
    after CanBeDescribed (ons_of sources s.from) _ (λ ons.
    after CanBeDescribed (filter_of sources s.filter) _ (λ filter.
    then_holds AreFew CanBeDescribed (items_from place sources [] s.items) _
    (items_few place sources [] s.items (sources_shown entries of_tables) plain (record { few = omega arith; each = All-nil _ })) (λ outputs few.
    after CanBeDescribed (order_of (has_aggregate s) sources outputs s.order) _ (λ order. fields_described outputs few)))))

pub columns_described : ColumnsAreDescribed
columns_described tables select t h plain typed = subst (Holds CanBeDescribed) typed (select_described tables select h plain)

-- ---- statements

abbrev CanBeTold : Typed → Type 0
CanBeTold (typed_tree.Select t) = CanBeDescribed t
CanBeTold _ = Unit {0}

told : (tables : List Table) (statement : Statement) → All IsWellFormed tables → HasPlainNames statement → Holds CanBeTold (typed tables statement)
told tables (tree.Select s) h plain =
    then_holds CanBeDescribed CanBeTold (typed_select tables s) (λ t. Ok (typed_tree.Select t)) (select_described tables s h plain) (λ t is. is)
told tables (tree.Insert s) h plain = after CanBeTold (typed_insert tables s) (λ t. Ok (typed_tree.Insert t)) (λ t. tt)
told tables (tree.Update s) h plain = after CanBeTold (typed_update tables s) (λ t. Ok (typed_tree.Change t)) (λ t. tt)
told tables (tree.Delete s) h plain = after CanBeTold (typed_delete tables s) (λ t. Ok (typed_tree.Change t)) (λ t. tt)
told tables _ h plain = tt

all_well : (tables : List Table) → All IsSound tables → All IsWellFormed tables
all_well tables h = λ k d within. sound_well _ (h k d within)

pub statement_described : StatementIsDescribed
statement_described tables statement t h plain typed =
    subst (Holds CanBeTold) typed (told tables statement (all_well tables h) plain)
