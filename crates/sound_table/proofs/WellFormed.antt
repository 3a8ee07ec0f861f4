-- Each sound table is well formed.
use Rattle.std.proofs.Common.{◌≡◌, ℕ, ◌≤◌, true, List, [], ◌∷◌, ◌++◌, length, map, Some, Err, All, refl, sym, subst, arith}
use Rattle.std.specs.Prelude.{nat_le, slice_get}
use Rattle.std.proofs.lemmas.Bool.{cond_both, leb-true}
use Rattle.std.proofs.lemmas.List.Elements.{All-nil, All-cons, All-head, All-tail, All-map}
use Rattle.cell_base.specs.declared.sql_state.SqlState.TheVariants.{S54000}
use Rattle.sql_tree.specs.declared.statement.ColumnDef.{ColumnDef}
use Rattle.sql_tree.specs.declared.statement.CreateTable.{CreateTable}
use Rattle.sql_tree.specs.declared.table.Column.{Column}
use Rattle.sql_tree.specs.declared.table.Table.{Table}
use Rattle.sql_tree.specs.declared.typed_expr.TypedExpr.{TypedExpr}
use Rattle.sql_grammar.specs.Limited.{IsPlainName}
use Rattle.typing_rules.specs.Building.{built, columns_from, key_of, marked, checks_of, keyed}
use Rattle.typing_rules.specs.Expressions.{flag}
use Rattle.typing_rules.specs.Names.{Source}
use Rattle.typing_rules.specs.Outcome.{Outcome, all_of}
use Rattle.typing_rules.specs.Sound.{Holds, IsCondition, column_types}
use Rattle.typing_rules.proofs.Numbers.{then_holds}
use Rattle.typing_rules.proofs.Sound.{flag_sound}
use Rattle.sound_table.specs.WellFormed.{HasPlainName, IsColumn, IsWellFormed, SoundIsWellFormed}
use Rattle.sound_table.proofs.Columns.{AreAdded, columns_are, apart, keyed_new, keyed_all, keyed_long, keyed_kinds, keyed_at}
use Rattle.sound_table.proofs.Names.{IsNamed, HasPlainNames, create_named}
use Rattle.sound_table.proofs.Keys.{IsKeyOf, key_is}

-- ---- checks

each_holds : {A B : Type 0} (P : B → Type 0) (f : A → Outcome B) → ((a : A) → Holds P (f a)) → (xs : List A) → Holds (All P) (all_of (map f xs))
each_holds P f h [] = All-nil P
each_holds P f h (x ∷ xs) =
    then_holds P (All P) (f x) _ (h x) (λ y py. then_holds (All P) (All P) (all_of (map f xs)) _ (each_holds P f h xs) (λ ys pys. All-cons P y ys py pys))

abbrev source : List ℕ → List Column → List Source
source name columns = record { name = name; columns = columns } ∷ []

checks_are : (create : CreateTable) (columns : List Column) → Holds (All (IsCondition (column_types (source create.name columns)))) (checks_of create columns)
unfolding checks_of
checks_are create columns =
    each_holds (IsCondition (column_types (source create.name columns))) (flag (source create.name columns))
    (flag_sound (source create.name columns)) create.checks

-- ---- names

unmapped : {A B : Type 0} (P : B → Type 0) (f : A → B) (xs : List A) → All P (map f xs) → All (λ x. P (f x)) xs
unmapped P f [] h = All-nil (λ x. P (f x))
unmapped P f (x ∷ xs) h = All-cons (λ x. P (f x)) x xs (All-head P (f x) (map f xs) h) (unmapped P f xs (All-tail P (f x) (map f xs) h))

names_are : (cs : List Column) (ds : List ColumnDef)
    → map (λ (c : Column). c.name) cs ≡ map (λ (d : ColumnDef). d.name) ds → All IsNamed ds → All HasPlainName cs
names_are cs ds same h =
    unmapped IsPlainName (λ (c : Column). c.name) cs
    (subst (All IsPlainName) (sym same) (All-map IsPlainName (λ (d : ColumnDef). d.name) ds h))

-- ---- the table

abbrev table_of : CreateTable → List Column → ℕ → List TypedExpr → Table
table_of create columns key checks = record { name = create.name; columns = keyed key columns; key = key; checks = checks }

within_list : (cs : List Column) (at : ℕ) (c : Column) → slice_get cs at ≡ Some c → 1 ≤ length cs
within_list [] at c e = absurd (cc)
within_list (x ∷ xs) at c e = omega arith

well_formed : (create : CreateTable) (columns : List Column) (key : ℕ) (checks : List TypedExpr)
    → HasPlainNames create → length create.columns ≤ 32 → AreAdded [] create.columns columns → IsKeyOf 0 columns key
    → All (IsCondition (column_types (source create.name columns))) checks → IsWellFormed (table_of create columns key checks)
well_formed create columns key checks plain few cs k conditions =
    let long = keyed_long key 0 columns in
    let there = keyed_at key 0 k.at columns k.column k.there k.number in
    let at_key : k.at ≡ key = omega (arith, k.number) in
    record {
      named = plain.table;
      names = keyed_all HasPlainName (λ c h. h) key 0 columns (names_are columns create.columns cs.named plain.columns);
      some = within_list (keyed key columns) k.at _ there;
      few = omega (arith, long, cs.long);
      apart = apart [] (keyed key columns) (keyed_new [] key 0 columns cs.new);
      columns = keyed_all IsColumn (λ c is. record { width = is.width; default = is.default }) key 0 columns cs.columns;
      key = record {
        column = record k.column { not_null = true };
        there = subst (λ n. slice_get (keyed key columns) n ≡ Some (record k.column { not_null = true })) at_key there;
        filled = refl;
        ordered = k.ordered;
      };
      checks = subst (λ kinds. All (IsCondition (kinds ∷ [])) checks) (sym (keyed_kinds key 0 columns)) conditions;
    }

built_well : (create : CreateTable) → HasPlainNames create → Holds IsWellFormed (built create)
unfolding built
built_well create plain =
    cond_both (nat_le (length create.columns) 32) _ (Err S54000) (Holds IsWellFormed)
    (λ few. then_holds (AreAdded [] create.columns) IsWellFormed (columns_from [] create.columns) _ (columns_are [] create.columns)
    (λ columns cs. then_holds (IsKeyOf 0 columns) IsWellFormed (key_of columns (marked create.columns ++ create.keys)) _
    (key_is columns (marked create.columns ++ create.keys))
    (λ key k. then_holds (All (IsCondition (column_types (source create.name columns)))) IsWellFormed (checks_of create columns) _ (checks_are create columns)
    (λ checks conditions. well_formed create columns key checks plain (leb-true (length create.columns) 32 few) cs k conditions))))
    (λ _. tt)

pub sound_well : SoundIsWellFormed
sound_well table h = subst (Holds IsWellFormed) h.built (built_well h.create (create_named h.tokens h.statements h.create h.plain h.read h.among))
