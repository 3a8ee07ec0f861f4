-- The entries of FROM are of the tables.
use Rattle.std.proofs.Common.{ℕ, ◌+◌, List, [], ◌∷◌, ◌++◌, length, Err, All}
use Rattle.std.specs.Prelude.{nat_lt}
use Rattle.std.specs.List.{list_any}
use Rattle.std.specs.Str.{bytes_eq}
use Rattle.std.proofs.lemmas.Bool.{cond_both}
use Rattle.std.proofs.lemmas.List.Elements.{All-nil, All-cons, All-head, All-tail, All-append, All-map}
use Rattle.cell_base.specs.declared.sql_state.SqlState.TheVariants.{S42712, S54000}
use Rattle.sql_tree.specs.declared.statement.TableRef.{TableRef}
use Rattle.sql_tree.specs.declared.table.Table.{Table}
use Rattle.typing_rules.specs.Select.{Entry, name_or, entries_from, entries_of, entry_source, entry_sources}
use Rattle.typing_rules.specs.Sound.{Holds}
use Rattle.typing_rules.specs.Tables.{Numbered, table_from, table_named}
use Rattle.typing_rules.proofs.Numbers.{then_holds}
use Rattle.sound_table.specs.WellFormed.{IsWellFormed}
use Rattle.described_columns.proofs.Columns.{AreShown, columns_shown}

abbrev IsWell : Numbered → Type 0
IsWell found = IsWellFormed found.table

abbrev pub IsOf : Entry → Type 0
IsOf entry = IsWell entry.found

table_well : (name : List ℕ) (i : ℕ) (ts : List Table) → All IsWellFormed ts → Holds IsWell (table_from name i ts)
table_well name i [] h = tt
table_well name i (t ∷ ts) h =
    cond_both (bytes_eq t.name name) _ _ (Holds IsWell) (λ _. All-head IsWellFormed t ts h) (λ _. table_well name (i + 1) ts (All-tail IsWellFormed t ts h))

from_well : (tables : List Table) (before : List Entry) (rs : List TableRef)
    → All IsWellFormed tables → All IsOf before → Holds (All IsOf) (entries_from tables before rs)
from_well tables before [] h k = k
from_well tables before (r ∷ rs) h k =
    then_holds IsWell (All IsOf) (table_named tables r.name) _ (table_well r.name 0 tables h) (λ t well.
    let entry : Entry = record { name = name_or r.name r.alias; found = t } in
    cond_both (list_any (λ (e : Entry). bytes_eq e.name entry.name) before) (Err S42712) _ (Holds (All IsOf)) (λ _. tt)
    (λ _. from_well tables (before ++ entry ∷ []) rs h (All-append IsOf before (entry ∷ []) k (All-cons IsOf entry [] well (All-nil IsOf)))))

pub entries_well : (tables : List Table) (from : List TableRef) → All IsWellFormed tables → Holds (All IsOf) (entries_of tables from)
unfolding entries_of
entries_well tables from h =
    cond_both (nat_lt 4 (length from)) (Err S54000) _ (Holds (All IsOf)) (λ _. tt) (λ _. from_well tables [] from h (All-nil IsOf))

pub sources_shown : (entries : List Entry) → All IsOf entries → All AreShown (entry_sources entries)
sources_shown entries h = All-map AreShown entry_source entries (λ k d within. columns_shown _ (h k d within))
