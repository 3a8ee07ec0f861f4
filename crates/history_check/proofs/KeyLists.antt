-- The keys of tables, noted one after another.
use Rattle.std.proofs.Common.{◌≡◌, cond, ℕ, ◌+◌, ◌<◌, ◌≤◌, arith, length, List, Some, ap, sym, ◌∙◌, subst, inl, inr}
use Rattle.std.specs.Prelude.{nat_eq}
use Rattle.std.specs.List.{Contains, slice_get}
use Rattle.std.specs.HashMap.{get}
use Rattle.std.proofs.lemmas.Bool.{cases_lt}
use Rattle.std.proofs.lemmas.Option.{slice_get_within}
use Rattle.cell_base.specs.declared.cell.Cell.{Cell}
use Rattle.cell_base.specs.declared.cell.Cell.TheVariants.{Presence, Field}
use Rattle.cell_base.specs.declared.key.Key.{Key}
use Rattle.cell_base.specs.declared.value.Value.{Value}
use Rattle.indexed_history.specs.declared.keys.KeyIndex.{KeyIndex}
use Rattle.indexed_history.proofs.KeyLists as lists
use Rattle.history_check.specs.declared.table_keys.TableKeys.{TableKeys}
use Rattle.history_check.specs.TableKeys.{keys_at, KeepsKeys, IsKept, AreKept}

-- the same keys, as an index of a history keeps them
abbrev pub index_of : TableKeys → KeyIndex
index_of keys = record { alloc = keys.alloc; tables = keys.tables }

-- each key of a table is kept where one list was put in that has them
pub keeps_updated :
    (old new : TableKeys) (table : ℕ) (list : List Key) →
    ((t : ℕ) → get nat_eq new.tables t ≡ cond (nat_eq table t) (Some list) (get nat_eq old.tables t)) →
    ((key : Key) → Contains (keys_at old table) key → Contains list key) → KeepsKeys old new
keeps_updated old new table list updates gains = lists.keeps_updated (index_of old) (index_of new) table list updates gains

-- the list that was put in stands there
pub kept_at :
    (old new : TableKeys) (table : ℕ) (list : List Key) →
    ((t : ℕ) → get nat_eq new.tables t ≡ cond (nat_eq table t) (Some list) (get nat_eq old.tables t)) → keys_at new table ≡ list
kept_at old new table list updates = lists.kept_at (index_of old) (index_of new) table list updates

-- what is found at the table
pub found_keys : (keys : TableKeys) (table : ℕ) (list : List Key) → Some list ≡ get nat_eq keys.tables table → keys_at keys table ≡ list
found_keys keys table list is = lists.found_keys (index_of keys) table list is

kept_still : (old new : TableKeys) (cell : Cell) → KeepsKeys old new → IsKept old cell → IsKept new cell
kept_still old new (Presence table key) keeps there = keeps table key there
kept_still old new (Field table key column) keeps there = tt

-- so it is after the first so many cells
pub record KeepsPart (old : TableKeys) (cells : List (Cell × Value)) (n : ℕ) (now : TableKeys) : Type 0 where
  pub keeps : KeepsKeys old now
  pub noted : (k : ℕ) (entry : Cell × Value) → k < n → slice_get cells k ≡ Some entry → IsKept now entry.0

pub part_none : (old : TableKeys) (cells : List (Cell × Value)) → KeepsPart old cells 0 old
part_none old cells = record { keeps = λ table key there. there; noted = λ k entry below at. absurd (omega arith) }

-- one cell more
pub part_more :
    (old : TableKeys) (cells : List (Cell × Value)) (n : ℕ) (entry : Cell × Value) (mid now : TableKeys) → slice_get cells n ≡ Some entry → KeepsKeys mid now →
    IsKept now entry.0 → KeepsPart old cells n mid → KeepsPart old cells (n + 1) now
part_more old cells n entry mid now at keeps kept part = record {
  keeps = λ table key there. keeps table key (part.keeps table key there);
  noted = λ k other below there. elim (cases_lt k n) [
    | inl before ↦ kept_still mid now other.0 keeps (part.noted k other before there)
    | inr last ↦
        let same : k ≡ n = omega arith in
        let both : Some entry ≡ Some other = sym at ∙ ap (λ (i : ℕ). slice_get cells i) (sym same) ∙ there in
        let is : entry ≡ other = cc in
        subst (λ (e : Cell × Value). IsKept now e.0) is kept
  ];
}

-- all of them
pub part_whole : (old : TableKeys) (cells : List (Cell × Value)) (n : ℕ) (now : TableKeys) → length cells ≤ n → KeepsPart old cells n now → AreKept now cells
part_whole old cells n now end part k entry at = let within = slice_get_within cells k entry at in part.noted k entry (omega arith) at
