-- The tables of a formed history can stand in another one, and its rows can be the initial state of one.
use Rattle.std.proofs.Common.{◌≡◌, ◌≢◌, ℕ, zero, suc, List, [], ◌∷◌, ◌++◌, Some, true, map, arith, refl, ap, sym, ◌∙◌, subst, inl, inr}
use Rattle.std.specs.List.{Contains, slice_get}
use Rattle.std.proofs.lemmas.List.{append-nil}
use Rattle.std.proofs.lemmas.List.Elements.{filter_map-append}
use Rattle.std.proofs.lemmas.Option.{slice_get_within}
use Rattle.cell_base.specs.declared.cell.Cell.{Cell}
use Rattle.cell_base.specs.declared.cell.Cell.TheVariants.{Presence, Field}
use Rattle.cell_base.specs.declared.key.Key.{Key}
use Rattle.cell_base.specs.declared.value.Value.{Value}
use Rattle.cell_base.specs.declared.value.Value.TheVariants.{Unset, Flag}
use Rattle.sql_tree.specs.declared.table.Table.{Table}
use Rattle.txn_buffer.proofs.Lists.{slice_get_push_cases, contains_at}
use Rattle.history_core.specs.declared.event.Event.{Event}
use Rattle.history_core.specs.declared.event.Event.TheVariants.{Open, Close, Define, Look, Begin, Scan, Read, Own, Write, Commit, Rollback, Show}
use Rattle.history_core.specs.Events.{names, defined_name}
use Rattle.history_core.specs.Initial.{IsStorable, FitsCell, IsInitialState}
use Rattle.history_core.specs.Relations.{WritesValue}
use Rattle.history_core.specs.Legal.{IsFormed, MayCome}
use Rattle.history_core.specs.Chronicle.{Chronicle, IsFormedChronicle}
use Rattle.history_core.proofs.Prefixes.{along, formed_back}
use Rattle.history_core.proofs.TablesFew.{tables_few}
use Rattle.committed_rows.specs.Rows.{AreCommittedRows}
use Rattle.committed_rows.specs.Defining.{CanStand}

-- ---- names

-- no name stands at two places
abbrev pub IsOnce : List (List ℕ) → Type 0
IsOnce xs = (i j : ℕ) (x : List ℕ) → slice_get xs i ≡ Some x → slice_get xs j ≡ Some x → i ≡ j

once_push : (xs : List (List ℕ)) (x : List ℕ) → IsOnce xs → (Contains xs x → ⊥) → IsOnce (xs ++ x ∷ [])
once_push xs x once new i j y at_i at_j =
    elim (slice_get_push_cases xs x i y at_i) [
      | inl old_i ↦ elim (slice_get_push_cases xs x j y at_j) [
        | inl old_j ↦ once i j y old_i.1 old_j.1
        | inr new_j ↦ absurd (new (subst (λ (z : List ℕ). Contains xs z) (sym new_j.1) (contains_at xs i y old_i.1)))
      ]
      | inr new_i ↦ elim (slice_get_push_cases xs x j y at_j) [
        | inl old_j ↦ absurd (new (subst (λ (z : List ℕ). Contains xs z) (sym new_i.1) (contains_at xs j y old_j.1)))
        | inr new_j ↦ new_i.0 ∙ sym new_j.0
      ]
    ]

pub names-more : (events more : List Event) → names (events ++ more) ≡ names events ++ names more
names-more events more = filter_map-append defined_name events more

once_next : (initial : List (Cell × Value)) (events : List Event) (e : Event) → IsOnce (names events) → MayCome initial events e → IsOnce (names (events ++ e ∷ []))
once_next initial events (Define s name) once may =
    subst IsOnce (sym (names-more events (Define s name ∷ []))) (once_push (names events) name once may.follows.1)
once_next initial events (Open s) once may = subst IsOnce (sym (names-more events (Open s ∷ []) ∙ append-nil (names events))) once
once_next initial events (Close s) once may = subst IsOnce (sym (names-more events (Close s ∷ []) ∙ append-nil (names events))) once
once_next initial events (Look s n) once may = subst IsOnce (sym (names-more events (Look s n ∷ []) ∙ append-nil (names events))) once
once_next initial events (Begin s level) once may = subst IsOnce (sym (names-more events (Begin s level ∷ []) ∙ append-nil (names events))) once
once_next initial events (Scan s t ks) once may = subst IsOnce (sym (names-more events (Scan s t ks ∷ []) ∙ append-nil (names events))) once
once_next initial events (Read s c f n u v) once may = subst IsOnce (sym (names-more events (Read s c f n u v ∷ []) ∙ append-nil (names events))) once
once_next initial events (Own s c v) once may = subst IsOnce (sym (names-more events (Own s c v ∷ []) ∙ append-nil (names events))) once
once_next initial events (Write s c v) once may = subst IsOnce (sym (names-more events (Write s c v ∷ []) ∙ append-nil (names events))) once
once_next initial events (Commit s) once may = subst IsOnce (sym (names-more events (Commit s ∷ []) ∙ append-nil (names events))) once
once_next initial events (Rollback s) once may = subst IsOnce (sym (names-more events (Rollback s ∷ []) ∙ append-nil (names events))) once
once_next initial events (Show s n) once may = subst IsOnce (sym (names-more events (Show s n ∷ []) ∙ append-nil (names events))) once

no_names : IsOnce []
no_names i j x at_i at_j = let within = slice_get_within [] i x at_i in absurd (omega arith)

pub names_once : (initial : List (Cell × Value)) (events : List Event) → IsFormed initial events → IsOnce (names events)
names_once initial events =
    along (λ (h : List Event). IsFormed initial h → IsOnce (names h))
    (λ h e holds formed. let both = formed_back initial h e formed in once_next initial h e (holds both.0) both.1)
    [] events (λ formed. no_names)

name_at : (tables : List Table) (k : ℕ) (t : Table) → slice_get tables k ≡ Some t → slice_get (map (λ (x : Table). x.name) tables) k ≡ Some t.name
name_at [] k t is = let within = slice_get_within [] k t is in absurd (omega arith)
name_at (u ∷ us) zero t is = let same : u ≡ t = cc in ap (λ (x : Table). Some x.name) same
name_at (u ∷ us) (suc k) t is = name_at us k t is

pub tables_stand : (history : Chronicle) → IsFormedChronicle history → CanStand history.tables
tables_stand history formed = record {
  sound = formed.tables.sound;
  apart = λ i j a b less at_i at_j same.
      let once = subst IsOnce (sym formed.tables.named) (names_once history.initial history.events formed.formed) in
      let place : i ≡ j = once i j b.name (name_at history.tables i a at_i ∙ ap (λ (n : List ℕ). Some n) same) (name_at history.tables j b at_j) in
      omega arith;
  few = tables_few history formed;
}

-- ---- values

storable_there : (initial : List (Cell × Value)) (table column : ℕ) (key : Key) (v : Value) → FitsCell initial (Field table key column) v → IsStorable v
storable_there initial table column key v fits = fits.1

storable_written : (history : Chronicle) (n table column : ℕ) (key : Key) (v : Value) → IsFormedChronicle history → v ≢ Unset →
    WritesValue history.initial history.events n (Field table key column) v → IsStorable v
storable_written history n table column key v formed set (inl (none, inl there)) =
    storable_there history.initial table column key v (formed.initial.fits (Field table key column) v there)
storable_written history n table column key v formed set (inl (none, inr away)) = absurd (set away.1)
storable_written history n table column key v formed set (inr (committed, last)) =
    (formed.formed last.place (Write last.session (Field table key column) v) last.write.is).follows.2

-- the rows of a formed history are an initial state
pub rows_initial : (history : Chronicle) (cells : List (Cell × Value)) → IsFormedChronicle history → AreCommittedRows history cells → IsInitialState cells
rows_initial history cells formed rows = record { ascending = rows.ascending; fits = fits }
  where
    fits : (cell : Cell) (value : Value) → Contains cells (cell, value) → FitsCell cells cell value
    fits (Presence table key) value there = ((rows.exact (Presence table key) value).0 there).0
    fits (Field table key column) value there =
        let stands = (rows.exact (Field table key column) value).0 there in (
          (rows.exact (Presence table key) (Flag true)).1 (refl, stands.0),
          storable_written history stands.1.number table column key value formed stands.2 stands.1.writes,
        )
