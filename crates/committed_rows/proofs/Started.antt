-- A store that starts after a history, and what it means that there is none.
use Rattle.std.proofs.Common.{◌≡◌, ◌+◌, ◌<◌, ◌≤◌, List, Option, Some, None, length, arith, refl, ap, ◌∙◌, subst, inl, inr}
use Rattle.std.specs.Prelude.{IsSome}
use Rattle.std.proofs.lemmas.Bool.{cases_lt, false≢true}
use Rattle.cell_base.specs.declared.cell.Cell.{Cell}
use Rattle.cell_base.specs.declared.level.Level.{Level}
use Rattle.cell_base.specs.declared.value.Value.{Value}
use Rattle.sql_tree.specs.declared.table.Table.{Table}
use Rattle.history_core.specs.Initial.{IsInitialState, HoldsWholeRows, initial_load}
use Rattle.history_core.specs.Chronicle.{Chronicle, IsFormedChronicle}
use Rattle.committed_rows.specs.Rows.{AreCommittedRows}
use Rattle.committed_rows.specs.Start.{StartsAfter, HasNoRoom}
use Rattle.committed_rows.proofs.Tables.{rows_initial}
use Rattle.committed_rows.proofs.Unique.{one_list}

same_load : (served : Level) (setup start : Chronicle) (cells : List (Cell × Value)) → AreCommittedRows setup cells → StartsAfter served setup start →
    initial_load start.initial ≡ initial_load cells
same_load served setup start cells rows starts = ap initial_load (one_list setup start.initial cells starts.rows rows)

same_count : (served : Level) (setup start : Chronicle) → StartsAfter served setup start → length start.tables ≡ length setup.tables
same_count served setup start starts = ap (λ (ts : List Table). length ts) starts.tables

-- the rows with the tables are too much
pub too_full : (served : Level) (setup : Chronicle) (cells : List (Cell × Value)) → AreCommittedRows setup cells →
    1048576 ≤ initial_load cells + length setup.tables → HasNoRoom served setup
too_full served setup cells rows full start starts =
    let load = same_load served setup start cells rows starts in
    let count = same_count served setup start starts in
    omega arith

-- the rows make no initial state
pub no_state : (served : Level) (setup : Chronicle) (cells : List (Cell × Value)) → IsFormedChronicle setup → AreCommittedRows setup cells →
    ((IsInitialState cells × HoldsWholeRows setup.tables cells × (initial_load cells < 1048576)) → ⊥) → HasNoRoom served setup
no_state served setup cells formed rows none start starts =
    let load = same_load served setup start cells rows starts in
    elim (cases_lt (initial_load cells) 1048576) [
      | inl less ↦
          let whole : HoldsWholeRows setup.tables cells =
          subst (λ (ts : List Table). HoldsWholeRows ts cells) starts.tables
          (subst (λ (i : List (Cell × Value)). HoldsWholeRows start.tables i) (one_list setup start.initial cells starts.rows rows) starts.whole) in
          absurd (none (rows_initial setup cells formed rows, whole, less))
      | inr more ↦ omega arith
    ]

pub too_full_store : (served : Level) (setup store : Chronicle) (cells initial : List (Cell × Value)) (tables : List Table) → AreCommittedRows setup cells →
    store.initial ≡ initial → initial ≡ cells → tables ≡ setup.tables → 1048576 ≤ initial_load store.initial + length tables → HasNoRoom served setup
too_full_store served setup store cells initial tables rows is same tables_are full =
    let load : initial_load store.initial ≡ initial_load cells = ap initial_load (is ∙ same) in
    let count : length tables ≡ length setup.tables = ap (λ (ts : List Table). length ts) tables_are in
    too_full served setup cells rows (omega arith)

pub no_some : {A : Type 0} (r : Option A) → ((a : A) → r ≡ Some a → ⊥) → IsSome r → ⊥
no_some (Some a) none there = none a refl
no_some None none there = false≢true there
