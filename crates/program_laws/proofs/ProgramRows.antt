-- A history that begins without a row, and whose sessions keep rows whole.
use Rattle.std.proofs.Common.{◌≡◌, ℕ, List, [], ◌∷◌, refl, sym, subst}
use Rattle.cell_base.specs.declared.cell.Cell.{Cell}
use Rattle.cell_base.specs.declared.key.Key.{Key}
use Rattle.cell_base.specs.declared.value.Value.{Value}
use Rattle.sql_tree.specs.declared.table.Table.{Table}
use Rattle.history_core.specs.declared.event.Event.{Event}
use Rattle.history_core.specs.declared.event.Event.TheVariants.{Open, Close, Define, Look, Begin, Scan, Read, Own, Write, Commit, Rollback, Show}
use Rattle.history_core.specs.Initial.{HoldsWholeRows}
use Rattle.history_core.specs.Chronicle.{Chronicle, IsLegalChronicle, own_events}
use Rattle.statement_laws.specs.WholeRows.{ShowsNoUnset}
use Rattle.statement_laws.proofs.RowsWhole.{all_set}
use Rattle.session_laws.specs.Alone.{AreFirst, MayFollow, shown_following, owed_following, KeepsRowsFrom, KeepsRowsAlone}
use Rattle.session_laws.proofs.Fronts.{ask_first, write_first, owed_first}
use Rattle.session_laws.proofs.Histories.{keeps_rows}
use Rattle.program_laws.proofs.WholeStart.{no_rows}

-- ---- more tables

follow_first : (xs ys : List Table) (shown : List (ℕ × Key)) (owed : List Cell) (e : Event) → AreFirst xs ys → MayFollow xs shown owed e → MayFollow ys shown owed e
follow_first xs ys shown owed (Read s cell source count word v) first may = (may.0, ask_first xs ys shown cell first may.1)
follow_first xs ys shown owed (Write s cell v) first may = write_first xs ys owed cell v first may
follow_first xs ys shown owed (Open s) first may = may
follow_first xs ys shown owed (Close s) first may = may
follow_first xs ys shown owed (Define s name) first may = may
follow_first xs ys shown owed (Look s count) first may = may
follow_first xs ys shown owed (Begin s level) first may = may
follow_first xs ys shown owed (Scan s table keys) first may = may
follow_first xs ys shown owed (Own s cell v) first may = may
follow_first xs ys shown owed (Commit s) first may = may
follow_first xs ys shown owed (Rollback s) first may = may
follow_first xs ys shown owed (Show s number) first may = may

owes_first : (xs ys : List Table) (shown : List (ℕ × Key)) (owed : List Cell) (e : Event) → AreFirst xs ys → MayFollow xs shown owed e →
    owed_following xs owed e ≡ owed_following ys owed e
owes_first xs ys shown owed (Write s cell v) first may = owed_first xs ys owed cell v first may
owes_first xs ys shown owed (Read s cell source count word v) first may = refl
owes_first xs ys shown owed (Open s) first may = refl
owes_first xs ys shown owed (Close s) first may = refl
owes_first xs ys shown owed (Define s name) first may = refl
owes_first xs ys shown owed (Look s count) first may = refl
owes_first xs ys shown owed (Begin s level) first may = refl
owes_first xs ys shown owed (Scan s table keys) first may = refl
owes_first xs ys shown owed (Own s cell v) first may = refl
owes_first xs ys shown owed (Commit s) first may = refl
owes_first xs ys shown owed (Rollback s) first may = refl
owes_first xs ys shown owed (Show s number) first may = refl

pub keeps_more : (xs ys : List Table) (shown : List (ℕ × Key)) (owed : List Cell) (es : List Event) → AreFirst xs ys → KeepsRowsFrom xs shown owed es →
    KeepsRowsFrom ys shown owed es
keeps_more xs ys shown owed [] first keeps = tt
keeps_more xs ys shown owed (e ∷ es) first keeps = (
  follow_first xs ys shown owed e first keeps.0,
  subst (λ (cells : List Cell). KeepsRowsFrom ys (shown_following shown e) cells es) (owes_first xs ys shown owed e first keeps.0)
      (keeps_more xs ys (shown_following shown e) (owed_following xs owed e) es first keeps.1),
)

-- ---- no row at first

pub shows_whole : (history : Chronicle) → IsLegalChronicle history → history.initial ≡ [] →
    ((session : ℕ) → KeepsRowsAlone history.tables (own_events history.events session)) → ShowsNoUnset history.events
shows_whole history legal none alone =
    all_set history.tables history.initial history.events (record {
      state = legal.initial;
      legal = legal.legal;
      rows = subst (λ (cells : List (Cell × Value)). HoldsWholeRows history.tables cells) (sym none) (no_rows history.tables);
      keeps = keeps_rows history.tables history.events alone;
    })
