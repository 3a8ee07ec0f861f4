-- The keys whose presence a committed transaction wrote, and what a scan lists of them.
use Rattle.std.proofs.Common.{◌≡◌, ℕ, ◌+◌, ◌<◌, ◌≤◌, List, length, get_or, Some, arith, refl, ap, sym, ◌∙◌, subst, inl, inr}
use Rattle.std.specs.List.{Contains, slice_get}
use Rattle.std.specs.List.Sorted.{IsStrictlyIncreasing}
use Rattle.std.proofs.lemmas.Bool.{cases_eq}
use Rattle.std.proofs.lemmas.Option.{slice_get_within}
use Rattle.txn_buffer.proofs.Lists.{at_contains}
use Rattle.cell_base.specs.declared.cell.Cell.{Cell}
use Rattle.cell_base.specs.declared.cell.Cell.TheVariants.{Presence, Field}
use Rattle.cell_base.specs.declared.key.Key.{Key}
use Rattle.history_core.specs.declared.event.Event.{Event}
use Rattle.history_core.specs.declared.event.Event.TheVariants.{Scan, Write}
use Rattle.history_core.specs.Relations.{Writes}
use Rattle.indexed_history.proofs.Ascending.{increasing_less, get_contained}
use Rattle.saturation.proofs.Sights.{writes_later}
use Rattle.cell_writers.specs.declared.cell_note.CellNote.{CellNote}
use Rattle.cell_writers.specs.declared.cell_note.CellNotes.{CellNotes}
use Rattle.cell_writers.specs.Numbered.{AreWriters}
use Rattle.order_test.specs.declared.firsts.TableFirsts.{TableFirsts}
use Rattle.order_test.specs.Glance.{IsLimitOf}
use Rattle.order_test.specs.Sights.{IsReadAt}
use Rattle.order_test.specs.Listed.{HasNoRival}
use Rattle.order_test.specs.Entries.{IsEntryAt, AreAscending}
use Rattle.order_test.specs.Firsts.{firsts_at, KeepsFirsts, HoldCommitted, HoldsFirst, HoldFirsts, ListsUpTo}
use Rattle.order_test.proofs.FirstLemmas.{has_kept, has_more}
use Rattle.order_test.proofs.QuickLemmas.{visible_is_causal, scanned}
use Rattle.order_test.proofs.ReachLemmas.{has_note, noted_at}

-- ---- one cell after another

holds_kept : (old new : TableFirsts) → KeepsFirsts old new → (numbers : List ℕ) (cell : Cell) → HoldsFirst old numbers cell → HoldsFirst new numbers cell
holds_kept old new keeps numbers (Presence table key) holds = λ some. has_kept old new keeps table key (get_or numbers 0 0) (holds some)
holds_kept old new keeps numbers (Field table key column) holds = tt

-- what is noted at a number is one
one_entry : (cells : CellNotes) (at : ℕ) (a b : Cell × List ℕ) → IsEntryAt cells at a → IsEntryAt cells at b → a ≡ b
one_entry cells at (x, xs) (y, ys) first second =
    let cells_both : Some x ≡ Some y = sym first.cell_is ∙ second.cell_is in
    let notes_both : Some first.note ≡ Some second.note = sym first.note_is ∙ second.note_is in
    let cell : x ≡ y = cc in
    let note : first.note ≡ second.note = cc in
    let numbers : xs ≡ ys = sym first.committed ∙ ap (λ (n : CellNote). n.committed) note ∙ second.committed in
    ap (λ (c : Cell). (c, xs)) cell ∙ ap (λ (ns : List ℕ). (y, ns)) numbers

pub firsts_more :
    (cells : CellNotes) (n : ℕ) (cell : Cell) (numbers : List ℕ) (old new : TableFirsts) → IsEntryAt cells n (cell, numbers) → KeepsFirsts old new →
    HoldsFirst new numbers cell → HoldFirsts cells n old → HoldFirsts cells (n + 1) new
firsts_more cells n cell numbers old new at keeps here before k entry below is = elim (cases_eq k n) [
  | inr apart ↦ holds_kept old new keeps entry.1 entry.0 (before k entry (omega arith) is)
  | inl same ↦
      let one : entry ≡ (cell, numbers) = one_entry cells n entry (cell, numbers) (subst (λ (i : ℕ). IsEntryAt cells i entry) same is) at in
      subst (λ (e : Cell × List ℕ). HoldsFirst new e.1 e.0) (sym one) here
]

-- ---- all cells

pub firsts_whole : (cells : CellNotes) (n : ℕ) (firsts : TableFirsts) → AreAscending cells → length cells.notes.items ≤ n → HoldFirsts cells n firsts → HoldCommitted cells firsts
firsts_whole cells n firsts rises all hold at table key numbers number entry member =
    let within = slice_get_within cells.notes.items at entry.note entry.note_is in
    let up : IsStrictlyIncreasing numbers = subst IsStrictlyIncreasing entry.committed (rises at entry.note entry.note_is) in
    let place = get_contained numbers number member in
    let inside = place.1 in
    let value = place.2 in
    let low : get_or numbers 0 0 ≤ number = elim (cases_eq place.0 0) [
      | inl first ↦ let one : get_or numbers place.0 0 ≡ get_or numbers 0 0 = ap (λ (i : ℕ). get_or numbers i 0) first in omega arith
      | inr later ↦ let less = increasing_less numbers up 0 place.0 (omega arith) inside in omega arith
    ] in
    has_more (firsts_at firsts table) key (get_or numbers 0 0) number low (hold at (Presence table key, numbers) (omega arith) entry (omega arith))

-- ---- what a scan lists

-- keys that were walked over
abbrev pub AreListedTo : List (ℕ × Key) → List Key → ℕ → ℕ → Type 0
AreListedTo pairs keys top n = (k : ℕ) (pair : ℕ × Key) → k < n → slice_get pairs k ≡ Some pair → pair.0 ≤ top → Contains keys pair.1

pub listed_to_step :
    (pairs : List (ℕ × Key)) (keys : List Key) (top n : ℕ) (pair : ℕ × Key) → slice_get pairs n ≡ Some pair → (pair.0 ≤ top → Contains keys pair.1) → AreListedTo pairs keys top n →
    AreListedTo pairs keys top (n + 1)
listed_to_step pairs keys top n pair at here before k other below is up = elim (cases_eq k n) [
  | inr apart ↦ before k other (omega arith) is up
  | inl same ↦
      let both : Some other ≡ Some pair = sym is ∙ ap (λ (i : ℕ). slice_get pairs i) same ∙ at in
      let one : other ≡ pair = cc in
      subst (λ (p : ℕ × Key). Contains keys p.1) (sym one) (here (subst (λ (p : ℕ × Key). p.0 ≤ top) one up))
]

pub listed_to_whole : (pairs : List (ℕ × Key)) (keys : List Key) (top n : ℕ) → length pairs ≤ n → AreListedTo pairs keys top n → ListsUpTo pairs keys top
listed_to_whole pairs keys top n all before number key there up =
    let place = at_contains pairs (number, key) there in
    let within = slice_get_within pairs place.0 (number, key) place.1 in
    before place.0 (number, key) (omega arith) place.1 up

-- a committed writer of a cell after the initial transaction is noted at its number
writer_entry :
    (events : List Event) (cells : CellNotes) → AreWriters events cells → (cell : Cell) (other : ℕ) → 0 < other → Writes events other cell →
    (at : ℕ) × ((numbers : List ℕ) × (IsEntryAt cells at (cell, numbers) × Contains numbers other))
writer_entry events cells wrote cell other low writes =
    let written = (writes_later events other cell low writes).1 in
    let here = wrote.numbered.each written.place (Write written.session cell written.value) cell written.write.is refl in
    let at : ℕ = get_or cells.numbers.of_events.items written.place 0 in
    let found = has_note events cells wrote at cell here in (
      at,
      (found.0.committed, (record { cell_is = here; note = found.0; note_is = found.1; committed = refl }, noted_at events cells wrote at cell here other low writes found.0 found.1)),
    )

pub scan_reached_clear :
    (events : List Event) (order : List ℕ) (cells : CellNotes) → AreWriters events cells → (firsts : TableFirsts) → HoldCommitted cells firsts → (s table : ℕ) (keys : List Key)
    (place reader : ℕ) → IsReadAt events place (Scan s table keys) reader → (limit : ℕ) → IsLimitOf events reader limit → ListsUpTo (firsts_at firsts table) keys limit →
    HasNoRival events order place (Scan s table keys) reader
scan_reached_clear events order cells wrote firsts hold s table keys place reader read limit is_limit lists other rival =
    let unmet = rival.1 in
    let apart = unmet.other in
    let up : other ≤ limit = is_limit other (visible_is_causal events reader place other unmet.visible.level unmet.visible.sees) in
    let cell = scanned events order s table keys place reader other rival.0 read unmet in
    let writes : Writes events other (Presence table cell.0) = subst (λ (c : Cell). Writes events other c) cell.1 unmet.writes in
    let noted = writer_entry events cells wrote (Presence table cell.0) other (omega arith) writes in
    let has = hold noted.0 table cell.0 noted.1.0 other noted.1.1.0 noted.1.1.1 in
    let low = has.within in
    cell.2 (lists has.first cell.0 has.is (omega arith))
