-- How many transactions write a cell.
use Rattle.std.proofs.Common.{◌≡◌, ℕ, ◌+◌, ◌<◌, ◌≤◌, List, ◌∷◌, zero, suc, length, get_or, arith, refl, ap, sym, inl, inr}
use Rattle.std.specs.List.Sorted.{IsStrictlyIncreasing}
use Rattle.std.proofs.lemmas.Bool.{cases_eq}
use Rattle.cell_base.specs.declared.cell.Cell.{Cell}
use Rattle.cell_writers.specs.declared.cell_note.CellNote.{CellNote}
use Rattle.history_core.specs.declared.event.Event.{Event}
use Rattle.history_core.specs.Events.{begun}
use Rattle.history_core.specs.Relations.{Writes}
use Rattle.history_core.proofs.Offers.{writer_bounded}
use Rattle.indexed_history.proofs.Ascending.{increasing_few, contains_get, get_contained}
use Rattle.history_check.specs.Rules.{HasCandidates}
use Rattle.history_check.specs.Keys.{HasLaterWriter}
use Rattle.history_check.specs.Notes.{IsNoteOf}

-- the initial transaction before the others
pub candidates_of : (events : List Event) (cell : Cell) (note : CellNote) → IsNoteOf events cell note → HasCandidates events cell (length note.committed + 1)
candidates_of events cell note noted = (
  0 ∷ numbers,
  record {
    ascending = rises;
    exact = λ number. (
      λ there. in_list number (get_contained (0 ∷ numbers) number there),
      λ writes. elim (cases_eq number 0) [
        | inl first ↦ contains_get (0 ∷ numbers) 0 number (omega arith) (sym first)
        | inr later ↦
            let at = get_contained numbers number ((noted.exact number).1 (omega arith, writes)) in
            let within = at.1 in
            contains_get (0 ∷ numbers) (suc at.0) number (omega arith) at.2
      ],
    );
  },
  size,
)
  where
    numbers : List ℕ
    numbers = note.committed

    size : length note.committed + 1 ≡ length (0 ∷ numbers)
    size = omega arith

    positive : (k : ℕ) → k < length numbers → 0 < get_or numbers k 0
    positive k within = ((noted.exact (get_or numbers k 0)).0 (contains_get numbers k (get_or numbers k 0) within refl)).0

    rises : IsStrictlyIncreasing (0 ∷ numbers)
    rises zero within = positive 0 (omega arith)
    rises (suc k) within =
        let step : get_or numbers k 0 < get_or numbers (k + 1) 0 = noted.ascending k (omega arith) in
        let low : get_or (0 ∷ numbers) (suc k) 0 ≡ get_or numbers k 0 = refl in
        let next : suc k + 1 ≡ suc (k + 1) = omega arith in
        let high : get_or (0 ∷ numbers) (suc k + 1) 0 ≡ get_or numbers (k + 1) 0 = ap (λ (i : ℕ). get_or (0 ∷ numbers) i 0) next in
        omega arith

    in_list : (number : ℕ) → (i : ℕ) × (i < length (0 ∷ numbers)) × (get_or (0 ∷ numbers) i 0 ≡ number) → Writes events number cell
    in_list number (zero, within, is) = inl (sym is)
    in_list number (suc i, within, is) = ((noted.exact number).0 (contains_get numbers i number (omega arith) is)).1

pub writers_few : (events : List Event) (cell : Cell) (note : CellNote) → IsNoteOf events cell note → length note.committed ≤ begun events
writers_few events cell note noted = few (length note.committed) refl
  where
    few : (n : ℕ) → n ≡ length note.committed → length note.committed ≤ begun events
    few zero is = omega arith
    few (suc n) is =
        let numbers = note.committed in
        let last = get_or numbers n 0 in
        let at : n < length numbers = omega arith in
        let writes = (noted.exact last).0 (contains_get numbers n last at refl) in
        let bound = writer_bounded events last cell writes.1 in
        let up : n + 1 ≤ get_or numbers n 0 =
        increasing_few numbers noted.ascending
        (λ k within. ((noted.exact (get_or numbers k 0)).0 (contains_get numbers k (get_or numbers k 0) within refl)).0) n at in
        omega arith

pub later_writer : (events : List Event) (cell : Cell) (note : CellNote) → IsNoteOf events cell note → 0 < length note.committed → HasLaterWriter events cell
later_writer events cell note noted some =
    let first = get_or note.committed 0 0 in
    let both = (noted.exact first).0 (contains_get note.committed 0 first some refl) in
    (first, both.0, both.1)

pub no_later : (events : List Event) (cell : Cell) (note : CellNote) → IsNoteOf events cell note → HasLaterWriter events cell → 0 < length note.committed
no_later events cell note noted has =
    let there = (noted.exact has.0).1 (has.1, has.2) in
    let within = there.1 in
    omega arith
