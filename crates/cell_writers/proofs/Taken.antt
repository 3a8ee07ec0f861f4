-- The cell of the next event is numbered, and has a note.
use Rattle.std.proofs.Common.{◌≡◌, ℕ, ◌+◌, ◌<◌, List, [], ◌∷◌, ◌++◌, Some, length, arith, ap, sym, ◌∙◌, subst, inl, inr}
use Rattle.std.specs.List.{slice_get}
use Rattle.std.proofs.lemmas.List.{length_push}
use Rattle.std.proofs.lemmas.Option.{slice_get_within}
use Rattle.cell_base.specs.declared.cell.Cell.{Cell}
use Rattle.history_core.specs.declared.event.Event.{Event}
use Rattle.cell_writers.specs.declared.cell_note.CellNote.{CellNote}
use Rattle.cell_writers.specs.declared.cell_note.CellNotes.{CellNotes}
use Rattle.cell_writers.specs.declared.cell_numbers.CellNumbers.{CellNumbers}
use Rattle.cell_writers.specs.Numbered.{AreNumberedSo, AreUnique, AddsCell, AddsNote, TakesCell, cell_in}
use Rattle.cell_writers.proofs.Numbering.{cell_kept, still_unique, numbered_next, next_some}

-- where there were as many notes as cells, there is a note more exactly where there is a cell more
pub takes_from :
    (old new : CellNotes) (mid : CellNumbers) (cell : Cell) (number : ℕ) → new.numbers ≡ mid → length old.notes.items ≡ length old.numbers.cells.keys →
    AddsCell old.numbers.cells.keys cell mid.cells.keys → slice_get mid.cells.keys number ≡ Some cell → mid.of_events.items ≡ old.numbers.of_events.items ++ number ∷ [] →
    AddsNote (length mid.cells.keys) old.notes.items new.notes.items → TakesCell old cell number new
takes_from old new mid cell number numbers count adds is pushed notes =
    let keys : new.numbers.cells.keys ≡ mid.cells.keys = ap (λ (n : CellNumbers). n.cells.keys) numbers in
    let of_events : new.numbers.of_events.items ≡ mid.of_events.items = ap (λ (n : CellNumbers). n.of_events.items) numbers in
    record {
      is = subst (λ (cells : List Cell). slice_get cells number ≡ Some cell) (sym keys) is;
      pushed = of_events ∙ pushed;
      adds = elim adds [
        | inl same ↦
            let long : length mid.cells.keys ≡ length old.numbers.cells.keys = ap length same in
            elim notes [
              | inl kept ↦ inl (keys ∙ same, kept.1)
              | inr more ↦ let less = more.0 in absurd (omega arith)
            ]
        | inr fresh ↦
            let long : length mid.cells.keys ≡ length old.numbers.cells.keys + 1 = ap length fresh.0 ∙ length_push old.numbers.cells.keys cell in
            elim notes [
              | inl kept ↦ let enough = kept.0 in absurd (omega arith)
              | inr more ↦ inr (keys ∙ fresh.0, (fresh.1, more.1))
            ]
      ];
    }

-- ---- what the cells and the numbers are then

pub takes_adds :
    (old new : CellNotes) (cell : Cell) (number : ℕ) → TakesCell old cell number new → AddsCell old.numbers.cells.keys cell new.numbers.cells.keys
takes_adds old new cell number takes = elim takes.adds [ inl same ↦ inl same.0 | inr fresh ↦ inr (fresh.0, fresh.1.0) ]

-- each cell keeps its number
pub takes_kept :
    (old new : CellNotes) (cell : Cell) (number : ℕ) → TakesCell old cell number new → (i : ℕ) (q : Cell) → slice_get old.numbers.cells.keys i ≡ Some q →
    slice_get new.numbers.cells.keys i ≡ Some q
takes_kept old new cell number takes i q is = cell_kept old.numbers.cells.keys new.numbers.cells.keys cell q i (takes_adds old new cell number takes) is

pub takes_unique :
    (old new : CellNotes) (cell : Cell) (number : ℕ) → TakesCell old cell number new → AreUnique old.numbers.cells.keys → AreUnique new.numbers.cells.keys
takes_unique old new cell number takes unique =
    still_unique old.numbers.cells.keys new.numbers.cells.keys cell (takes_adds old new cell number takes) unique

-- there are as many notes as cells
pub takes_count :
    (old new : CellNotes) (cell : Cell) (number : ℕ) → TakesCell old cell number new → length old.notes.items ≡ length old.numbers.cells.keys →
    length new.notes.items ≡ length new.numbers.cells.keys
takes_count old new cell number takes count = elim takes.adds [
  | inl same ↦
      let cells : length new.numbers.cells.keys ≡ length old.numbers.cells.keys = ap length same.0 in
      let notes : length new.notes.items ≡ length old.notes.items = ap length same.1 in omega arith
  | inr fresh ↦
      let cells : length new.numbers.cells.keys ≡ length old.numbers.cells.keys + 1 = ap length fresh.0 ∙ length_push old.numbers.cells.keys cell in
      let blank : CellNote = fresh.1.1.0 in
      let notes : length new.notes.items ≡ length old.notes.items + 1 = ap length fresh.1.1.1.1.1 ∙ length_push old.notes.items blank in omega arith
]

-- so the cell's number is that of a note
pub takes_within :
    (old new : CellNotes) (cell : Cell) (number : ℕ) → TakesCell old cell number new → length old.notes.items ≡ length old.numbers.cells.keys → number < length new.notes.items
takes_within old new cell number takes count =
    let within = slice_get_within new.numbers.cells.keys number cell takes.is in
    let same = takes_count old new cell number takes count in omega arith

-- the next event is numbered
pub takes_numbered :
    (events : List Event) (e : Event) (old new : CellNotes) (cell : Cell) (number : ℕ) → cell_in e ≡ Some cell → TakesCell old cell number new → AreNumberedSo events old.numbers →
    AreNumberedSo (events ++ e ∷ []) new.numbers
takes_numbered events e old new cell number of takes so =
    numbered_next events e old.numbers new.numbers number
    (next_some e old.numbers.cells.keys new.numbers.cells.keys cell number of (takes_adds old new cell number takes) takes.is) takes.pushed so
