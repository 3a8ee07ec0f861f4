use Rattle.std.proofs.Common.{List, length, refl, sym, subst, ◌∙◌, arith}
use Rattle.std.proofs.lemmas.List.{take_all}
use Rattle.std.proofs.lemmas.Option.{slice_get_read}
use Rattle.cell_writers.specs.declared.cell_numbers.CellNumbers.{CellNumbers}
use Rattle.cell_writers.specs.Numbered.{AreNumbered}
use Rattle.history_core.specs.declared.event.Event.{Event}
use Rattle.history_check.specs.declared.breach.Breach.{Breach}
use Rattle.history_check.specs.Breaches.{IsFirstEventBreach}
use Rattle.history_check.specs.Notes.{AreNotes, AreCellNotes}
use Rattle.history_check.proofs.CellSteps.{numbered_to}
use Rattle.history_check.proofs.EventLemmas.{right_step, right_all, first_found, take_next}
use Rattle.history_check.proofs.events.note_all.Goals as goal

pub loop-at-init : goal.loop-at-init
loop-at-init c = (c.no_notes-notes.ensures, c.requires.notes, refl, λ k e under. absurd (omega arith))

pub judge_event-requires-clause-notes : goal.judge_event-requires-clause-notes
judge_event-requires-clause-notes c = c.loop-at.invariant.0

pub judge_event-requires-clause-cells : goal.judge_event-requires-clause-cells
judge_event-requires-clause-cells c = c.loop-at.invariant.1

pub judge_event-requires-clause-numbered : goal.judge_event-requires-clause-numbered
judge_event-requires-clause-numbered c =
    numbered_to c.args.events.now c.loop-at.at c.index-events-at.result c.loop-at.cells.numbers
    (slice_get_read c.args.events.now (length c.args.events.now) c.loop-at.at c.index-events-at.result refl c.loop-at-test.true c.index-events-at.is)
    (subst (λ (ns : CellNumbers). AreNumbered c.args.events.now ns) (sym c.loop-at.invariant.2) c.requires.numbered)

pub loop-at-preserved : goal.loop-at-preserved
loop-at-preserved c =
    let at = slice_get_read c.args.events.now (length c.args.events.now) c.loop-at.at c.index-events-at.result refl c.loop-at-test.true c.index-events-at.is in
    let next = take_next c.args.events.now c.loop-at.at c.index-events-at.result at in (
      subst (λ (xs : List Event). AreNotes xs c.judge_event.new.notes) (sym next) (rw c.in-Ok-None.field-0-is at c.in-Ok-None.ensures.notes),
      subst (λ (xs : List Event). AreCellNotes xs c.judge_event.new.cells) (sym next) (rw c.in-Ok-None.field-0-is at c.in-Ok-None.ensures.cells),
      c.judge_event.ensures.numbers ∙ c.loop-at.invariant.2,
      right_step c.args.initial.now c.args.events.now c.loop-at.at c.index-events-at.result at (rw c.in-Ok-None.field-0-is at c.in-Ok-None.ensures.found) c.loop-at.invariant.3,
    )

pub returns-in-Ok-Some-clause-breach : goal.returns-in-Ok-Some-clause-breach
returns-in-Ok-Some-clause-breach c =
    subst (λ (breach : Breach). IsFirstEventBreach c.args.initial.now c.args.events.now breach) (sym c.breach_at.ensures)
    (first_found c.args.initial.now c.args.events.now c.loop-at.at c.index-events-at.result c.in-Ok-Some.rule
    (slice_get_read c.args.events.now (length c.args.events.now) c.loop-at.at c.index-events-at.result refl c.loop-at-test.true c.index-events-at.is) c.loop-at.invariant.3
    (rw c.in-Ok-Some.field-0-is at c.in-Ok-Some.ensures.found))

pub returns-clause-notes : goal.returns-clause-notes
returns-clause-notes c =
    subst (λ (xs : List Event). AreCellNotes xs c.loop-at.cells) (take_all c.loop-at.at c.args.events.now c.loop-at-test.false) c.loop-at.invariant.1

pub returns-clause-numbered : goal.returns-clause-numbered
returns-clause-numbered c = subst (λ (ns : CellNumbers). AreNumbered c.args.events.now ns) (sym c.loop-at.invariant.2) c.requires.numbered

pub returns-clause-right : goal.returns-clause-right
returns-clause-right c = right_all c.args.initial.now c.args.events.now c.loop-at.at c.loop-at-test.false c.loop-at.invariant.3
