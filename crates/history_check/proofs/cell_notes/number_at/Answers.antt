use Rattle.std.proofs.Common.{◌≡◌, ℕ, Some, length, get_or, arith, sym, ◌∙◌, subst}
use Rattle.std.specs.List.{slice_get}
use Rattle.std.proofs.lemmas.List.{length_push, get_or_default}
use Rattle.history_core.proofs.Prefixes.{slice_get-at_end}
use Rattle.history_check.proofs.cell_notes.number_at.Goals as goal

pub returns : goal.returns
returns c =
    let longer = length_push c.args.before.now c.args.event.now in
    let long = c.requires.numbered.long in
    let value : get_or c.args.cells.now.numbers.of_events.items (length c.args.before.now) 0 ≡ c.index.result.now =
    get_or_default c.args.cells.now.numbers.of_events.items (length c.args.before.now) 0 c.index.result.now (omega arith) ∙ sym c.index.ensures
    in
    subst (λ (n : ℕ). slice_get c.args.cells.now.numbers.cells.keys n ≡ Some c.args.cell.now) value
    (c.requires.numbered.each (length c.args.before.now) c.args.event.now c.args.cell.now (slice_get-at_end c.args.before.now c.args.event.now) c.requires.is)
