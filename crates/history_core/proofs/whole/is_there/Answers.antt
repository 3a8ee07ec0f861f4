use Rattle.std.proofs.Common.{true, arith}
use Rattle.std.proofs.lemmas.Bool.{false≢true}
use Rattle.std.proofs.lemmas.Option.{slice_get-get_or, slice_get_within}
use Rattle.cell_base.specs.declared.cell.Cell.TheVariants.{Presence}
use Rattle.cell_base.specs.declared.value.Value.TheVariants.{Flag}
use Rattle.history_core.proofs.WholeRows.{there_at}
use Rattle.history_core.proofs.whole.is_there.Goals as goal

pub returns-in-Some : goal.returns-in-Some
returns-in-Some c =
    let stands = c.in-Some.ensures.found in
    let within = slice_get_within c.args.cells.now c.in-Some.at (Presence c.args.table c.args.key.now, stands.value) stands.is in
    let is = there_at c.args.cells.now (Presence c.args.table c.args.key.now) (Flag true) c.in-Some.at _ c.requires stands
    (slice_get-get_or c.args.cells.now c.in-Some.at c.index-cells-at.result within) in
    (λ yes. is.0 (c.is_true.ensures.0 yes), λ there. c.is_true.ensures.1 (is.1 there))

pub returns-in-None : goal.returns-in-None
returns-in-None c = (λ h. absurd (false≢true h), λ there. absurd (c.in-None.ensures.absent (Flag true) there))
