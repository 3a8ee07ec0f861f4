use Rattle.std.proofs.Common.{◌∙◌, ap, ◌++◌, ◌∷◌, []}
use Rattle.cell_writers.proofs.Numbering.{numbered_next}
use Rattle.cell_writers.proofs.cell_numbers.number_event.Goals as goal

pub returns : goal.returns
returns c =
    numbered_next c.args.before.now c.args.event.now c.args.numbers.now _ c.in_ok-number.number c.in_ok-number.ensures.next
    (c.in_ok-push.ensures.items ∙ ap (λ v. v.items ++ c.in_ok-number.number ∷ []) c.next_number.ensures.kept) c.requires.numbered
