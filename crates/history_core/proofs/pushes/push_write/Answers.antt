use Rattle.std.proofs.Common.{ℕ, ◌+◌, ◌≤◌}
use Rattle.std.proofs.Common.{List, [], ◌∷◌, ◌++◌, ap, subst, ◌∙◌, refl, arith}
use Rattle.history_core.specs.declared.event.Event.{Event}
use Rattle.history_core.specs.declared.event.Event.TheVariants.{Write}
use Rattle.history_core.proofs.KeptEvents.{kept_write}
use Rattle.history_core.proofs.pushes.push_write.Goals as goal

pub returns-in-Ok-note_write-clause-kept : goal.returns-in-Ok-note_write-clause-kept
returns-in-Ok-note_write-clause-kept c =
    let room = c.in-Ok.ensures.ok in
    let capacity = c.append.ensures.capacity in
    let weight = c.text_weight-weight.ensures.value in
    kept_write c.args.kept.now _ c.args.session c.pending_index-at.result c.args.cell c.args.value c.requires.kept c.requires.may
    (subst (λ (n : ℕ). n ≤ 4611686018427387904) weight c.text_weight-weight.ensures.light)
    c.pending_index-at.ensures.pending c.in-Ok-note_write.ensures.ok
    refl (c.append.ensures.items ∙ ap (λ (xs : List Event). xs ++ Write c.args.session c.args.cell c.args.value ∷ []) c.make_room.ensures.items)
    refl refl (ap (λ (n : ℕ). c.args.kept.now.load + n) weight) refl (omega arith)
