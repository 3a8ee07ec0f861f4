use Rattle.std.proofs.Common.{ℕ, ◌+◌}
use Rattle.std.proofs.Common.{List, [], ◌∷◌, ◌++◌, ap, ◌∙◌, refl, arith}
use Rattle.history_core.specs.declared.event.Event.{Event}
use Rattle.history_core.proofs.KeptEvents.{kept_unnoted}
use Rattle.history_core.proofs.pushes.push_unnoted.Goals as goal

pub returns-in-Ok-clause-kept : goal.returns-in-Ok-clause-kept
returns-in-Ok-clause-kept c =
    let room = c.in-Ok.ensures.room in
    let capacity = c.append.ensures.capacity in
    kept_unnoted c.args.kept.now _ c.args.event c.requires.kept c.requires.may c.requires.unnoted c.in-Ok.ensures.light
    refl (c.append.ensures.items ∙ ap (λ (xs : List Event). xs ++ c.args.event ∷ []) c.make_room_for.ensures.items)
    refl refl refl (ap (λ (n : ℕ). c.args.kept.now.load + n) c.in-Ok.ensures.value) refl (omega arith)
