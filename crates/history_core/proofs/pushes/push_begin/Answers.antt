use Rattle.std.proofs.Common.{List, [], ◌∷◌, ◌++◌, ap, ◌∙◌, refl, arith}
use Rattle.history_core.specs.declared.event.Event.{Event}
use Rattle.history_core.specs.declared.event.Event.TheVariants.{Begin}
use Rattle.history_core.proofs.KeptStarts.{kept_begin}
use Rattle.history_core.proofs.pushes.push_begin.Goals as goal

pub returns-clause-kept : goal.returns-clause-kept
returns-clause-kept c =
    let room = c.in_ok-make_room.ensures.ok in
    let capacity = c.append.ensures.capacity in
    kept_begin c.args.kept.now _ c.args.session c.session_index-at.result _ c.requires.kept c.requires.may c.session_index-at.ensures.number
    c.in_ok-push.ensures.items refl refl c.new.ensures c.new-2.ensures
    (rw c.count_begun-number.ensures at c.set_pending.ensures)
    refl (c.append.ensures.items ∙ ap (λ (xs : List Event). xs ++ Begin c.args.session c.args.level ∷ []) c.make_room.ensures.items)
    refl refl refl (omega arith)
