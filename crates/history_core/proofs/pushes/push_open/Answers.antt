use Rattle.std.proofs.Common.{List, [], ◌∷◌, ◌++◌, ap, ◌∙◌, refl, arith}
use Rattle.history_core.specs.declared.event.Event.{Event}
use Rattle.history_core.specs.declared.event.Event.TheVariants.{Open}
use Rattle.history_core.proofs.KeptStarts.{kept_open}
use Rattle.history_core.proofs.pushes.push_open.Goals as goal

pub returns-clause-kept : goal.returns-clause-kept
returns-clause-kept c =
    let room = c.in_ok-make_room.ensures.ok in
    let capacity = c.append.ensures.capacity in
    kept_open c.args.kept.now _ c.args.session _ c.requires.kept c.requires.may c.in_ok-push.ensures.items refl refl
    refl (c.append.ensures.items ∙ ap (λ (xs : List Event). xs ++ Open c.args.session ∷ []) c.make_room.ensures.items)
    refl refl refl refl (omega arith)
