use Rattle.std.proofs.Common.{List, [], ◌∷◌, ◌++◌, ap, ◌∙◌, ℕ, refl, arith}
use Rattle.history_core.specs.declared.event.Event.{Event}
use Rattle.history_core.specs.declared.event.Event.TheVariants.{Define}
use Rattle.sql_tree.specs.declared.table.Table.{Table}
use Rattle.history_core.proofs.KeptEvents.{kept_defines}
use Rattle.history_core.proofs.pushes.push_table.Goals as goal

pub returns-in-Ok-clause-kept : goal.returns-in-Ok-clause-kept
returns-in-Ok-clause-kept c =
    let room = c.in-Ok.ensures.room in
    let capacity = c.append.ensures.capacity in
    kept_defines c.args.kept.now _ c.args.session c.args.table c.requires.kept c.requires.may c.requires.sound
    refl (c.append.ensures.items ∙ ap (λ (xs : List Event). xs ++ Define c.args.session c.in-Ok.name ∷ []) c.make_table_room.ensures.events
    ∙ ap (λ (name : List ℕ). c.args.kept.now.events.items ++ Define c.args.session name ∷ []) c.in-Ok.ensures.name)
    (c.push_reserved.ensures.items ∙ ap (λ (ts : List Table). ts ++ c.args.table ∷ []) c.make_table_room.ensures.tables) refl refl refl refl (omega arith)
