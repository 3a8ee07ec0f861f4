use Rattle.std.proofs.Common.{◌+◌, List, [], ◌∷◌, ◌++◌, subst, sym, ap, ◌∙◌, ℕ, refl, arith}
use Rattle.history_core.specs.declared.event.Event.{Event}
use Rattle.history_core.specs.Transactions.{IsPending}
use Rattle.history_core.proofs.KeptEvents.{kept_seen}
use Rattle.history_core.proofs.pushes.push_seen.Goals as goal

pub returns-in-Ok-note_seen-clause-kept : goal.returns-in-Ok-note_seen-clause-kept
returns-in-Ok-note_seen-clause-kept c =
    let room = c.in-Ok.ensures.room in
    let capacity = c.append.ensures.capacity in
    kept_seen c.args.kept.now _ c.args.event c.pending_index-at.result c.args.seen c.requires.kept c.requires.may
    (subst (λ (s : ℕ). IsPending c.args.kept.now.events.items (c.pending_index-at.result + 1) s) (sym c.requires.session) c.pending_index-at.ensures.pending)
    c.requires.shows c.in-Ok.ensures.light c.in-Ok-note_seen.ensures.ok
    refl (c.append.ensures.items ∙ ap (λ (xs : List Event). xs ++ c.args.event ∷ []) c.make_room_for.ensures.items)
    refl refl (ap (λ (n : ℕ). c.args.kept.now.load + n) c.in-Ok.ensures.value) refl (omega arith)
