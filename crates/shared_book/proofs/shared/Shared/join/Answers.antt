use Rattle.std.proofs.Common.{◌≡◌, ◌∙◌, subst, sym}
use mathlib.Core.List.{IsPrefix}
use Rattle.turn_lock.specs.Passes.{LockValue}
use Rattle.shared_book.specs.declared.entry.Entry.{Entry}
use Rattle.shared_book.proofs.Fronts.{both_fronts}
use Rattle.shared_book.proofs.shared.Shared.join.Goals as goal

pub returns-clause-fronts : goal.returns-clause-fronts
returns-clause-fronts c =
    let first : c.args.into.now.lock ≡ c.self.inside.lock = c.requires.lock.0 ∙ sym c.self.view_is in
    let second : c.args.from.lock ≡ c.self.inside.lock = c.requires.lock.1 ∙ sym c.self.view_is in
    both_fronts c.self.inside.lock.start c.args.into.now c.args.from c.join.new.into c.self.invariant
    (subst (λ (lock : LockValue Entry). IsPrefix lock.start c.args.into.now.seen) first c.sees_start.ensures)
    (subst (λ (lock : LockValue Entry). IsPrefix lock.start c.args.from.seen) second c.sees_start-2.ensures)
    c.join.ensures
