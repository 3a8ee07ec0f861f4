use Rattle.std.proofs.Common.{◌≡◌, ◌∙◌, subst, sym}
use Rattle.history_core.specs.Chronicle.{Chronicle}
use Rattle.turn_lock.specs.Passes.{LockValue}
use Rattle.shared_book.specs.declared.entry.Entry.{Entry}
use Rattle.shared_book.specs.Books.{StartsLegal}
use Rattle.shared_book.specs.Fronts.{GoesOnFrom}
use Rattle.shared_book.proofs.Fronts.{front_of}
use Rattle.shared_book.proofs.shared.Shared.finish.Goals as goal

pub returns-clause-goes_on : goal.returns-clause-goes_on
returns-clause-goes_on c =
    subst (λ (history : Chronicle). GoesOnFrom history c.args.pass) (sym c.into_store-store.ensures) c.close.ensures.begins

pub returns-clause-front : goal.returns-clause-front
returns-clause-front c =
    let lock_is : c.self.inside.lock ≡ c.args.pass.lock = c.self.view_is ∙ sym c.requires.lock in
    front_of c.into_store-store.result c.args.pass.lock.start c.args.pass.seen
    (subst (λ (lock : LockValue Entry). StartsLegal lock.start) lock_is c.self.invariant) c.sees_start.ensures c.history.ensures.legal
    (returns-clause-goes_on c)
