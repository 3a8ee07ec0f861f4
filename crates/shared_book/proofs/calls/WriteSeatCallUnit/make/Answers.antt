use Rattle.std.proofs.Common.{refl, [], ◌∷◌, ◌++◌}
use Rattle.history_core.specs.declared.event.Event.TheVariants as events
use Rattle.history_book.specs.Book.{session_of, writes_of, pending}
use Rattle.shared_book.proofs.Making.{added_or_none, pending_has, if_on, on_same}
use Rattle.shared_book.proofs.calls.WriteSeatCallUnit.make.Goals as goal

pub returns-clause-adds : goal.returns-clause-adds
returns-clause-adds c =
    added_or_none _ _ c.write.ensures.stays c.write.result (λ done. events.Write (session_of c.args.book.now.state) c.args.self.cell c.args.self.value) (if_on c.write.result _ c.write.ensures.ok)
    c.write.ensures.err (pending_has _ c.requires.may.0) (λ done. refl) (on_same c.write.result c.args.book.now.state _
    (pending (session_of c.args.book.now.state) (writes_of c.args.book.now.state ++ (c.args.self.cell, c.args.self.value) ∷ [])) refl c.write.ensures.state)
