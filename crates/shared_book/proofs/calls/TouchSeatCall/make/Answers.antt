use Rattle.shared_book.proofs.Making.{touched_or_none, pending_has}
use Rattle.shared_book.proofs.calls.TouchSeatCall.make.Goals as goal

pub returns-clause-adds : goal.returns-clause-adds
returns-clause-adds g c =
    touched_or_none _ _ c.touch.ensures.stays g.W.Words.gives c.args.words.now c.args.self.cell.now c.touch.result c.touch.new.words c.touch.ensures.answers
    c.touch.ensures.err (pending_has _ c.requires.may.0) c.touch.ensures.state
