use Rattle.std.proofs.Common.{refl, ap, Err}
use Rattle.block_machine.specs.Calls as calls
use Rattle.session_core.proofs.Playing.{declined, found_plays, refused_draws}
use Rattle.session_core.proofs.calls.touch.Goals as goal

pub returns-in-Ok-clause-plays : goal.returns-in-Ok-clause-plays
returns-in-Ok-clause-plays g c = found_plays g.W.Words.gives (g.B.Book.past c.args.book.now) c.args.words.now c.args.cell.now c.in-Ok.value
    (g.B.Book.past c.touch.new.self) c.touch.new.words c.in-Ok.ensures.answers

pub returns-in-Err-clause-plays : goal.returns-in-Err-clause-plays
returns-in-Err-clause-plays g c =
    declined g.W.Words.gives (g.B.Book.past c.args.book.now) c.args.words.now (calls.Touch c.args.cell.now) (calls.Touch c.args.cell.now)
    c.in-Err.why (g.B.Book.past c.touch.new.self) c.touch.new.words refl tt c.in-Err.ensures.err
    (λ limit is. c.in-Err.ensures.full limit (ap Err is)) (λ limit is. tt)
    (refused_draws g.W.Words.gives (g.B.Book.past c.args.book.now) c.args.words.now c.args.cell.now c.in-Err.why
    (g.B.Book.past c.touch.new.self) c.touch.new.words c.in-Err.ensures.answers)
