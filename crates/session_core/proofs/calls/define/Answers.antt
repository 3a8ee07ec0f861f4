use Rattle.std.proofs.Common.{refl, ap, Err}
use Rattle.block_machine.specs.Calls as calls
use Rattle.session_core.proofs.Playing.{declined, defined_plays}
use Rattle.session_core.proofs.calls.define.Goals as goal

pub returns-in-Ok-clause-plays : goal.returns-in-Ok-clause-plays
returns-in-Ok-clause-plays g c = defined_plays g.W.Words.gives (g.B.Book.past c.args.book.now) c.args.words.now c.args.table.now
    c.in-Ok.answer (g.B.Book.past c.define.new.self) c.in-Ok.ensures.ok

pub returns-in-Err-clause-plays : goal.returns-in-Err-clause-plays
returns-in-Err-clause-plays g c =
    declined g.W.Words.gives (g.B.Book.past c.args.book.now) c.args.words.now (calls.Define c.args.table.now)
    (calls.Define c.args.table.now) c.in-Err.why (g.B.Book.past c.define.new.self) c.args.words.now refl tt c.in-Err.ensures.err
    (λ limit is. c.in-Err.ensures.full limit (ap Err is)) (λ limit is other. c.in-Err.ensures.load_first limit other (ap Err is)) refl
