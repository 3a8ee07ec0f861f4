use Rattle.std.proofs.Common.{refl, ap, Err}
use Rattle.block_machine.specs.Calls.{call_for}
use Rattle.block_machine.specs.Calls as calls
use Rattle.session_core.proofs.Playing.{declined}
use Rattle.session_core.proofs.calls.ask.Goals as goal

pub returns-in-Err-clause-plays : goal.returns-in-Err-clause-plays
returns-in-Err-clause-plays g c = declined g.W.Words.gives (g.B.Book.past c.args.book.now) c.args.words.now (call_for c.args.demand.now)
    (calls.Scan c.in-Scan.table) c.in-Err.why (g.B.Book.past c.scan.new.self) c.args.words.now (ap call_for c.in-Scan.is) tt
    c.in-Err.ensures.err (λ limit is. c.in-Err.ensures.full limit (ap Err is)) (λ limit is. tt) refl
