use Rattle.block_machine.specs.Runners.{knowledge_of}
use Rattle.session_core.proofs.Knowing.{served_kept, tables_kept}
use Rattle.session_core.proofs.Serving.{Ran-taken, sits_same}
use Rattle.session_core.proofs.driving.take.Goals as goal

pub returns-clause-ran : goal.returns-clause-ran
returns-clause-ran g c = λ level before seen many ran.
    Ran-taken g.W.Words.gives level before c.args.session.now c.take.new.self (g.B.Book.past c.args.book.now) c.args.words.now seen many
    c.take.ensures.grown c.requires.wanted (served_kept (knowledge_of c.args.session.now.runner) (knowledge_of c.take.new.self.runner) c.take.ensures.known)
    c.take.ensures.outer c.take.ensures.lacks ran

pub returns-clause-sits : goal.returns-clause-sits
returns-clause-sits g c = sits_same c.args.session.now c.take.new.self (g.B.Book.past c.args.book.now) c.requires.sits c.take.ensures.owed
    (tables_kept (knowledge_of c.args.session.now.runner) (knowledge_of c.take.new.self.runner) c.take.ensures.known) c.take.ensures.fit
