use Rattle.session_core.proofs.Playing.{sits_answered}
use Rattle.session_core.proofs.Serving.{makes_call}
use Rattle.session_core.proofs.Writing.{write_answered}
use Rattle.session_core.proofs.calling.make_call.Goals as goal

pub returns-then-wants_write-clause-made : goal.returns-then-wants_write-clause-made
returns-then-wants_write-clause-made g c =
    let (cell, value, is, made) = c.write.ensures.made in
    makes_call g.W.Words.gives c.args.session.now c.write.new.self (g.B.Book.past c.args.book.now) c.args.words.now c.write.result
    (g.B.Book.past c.write.new.book) c.args.words.now
    (write_answered g.W.Words.gives c.args.session.now (g.B.Book.past c.args.book.now) c.args.words.now cell value c.write.result
    (g.B.Book.past c.write.new.book) is made)
    c.write.ensures.grown

pub returns-else-wants_write-clause-made : goal.returns-else-wants_write-clause-made
returns-else-wants_write-clause-made g c =
    makes_call g.W.Words.gives c.args.session.now c.answer.new.self (g.B.Book.past c.args.book.now) c.args.words.now
    c.answer_of-answer.result (g.B.Book.past c.answer_of-answer.new.book) c.answer_of-answer.new.words c.answer_of-answer.ensures.answered
    c.answer.ensures.grown

pub returns-else-wants_write-clause-sits : goal.returns-else-wants_write-clause-sits
returns-else-wants_write-clause-sits g c =
    sits_answered g.W.Words.gives c.args.session.now c.answer.new.self (g.B.Book.past c.args.book.now) c.args.words.now
    c.answer_of-answer.result (g.B.Book.past c.answer_of-answer.new.book) c.answer_of-answer.new.words c.requires.sits
    c.answer_of-answer.ensures.answered c.answer.ensures.owed c.answer.ensures.known c.answer.ensures.fit
