use Rattle.std.proofs.Common.{refl, arith}
use Rattle.session_core.proofs.Serving.{Ran-called, one_at_most}
use Rattle.session_core.proofs.driving.step_on.Goals as goal

pub returns-in-Cells-clause-ran : goal.returns-in-Cells-clause-ran
returns-in-Cells-clause-ran g c = λ level before seen many ran.
    Ran-called g.W.Words.gives level before c.args.session.now c.make_call.new.session (g.B.Book.past c.args.book.now)
    (g.B.Book.past c.make_call.new.book) c.args.words.now c.make_call.new.words seen many c.make_call.ensures.made
    c.make_call.ensures.served c.make_call.ensures.outer c.make_call.ensures.lacks ran

pub returns-in-Cells-clause-message : goal.returns-in-Cells-clause-message
returns-in-Cells-clause-message g c =
    omega (
      arith,
      c.make_call.ensures.message (c.in-Cells.ensures.running refl).0,
      one_at_most c.args.session.now.stage c.args.session.now.runner,
    )
