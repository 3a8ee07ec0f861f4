use Rattle.link_traits.specs.Traffic.{sight_of}
use Rattle.session_core.proofs.Serving.{Ran-called}
use Rattle.session_core.proofs.driving.serve_want.Goals as goal

pub returns-in-Define-clause-ran : goal.returns-in-Define-clause-ran
returns-in-Define-clause-ran g c = λ level before many ran.
    Ran-called g.W.Words.gives level before c.args.session.now c.make_call.new.session (g.B.Book.past c.args.book.now)
    (g.B.Book.past c.make_call.new.book) c.args.words.now c.make_call.new.words
    (sight_of g.L.Sides.traffic g.L.Sides.read_faults g.L.Sides.write_faults c.args.link.now) many c.make_call.ensures.made
    c.make_call.ensures.served c.make_call.ensures.outer c.make_call.ensures.lacks ran
