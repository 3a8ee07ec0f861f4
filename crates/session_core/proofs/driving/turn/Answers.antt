use Rattle.session_core.proofs.driving.turn.Goals as goal

pub returns-clause-ran : goal.returns-clause-ran
returns-clause-ran g c = λ level before many ran.
    c.run_message.ensures.ran level before many (c.serve_want.ensures.ran level before many ran)
