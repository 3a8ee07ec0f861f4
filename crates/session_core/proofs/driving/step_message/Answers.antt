use Rattle.link_traits.specs.Traffic.{sight_of}
use Rattle.session_core.proofs.driving.step_message.Goals as goal

pub returns-clause-ran : goal.returns-clause-ran
returns-clause-ran g c = λ level before many ran.
    c.run_on.ensures.ran level before
    (sight_of g.L.Sides.traffic g.L.Sides.read_faults g.L.Sides.write_faults c.serve_want.new.link) many
    (c.serve_want.ensures.ran level before many ran)
