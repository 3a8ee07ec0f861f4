use Rattle.right_logs.specs.Endings.{IsTaken}
use Rattle.right_logs.proofs.Texts.{kept_where}
use Rattle.right_logs.proofs.lines.take_other.Goals as goal

pub returns : goal.returns
returns c =
    kept_where (λ rest. IsTaken c.args.version c.args.level c.args.places.now.at.items c.args.text.now rest.now c.args.pass.now c.take_over.new.pass)
    c.in_ok-goes.goes c.in-Some.rest c.then_some.result c.then_some.ensures
    (λ goes. record { event = c.in-Some.event; first = rw c.in-Some.is at c.in_ok-event.ensures; goes = c.in_ok-goes.ensures goes })
