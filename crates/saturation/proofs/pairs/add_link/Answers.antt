use Rattle.std.proofs.lemmas.Result.{on_ok_weaker}
use Rattle.saturation.proofs.Steps.{link_one}
use Rattle.saturation.proofs.pairs.add_link.Goals as goal

pub returns-then-marks-number : goal.returns-then-marks-number
returns-then-marks-number c =
    on_ok_weaker c.add_edge.result
    (λ adds. link_one c.args.marks.now c.args.number c.args.reader c.args.edges.now.items c.add_edge.new.edges.items c.if-marks-number.true adds)
    c.add_edge.ensures
