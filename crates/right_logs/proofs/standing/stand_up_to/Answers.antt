use Rattle.std.proofs.Common.{get_or, arith}
use Rattle.std.proofs.lemmas.Bool.{leb-true}
use Rattle.right_logs.proofs.standing.stand_up_to.Goals as goal

pub returns : goal.returns
returns c = λ h.
    let less = leb-true (get_or c.args.highest.now c.args.number 0) c.args.from h in
    (omega arith, less)
