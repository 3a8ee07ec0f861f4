use Rattle.reach_rows.proofs.Carrying.{carries_union}
use Rattle.reach_rows.proofs.carry.carry.Goals as goal

pub returns-then-has : goal.returns-then-has
returns-then-has c =
    carries_union c.args.target c.args.gained.now c.args.row.now c.or_into.new.self (c.has.ensures.0 c.if-has.true) c.or_into.ensures
