use Rattle.reach_rows.proofs.Carrying.{up_to_known, up_to_gained}
use Rattle.reach_rows.proofs.carry.add_up_to.Goals as goal

pub returns-then-not-has : goal.returns-then-not-has
returns-then-not-has c =
    up_to_gained c.args.rows.now c.args.row.now c.add_to.new.row c.set.new.self c.args.number c.add_to.ensures c.set.ensures

pub returns-else-not-has : goal.returns-else-not-has
returns-else-not-has c =
    up_to_known c.args.rows.now c.args.row.now c.args.number c.requires.down (c.has.ensures.0 c.if-not-has.false)
