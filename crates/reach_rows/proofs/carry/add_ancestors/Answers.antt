use Rattle.reach_rows.proofs.Carrying.{past_known}
use Rattle.reach_rows.proofs.carry.add_ancestors.Goals as goal

pub returns-else-not-has : goal.returns-else-not-has
returns-else-not-has c =
    past_known c.args.rows.now c.args.row.now c.args.number c.requires.down (c.has.ensures.0 c.if-not-has.false)
