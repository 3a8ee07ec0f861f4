use Rattle.reach_rows.specs.Rows.{IsUpTo, GainsAll}
use Rattle.reach_rows.proofs.Carrying.{gains_from_empty}
use Rattle.reach_rows.proofs.stars.row_of_star.Goals as goal

pub returns : goal.returns
returns c =
    let gains : GainsAll (IsUpTo c.args.rows.now) c.args.star.now.members.items c.in_ok-row.row c.gather.new.row =
    rw c.deref.ensures.value at c.gather.ensures in
    gains_from_empty (IsUpTo c.args.rows.now) c.args.star.now.members.items c.in_ok-row.row c.gather.new.row c.in_ok-row.ensures gains
