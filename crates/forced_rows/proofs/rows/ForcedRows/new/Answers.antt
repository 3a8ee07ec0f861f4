use Rattle.forced_rows.proofs.Rooms.{rows_first}
use Rattle.forced_rows.proofs.rows.ForcedRows.new.Goals as goal

pub returns : goal.returns
returns c =
    rows_first record { alloc = c.args.alloc; reach = c.in_ok-reach.reach; past = c.in_ok-past.past; seats = c.new-3.result }
    c.in_ok-reach.ensures c.in_ok-past.ensures c.new-3.ensures.items
