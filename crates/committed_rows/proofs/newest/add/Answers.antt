use Rattle.committed_rows.proofs.Noted.{gains_copy}
use Rattle.committed_rows.proofs.newest.add.Goals as goal

pub returns : goal.returns
returns c =
    gains_copy c.args.newest.now (record { alloc = c.args.newest.now.alloc; values = c.insert.new.self }) c.args.cell.now c.in_ok-key.key c.args.value.now
    c.in_ok-copy.copy c.in_ok-key.ensures c.in_ok-copy.ensures c.in_ok-insert.ensures.updates
