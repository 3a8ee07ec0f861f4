use Rattle.valid_writes.proofs.Told.{if_ok}
use Rattle.committed_rows.proofs.Standing.{rows_are}
use Rattle.committed_rows.proofs.rows.committed_rows.Goals as goal

pub returns : goal.returns
returns c =
    if_ok _ _ c.rows_of.result
    (λ cells rows. rows_are c.args.history.now c.in_ok-newest.newest c.events.ensures.formed c.in_ok-newest.ensures c.rows_of.ensures.ordered cells.items rows)
    c.rows_of.ensures.rows
