use Rattle.forced_rows.proofs.LateScans.{scan_decided}
use Rattle.forced_rows.proofs.late.breaks_scan.Goals as goal

pub returns-then-is_committed : goal.returns-then-is_committed
returns-then-is_committed c = λ at.
    scan_decided c.args.history.now.events c.args.number c.txn.result.now at c.args.table c.args.keys.now c.writes_unlisted.result c.requires.some c.txn.ensures
    (c.is_committed.ensures.0 c.if-is_committed.true) c.writes_unlisted.ensures
