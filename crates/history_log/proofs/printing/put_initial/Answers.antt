use Rattle.history_log.specs.Spelling.{initial_line}
use Rattle.history_log.specs.Log.{IsInitialCell}
use Rattle.history_log.proofs.Said.{all_step}
use Rattle.history_log.proofs.Written.{lines_step}
use Rattle.history_log.proofs.printing.put_initial.Goals as goal

pub loop-row-preserved : goal.loop-row-preserved
loop-row-preserved c = (
  lines_step initial_line c.args.rows.now c.loop-row.row-index c.row-item.result c.args.out.now.items c.loop-row.out.items c.put_row.new.out.items c.put.new.out.items
      c.loop-row-test.true c.row-item.is c.loop-row.invariant.0 c.in_ok-put_row.ensures.text c.in_ok-put.ensures,
  all_step IsInitialCell c.args.rows.now c.loop-row.row-index c.row-item.result c.loop-row-test.true c.row-item.is c.loop-row.invariant.1 c.in_ok-put_row.ensures.fits,
)
