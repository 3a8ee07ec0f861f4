use Rattle.order_test.proofs.GlanceLemmas.{widened}
use Rattle.cycle_report.proofs.owners.widen.Goals as goal

pub returns : goal.returns
returns c = widened c.args.width _ c.args.last.now.items _ c.args.last.now.ok.0 c.requires c.in_ok-resize.ensures.items
