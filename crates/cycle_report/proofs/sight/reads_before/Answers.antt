use Rattle.cycle_report.proofs.sight.reads_before.Goals as goal
use Rattle.saturation.proofs.Sights.{before_from_record, record_before}

pub returns : goal.returns
returns c =
    let seen = rw c.as_slice.ensures at c.has_read_before.ensures in (
      λ h. before_from_record c.args.view.now.events.now c.args.reader c.args.place c.args.writer c.txn_of-txn.result.now c.txn_of-txn.ensures (seen.0 h),
      λ before. seen.1 (record_before c.args.view.now.events.now c.args.reader c.args.place c.args.writer c.txn_of-txn.result.now c.requires.writer.0 c.txn_of-txn.ensures before),
    )
