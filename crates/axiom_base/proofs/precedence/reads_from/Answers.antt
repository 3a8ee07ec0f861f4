use Rattle.saturation.proofs.Sights.{reads_from_record, record_reads_from}
use Rattle.axiom_base.proofs.precedence.reads_from.Goals as goal

pub returns : goal.returns
returns c = (
  λ h. reads_from_record c.args.history.now.events c.args.reader c.args.source c.txn.result.now c.txn.ensures (rw c.as_slice.ensures at (c.has_read_from.ensures.0 h)),
  λ from. c.has_read_from.ensures.1
      (rw c.as_slice.ensures (record_reads_from c.args.history.now.events c.args.reader c.args.source c.txn.result.now c.requires.source c.txn.ensures from)),
)
