use Rattle.std.proofs.Common.{arith}
use Rattle.std.proofs.lemmas.Bool.{false≢true}
use Rattle.saturation.proofs.Sights.{reads_from_record, record_reads_from}
use Rattle.saturation.proofs.Decides.{reader_positive}
use Rattle.saturation.proofs.past.is_source.Goals as goal

pub returns-then-reader-eq0 : goal.returns-then-reader-eq0
returns-then-reader-eq0 c = (
  λ h. absurd (false≢true h),
  λ from. let h = reader_positive c.args.history.now.events c.args.reader from.place from.cell c.args.source from.reads in absurd (omega arith),
)

pub returns : goal.returns
returns c = (
  λ h. reads_from_record c.args.history.now.events c.args.reader c.args.source c.txn.result.now c.txn.ensures (c.reads_from.ensures.0 h),
  λ from. c.reads_from.ensures.1 (record_reads_from c.args.history.now.events c.args.reader c.args.source c.txn.result.now c.requires.some c.txn.ensures from),
)
