use Rattle.forced_rows.specs.Sights.{IsOfferAmong}
use Rattle.forced_rows.proofs.rows.ForcedRows.permitted.Given as goal

abbrev pub invariant-loop-writer : goal.invariant-loop-writer
invariant-loop-writer l = IsOfferAmong l.history.events l.reader.session l.cell l.writers l.writer-index l.offer.items
