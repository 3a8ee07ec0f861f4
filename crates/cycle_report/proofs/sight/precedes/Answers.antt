use Rattle.std.proofs.lemmas.Bool.{false≢true}
use Rattle.std.proofs.Common.{sym, ◌∙◌}
use Rattle.order_test.proofs.SightLemmas.{precedes_from_records}
use Rattle.cycle_report.proofs.sight.precedes.Goals as goal

pub returns : goal.returns
returns c =
    let both = precedes_from_records c.args.view.now.events.now c.args.writer c.args.reader c.txn_of-txn.result.now c.requires.writer.0 c.txn_of-txn.ensures
    (λ so. false≢true (sym c.if-is_session_ordered.false ∙ c.is_session_ordered.ensures.1 so)) in
    let seen = rw c.as_slice.ensures at c.has_read.ensures in
    (λ h. both.1 (seen.0 h), λ p. seen.1 (both.0 p))
