use Rattle.std.proofs.Common.{eq-eqb}
use Rattle.std.proofs.lemmas.Bool.{eqb-true}
use Rattle.order_test.proofs.SightLemmas.{ordered_from_records, records_from_ordered}
use Rattle.cycle_report.proofs.sight.is_session_ordered.Goals as goal

pub returns-then-first-second : goal.returns-then-first-second
returns-then-first-second c = (
  λ h.
      ordered_from_records c.args.view.now.events.now c.args.first c.args.second c.txn_of-earlier.result.now c.txn_of-later.result.now c.txn_of-earlier.ensures c.txn_of-later.ensures c.if-first-second.true
      (eqb-true c.txn_of-earlier.result.now.session c.txn_of-later.result.now.session h),
  λ so.
      eq-eqb c.txn_of-earlier.result.now.session c.txn_of-later.result.now.session
      (records_from_ordered c.args.view.now.events.now c.args.first c.args.second c.txn_of-earlier.result.now c.txn_of-later.result.now c.requires.first.0 c.txn_of-earlier.ensures c.txn_of-later.ensures so),
)
