use Rattle.axiom_base.proofs.Views.{demanded_from_record, record_demanded}
use Rattle.axiom_base.proofs.trial.is_demanded.Goals as goal

pub returns : goal.returns
returns c = (
  λ h. demanded_from_record c.args.history.now.events c.args.reader c.txn.result.now c.args.sight.now.since.items c.args.first c.args.second c.txn.ensures
      (rw c.as_slice.ensures at (c.demand_one.ensures.0 h)),
  λ demanded. c.demand_one.ensures.1 (rw c.as_slice.ensures
      (record_demanded c.args.history.now.events c.args.reader c.txn.result.now c.args.sight.now.since.items c.args.first c.args.second c.txn.ensures demanded)),
)
