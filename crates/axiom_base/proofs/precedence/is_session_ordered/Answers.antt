use Rattle.std.proofs.Common.{◌≡◌, refl, arith, eq-eqb}
use Rattle.std.proofs.lemmas.Bool.Decides.{nat_tests}
use Rattle.saturation.proofs.Decides.{initial_ordered}
use Rattle.saturation.proofs.Marks.{ordered_from_records, records_ordered}
use Rattle.axiom_base.proofs.precedence.is_session_ordered.Goals as goal

pub returns-then-first-eq0 : goal.returns-then-first-eq0
returns-then-first-eq0 c = (
  λ h. initial_ordered c.args.history.now.events c.args.first c.args.second c.if-first-eq0.true (omega arith) c.requires,
  λ so. refl,
)

pub returns : goal.returns
returns c = (
  λ h.
      let same : c.txn.result.now.session ≡ c.txn-2.result.now.session = grind (arith, nat_tests, h) in
      ordered_from_records c.args.history.now.events c.args.first c.args.second c.txn.result.now c.txn-2.result.now c.if-first-second.false c.txn.ensures c.txn-2.ensures same,
  λ so. eq-eqb _ _ (records_ordered c.args.history.now.events c.args.first c.args.second c.txn.result.now c.txn-2.result.now (omega arith) c.txn.ensures c.txn-2.ensures so),
)
