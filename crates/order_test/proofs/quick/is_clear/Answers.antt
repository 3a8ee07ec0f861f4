use Rattle.order_test.proofs.SearchLemmas.{reader_of}
use Rattle.order_test.proofs.QuickLemmas.{clear_at_rc, clear_at_ra}
use Rattle.order_test.proofs.quick.is_clear.Goals as goal

pub txn_of-requires-clause-number : goal.txn_of-requires-clause-number
txn_of-requires-clause-number c = reader_of c.args.survey.now c.args.read.now c.requires.read

pub returns-in-Rc : goal.returns-in-Rc
returns-in-Rc c = λ h. clear_at_rc c.args.survey.now c.args.read.now c.txn_of.result.now c.txn_of.ensures c.in-Rc.is (c.earlier_sources_are_clear.ensures h)

pub returns-in-Ra : goal.returns-in-Ra
returns-in-Ra c = λ h. clear_at_ra c.args.survey.now c.args.read.now c.txn_of.result.now c.txn_of.ensures c.in-Ra.is (c.is_clear_directly.ensures h)
