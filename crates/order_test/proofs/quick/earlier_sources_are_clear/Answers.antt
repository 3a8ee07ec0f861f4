use Rattle.order_test.proofs.SearchLemmas.{reader_of}
use Rattle.order_test.proofs.QuickLemmas.{early_sources_clear}
use Rattle.order_test.proofs.quick.earlier_sources_are_clear.Goals as goal

pub txn_of-txn-requires-clause-number : goal.txn_of-txn-requires-clause-number
txn_of-txn-requires-clause-number c = reader_of c.args.survey.now c.args.read.now c.requires.read

pub returns : goal.returns
returns c = λ h.
    early_sources_clear c.args.survey.now c.args.read.now c.requires.survey c.requires.read c.txn_of-txn.result.now c.txn_of-txn.ensures
    (rw c.as_slice.ensures at (c.all_are_harmless_early.ensures h))
