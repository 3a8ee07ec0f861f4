use Rattle.std.proofs.Common.{length, List, subst}
use Rattle.history_core.specs.declared.txn.Seen.{Seen}
use Rattle.order_test.specs.Scenes.{AreHarmless}
use Rattle.order_test.proofs.SearchLemmas.{reader_of}
use Rattle.order_test.proofs.QuickLemmas.{sources_clear}
use Rattle.order_test.proofs.quick.sources_are_clear.Goals as goal

pub txn_of-txn-requires-clause-number : goal.txn_of-txn-requires-clause-number
txn_of-txn-requires-clause-number c = reader_of c.args.survey.now c.args.read.now c.requires.read

pub returns : goal.returns
returns c = λ h.
    sources_clear c.args.survey.now c.args.read.now c.requires.survey c.requires.read c.txn_of-txn.result.now c.txn_of-txn.ensures
    (subst (λ (all : List Seen). AreHarmless c.args.survey.now c.args.read.now (length all) all) c.as_slice.ensures (c.all_are_harmless.ensures h))
