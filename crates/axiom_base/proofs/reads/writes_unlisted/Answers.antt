use Rattle.std.proofs.Common.{sym, ◌∙◌}
use Rattle.std.proofs.lemmas.Bool.{false≢true, true_from_ne_false}
use Rattle.saturation.proofs.Sights.{writes_later}
use Rattle.axiom_base.proofs.Views.{unlisted_from_record, no_unlisted}
use Rattle.axiom_base.proofs.reads.writes_unlisted.Goals as goal

pub returns-then-not-is_committed : goal.returns-then-not-is_committed
returns-then-not-is_committed c = (
  λ h. absurd (false≢true h),
  λ writes.
      let own = writes_later c.args.history.now.events c.args.writer writes.cell c.requires.some writes.writes in
      absurd (false≢true (sym c.if-not-is_committed.true ∙ c.is_committed.ensures.1 (c.txn-txn.ensures.committed.1 own.0))),
)

pub returns : goal.returns
returns c = (
  λ h. unlisted_from_record c.args.history.now.events c.args.writer c.txn-txn.result.now c.args.table c.args.keys.now c.txn-txn.ensures
      (c.is_committed.ensures.0 c.if-not-is_committed.false) (c.has_unlisted.ensures.0 h),
  λ writes. true_from_ne_false c.has_unlisted.result (λ none.
      no_unlisted c.args.history.now.events c.args.writer c.txn-txn.result.now c.args.table c.args.keys.now c.requires.some c.txn-txn.ensures
      (λ some. false≢true (sym none ∙ c.has_unlisted.ensures.1 some)) writes),
)
