use Rattle.std.proofs.Common.{sym, ◌∙◌}
use Rattle.std.proofs.lemmas.Bool.{false≢true, true_from_ne_false}
use Rattle.saturation.proofs.Sights.{writes_later, rival_from_record, no_rival}
use Rattle.saturation.proofs.demands.is_rival.Goals as goal

pub returns-then-not-is_committed : goal.returns-then-not-is_committed
returns-then-not-is_committed c = (
  λ h. absurd (false≢true h),
  λ rival.
      let own = writes_later c.args.history.now.events c.args.writer rival.cell c.requires.some rival.writes in
      absurd (false≢true (sym c.if-not-is_committed.true ∙ c.is_committed.ensures.1 (c.txn-txn.ensures.committed.1 own.0))),
)

pub returns : goal.returns
returns c = (
  λ h. rival_from_record c.args.history.now.events c.args.writer c.txn-txn.result.now c.args.seen.now c.txn-txn.ensures
      (c.is_committed.ensures.0 c.if-not-is_committed.false) (λ same. c.if-writer-source.false (same ∙ sym c.source.ensures)) (c.shows_one_of.ensures.0 h),
  λ rival. true_from_ne_false c.shows_one_of.result (λ none.
      no_rival c.args.history.now.events c.args.writer c.txn-txn.result.now c.args.seen.now c.requires.some c.txn-txn.ensures
      (λ shows. false≢true (sym none ∙ c.shows_one_of.ensures.1 shows)) rival),
)
