use Rattle.std.proofs.Common.{sym, ◌∙◌, arith}
use Rattle.std.proofs.lemmas.Bool.{false≢true, true_from_ne_false}
use Rattle.history_core.proofs.Offers.{writer_bounded}
use Rattle.std.proofs.Common.{inr}
use Rattle.saturation.proofs.Sights.{writes_later, written_from_record, none_from_record}
use Rattle.saturation.proofs.pairs.is_writer.Goals as goal

pub returns-then-number-begun : goal.returns-then-number-begun
returns-then-number-begun c = (
  λ h. absurd (false≢true h),
  λ writes. let h = writer_bounded c.args.history.now.events c.args.number c.args.cell.now writes in absurd (omega arith),
)

pub returns-then-not-is_committed : goal.returns-then-not-is_committed
returns-then-not-is_committed c = (
  λ h. absurd (false≢true h),
  λ writes.
      let own = writes_later c.args.history.now.events c.args.number c.args.cell.now (omega arith) writes in
      absurd (false≢true (sym c.if-not-is_committed.true ∙ c.is_committed.ensures.1 (c.txn-txn.ensures.committed.1 own.0))),
)

pub returns : goal.returns
returns c = (
  λ h.
      let written = c.writes_cell.ensures.0 h in
      inr (
        c.txn-txn.ensures.committed.0 (c.is_committed.ensures.0 c.if-not-is_committed.false),
        written_from_record c.args.history.now.events c.args.number c.txn-txn.result.now c.args.cell.now written.0 c.txn-txn.ensures written.1,
      ),
  λ writes. true_from_ne_false c.writes_cell.result (λ none.
      let own = writes_later c.args.history.now.events c.args.number c.args.cell.now (omega arith) writes in
      none_from_record c.args.history.now.events c.args.number c.txn-txn.result.now c.args.cell.now c.txn-txn.ensures
      (λ v member. false≢true (sym none ∙ c.writes_cell.ensures.1 (v, member))) own.1),
)
