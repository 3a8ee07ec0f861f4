use Rattle.std.proofs.Common.{inl, inr, sym, ◌∙◌}
use Rattle.axiom_base.proofs.Views.{target_from_record, record_target}
use Rattle.axiom_base.proofs.trial.is_target.Goals as goal

pub returns : goal.returns
returns c = (
  λ h. (
    c.requires.number,
    inr (inr (target_from_record c.args.history.now.events c.args.read.now.reader c.txn.result.now c.args.number c.txn.ensures
        (rw c.as_slice.ensures at (c.has_source.ensures.0 h)))),
  ),
  λ target. elim target.1 [
    | inl own ↦ absurd (c.if-number-read.false own)
    | inr other ↦ elim other [
      | inl further ↦ absurd (c.if-number-source.false (further ∙ sym c.source.ensures))
      | inr read ↦
          c.has_source.ensures.1 (rw c.as_slice.ensures
          (record_target c.args.history.now.events c.args.read.now.reader c.txn.result.now c.args.number read.0 c.txn.ensures read.1 read.2))
    ]
  ],
)
