use Rattle.std.proofs.Common.{List, [], ◌∷◌, ◌++◌, ap, ◌∙◌}
use Rattle.right_logs.specs.declared.txn_notes.TxnNote.{TxnNote}
use Rattle.right_logs.proofs.txn_notes.initial_txns.Goals as goal

pub returns : goal.returns
returns c = (
  c.blank_note.result,
  (c.in_ok-push.ensures.items ∙ ap (λ (xs : List TxnNote). xs ++ c.blank_note.result ∷ []) c.in_ok-notes.ensures.items, c.blank_note.ensures),
)
