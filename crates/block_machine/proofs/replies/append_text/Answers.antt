use Rattle.std.proofs.Common.{◌≤◌, ℕ, List, length, sym, subst}
use Rattle.block_machine.proofs.Columns.{text_fits}
use Rattle.block_machine.proofs.replies.append_text.Goals as goal

pub append_data_row-requires-clause-fits : goal.append_data_row-requires-clause-fits
append_data_row-requires-clause-fits c = text_fits c.in_ok-text.text (subst (λ (t : List ℕ). length t ≤ 64) (sym c.in_ok-text.ensures) c.requires)
