use Rattle.row_totals.proofs.Meanings.{in_row_is}
use Rattle.row_totals.proofs.law.one_meaning.Goals as goal

pub returns : goal.returns
returns c = in_row_is
