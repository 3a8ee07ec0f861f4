use Rattle.bit_rows.proofs.RowLines.{no_rows}
use Rattle.bit_rows.proofs.lines.Lines.new.Goals as goal

pub returns-clause-none : goal.returns-clause-none
returns-clause-none c = no_rows _ _ _ c.new.ensures.items
