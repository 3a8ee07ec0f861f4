use Rattle.std.proofs.Common.{sym, ◌∙◌}
use Rattle.cell_writers.proofs.Numbering.{found_at, last_is}
use Rattle.cell_writers.proofs.cell_numbers.number_cell.Goals as goal

pub returns-in-Some-clause-is : goal.returns-in-Some-clause-is
returns-in-Some-clause-is c = found_at c.args.numbers.now.cells.keys c.args.cell.now c.in-Some.at (sym c.get_index_of.ensures.index ∙ c.in-Some.is)

pub returns-in_ok-insert-in-None-clause-is : goal.returns-in_ok-insert-in-None-clause-is
returns-in_ok-insert-in-None-clause-is c =
    last_is c.args.numbers.now.cells.keys c.insert.new.self.keys c.args.cell.now c.in_ok-copy-in-None.copy c.len-next.result c.in_ok-copy-in-None.ensures c.in_ok-insert-in-None.ensures.keys
    (rw c.in-None.is at c.get_index_of.ensures.found) c.len-next.ensures.len
