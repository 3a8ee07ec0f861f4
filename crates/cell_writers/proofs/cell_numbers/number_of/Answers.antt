use Rattle.cell_writers.proofs.Numbering.{some_found, none_found}
use Rattle.cell_writers.proofs.cell_numbers.number_of.Goals as goal

pub returns-clause-some : goal.returns-clause-some
returns-clause-some c = some_found c.args.numbers.now.cells.keys c.args.cell.now c.get_index_of.result c.get_index_of.ensures.index

pub returns-clause-none : goal.returns-clause-none
returns-clause-none c = none_found c.args.numbers.now.cells.keys c.args.cell.now c.get_index_of.result c.get_index_of.ensures.found
