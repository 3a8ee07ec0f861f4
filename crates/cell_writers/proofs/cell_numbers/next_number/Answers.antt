use Rattle.cell_writers.proofs.Numbering.{next_none, next_some_if}
use Rattle.cell_writers.proofs.cell_numbers.next_number.Goals as goal

pub returns-in-Some-clause-next : goal.returns-in-Some-clause-next
returns-in-Some-clause-next c =
    next_some_if c.args.event.now c.args.numbers.now.cells.keys c.number_cell.new.numbers.cells.keys c.in-Some.cell.now c.number_cell.result c.in-Some.ensures.some c.number_cell.ensures.ok c.number_cell.ensures.is

pub returns-in-None-clause-next : goal.returns-in-None-clause-next
returns-in-None-clause-next c = next_none c.args.event.now c.args.numbers.now.cells.keys 0 c.in-None.ensures.none
