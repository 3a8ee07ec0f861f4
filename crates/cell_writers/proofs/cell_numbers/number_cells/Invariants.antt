use Rattle.std.proofs.Common.{take}
use Rattle.cell_writers.specs.Numbered.{AreNumberedSo}
use Rattle.cell_writers.proofs.cell_numbers.number_cells.Given as goal

abbrev pub invariant-loop-at : goal.invariant-loop-at
invariant-loop-at l = AreNumberedSo (take l.at l.events) l.numbers
