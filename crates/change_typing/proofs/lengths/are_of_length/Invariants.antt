-- The rows that are left decide.
use Rattle.std.proofs.Common.{◌≡◌, ◌==◌, drop, length}
use Rattle.std.specs.List.{list_all}
use Rattle.change_typing.proofs.lengths.are_of_length.Given as goal

abbrev pub invariant-loop-row : goal.invariant-loop-row
invariant-loop-row l = list_all (λ row. length row == l.wanted) (drop l.row-index l.rows) ≡ list_all (λ row. length row == l.wanted) l.rows
