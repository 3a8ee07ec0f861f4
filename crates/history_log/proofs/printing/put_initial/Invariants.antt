use Rattle.std.proofs.Common.{◌≡◌, ◌++◌, take, map}
use Rattle.std.specs.List.{AllByRecursion}
use Rattle.history_log.specs.Log.{IsInitialCell}
use Rattle.history_log.specs.Spelling.{initial_line, whole_lines}
use Rattle.history_log.proofs.printing.put_initial.Given as goal

abbrev pub invariant-loop-row : goal.invariant-loop-row
invariant-loop-row l =
    (l.out.items ≡ l.initial.out.items ++ whole_lines (map initial_line (take l.row-index l.rows)))
    × AllByRecursion IsInitialCell (take l.row-index l.rows)
