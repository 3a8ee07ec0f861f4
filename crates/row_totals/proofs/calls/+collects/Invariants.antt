use Rattle.std.proofs.Common.{◌≡◌, ◌++◌, map, drop}
use Rattle.row_meaning.specs.Groups.{calls_of}
use Rattle.row_totals.specs.Calls.{meant, at_start}
use Rattle.row_totals.proofs.calls.+collects.Given as goal

abbrev pub invariant-collect_each-loop-expr : goal.invariant-collect_each-loop-expr
invariant-collect_each-loop-expr l =
    map meant l.calls.items ++ map at_start (calls_of (drop l.expr-index l.exprs)) ≡ map meant l.fn.calls.items ++ map at_start (calls_of l.exprs)
