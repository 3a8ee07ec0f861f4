use Rattle.std.proofs.Common.{◌++◌, map, ap, ◌∙◌}
use Rattle.row_meaning.specs.Groups.{calls_of}
use Rattle.row_totals.specs.Calls.{meant, at_start}
use Rattle.row_totals.proofs.Rows.{stands_first}
use Rattle.row_totals.proofs.totals.Totals.new.Goals as goal

pub returns : goal.returns
returns c = stands_first _ c.args.exprs.now (c.in_ok-collect_each.ensures ∙ ap (λ cs. map meant cs ++ map at_start (calls_of c.args.exprs.now)) c.new-calls.ensures.items)
