use Rattle.std.proofs.Common.{◌≡◌, map, drop, Ok, false}
use Rattle.cell_base.specs.declared.value.Value.TheVariants.{Flag}
use Rattle.expr_eval.specs.Lent.{owned}
use Rattle.row_totals.specs.Filling as filling
use Rattle.row_totals.proofs.filling.+fills.Given as goal

abbrev pub invariant-any_equal-loop-member : goal.invariant-any_equal-loop-member
invariant-any_equal-loop-member l =
    filling.members_filled (owned l.left) (owned l.found) (map filling.filled (drop l.member-index l.members)) (map Ok l.rest)
    ≡ filling.members_filled (owned l.left) (Flag false) (map filling.filled l.members) (map Ok l.totals)
