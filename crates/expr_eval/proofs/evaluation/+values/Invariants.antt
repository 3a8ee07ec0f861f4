use Rattle.std.proofs.Common.{◌≡◌, Ok}
use Rattle.expr_eval.specs.Lent.{owned, seen}
use Rattle.expr_eval.specs.Values.{values_of, among}
use Rattle.expr_eval.proofs.Members.{go_on, left_over}
use Rattle.expr_eval.proofs.evaluation.+values.Given as goal

abbrev pub invariant-any_equal-loop-member : goal.invariant-any_equal-loop-member
invariant-any_equal-loop-member l =
    go_on (Ok (owned l.left)) (Ok (owned l.found)) (left_over (seen l.row) l.members l.member-index) ≡ among (Ok (owned l.left)) (values_of l.members (seen l.row))
