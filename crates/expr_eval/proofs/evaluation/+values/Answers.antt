use Rattle.std.proofs.Common.{◌≡◌, Ok, Err, rules, arith}
use Rattle.expr_eval.specs.Lent.{owned, seen}
use Rattle.expr_eval.specs.Values.{among, value_of, values_of}
use Rattle.expr_eval.proofs.Nodes.{in_failed}
use Rattle.expr_eval.proofs.Members.{fails}
use Rattle.expr_eval.proofs.evaluation.+values.Goals as goal

pub any_equal-returns-in_err-datum_of : goal.any_equal-returns-in_err-datum_of
any_equal-returns-in_err-datum_of t c =
    let failed : among (Ok (owned c.args.left)) (values_of c.args.members.now (seen c.args.row.now)) ≡ Err c.in_err-datum_of.field-0.0 =
    fails (seen c.args.row.now) (owned c.args.left) (owned c.loop-member.found) c.args.members.now c.loop-member.member-index c.member-item.result c.in_err-datum_of.field-0.0
    (omega arith) c.member-item.is c.loop-member.invariant c.in_err-datum_of.ensures in
    rw failed (search rules)

pub datum_of-returns-in-Err-datum_of : goal.datum_of-returns-in-Err-datum_of
datum_of-returns-in-Err-datum_of t c =
    let failed : value_of c.args.expr.now (seen c.args.row.now) ≡ Err c.in-Err-datum_of.code =
    in_failed c.args.expr.now c.in-In.left c.in-In.members c.in-In.denies (seen c.args.row.now) c.in-Err-datum_of.code c.in-In.is (search rules) in
    rw failed (search rules)
