-- A CHECK without a value gives its code.
use Rattle.std.proofs.Common.{◌≡◌, Bor, Err, map, rules}
use Rattle.sql_tree.specs.declared.typed_expr.TypedExpr.{TypedExpr}
use Rattle.row_meaning.specs.Storing as spec
use Rattle.row_writes.proofs.Checks.{some_fault}
use Rattle.row_writes.proofs.storing.checked_some.Goals as goal

pub returns-in_err-is_false : goal.returns-in_err-is_false
returns-in_err-is_false c =
    let failed : spec.checked (map (λ (k : Bor TypedExpr). k.now) c.args.checks.now) c.args.row.now ≡ Err c.in_err-is_false.field-0.0 =
    some_fault c.args.checks.now c.loop-check.check-index c.check-item.result c.args.row.now c.in_err-is_false.field-0.0
    (spec.checked (map (λ (k : Bor TypedExpr). k.now) c.args.checks.now) c.args.row.now)
    c.loop-check-test.true c.check-item.is c.in_err-is_false.ensures c.loop-check.invariant in
    rw failed (search rules)
