-- A condition more, and a condition that is refused.
use Rattle.std.proofs.Common.{rules, arith}
use Rattle.std.proofs.lemmas.Grind.{common_steps}
use Rattle.expr_typing.specs.Scope.{sources}
use Rattle.typing_rules.specs.Select.{ons_of}
use Rattle.select_typing.proofs.OnConditions.{ons_more, ons_failed}
use Rattle.select_typing.proofs.joins.ons_of.Goals as goal

pub returns-in_err-conditions : goal.returns-in_err-conditions
returns-in_err-conditions c =
    let why = c.in_err-conditions.field-0.0 in
    let e = ons_failed (sources c.args.scope.now) c.args.from.now c.loop-i.i c.index-from-i.result c.loop-i.conditions why
    (ons_of (sources c.args.scope.now) c.args.from.now)
    (omega arith) c.index-from-i.is c.in_err-conditions.ensures c.loop-i.invariant in
    first_of (search (rules, e), grind (arith, common_steps, e))

pub loop-i-preserved : goal.loop-i-preserved
loop-i-preserved c =
    ons_more (sources c.args.scope.now) c.args.from.now c.loop-i.i c.index-from-i.result c.loop-i.conditions c.in_ok-conditions.conditions
    (ons_of (sources c.args.scope.now) c.args.from.now)
    (omega arith) c.index-from-i.is c.in_ok-conditions.ensures c.loop-i.invariant
