-- An item more, one with too many columns, and one that fails.
use Rattle.std.proofs.Common.{◌≡◌, ◌+◌, [], false, length, sym, ap, ◌∙◌, rules, arith}
use Rattle.std.specs.Prelude.{nat_lt}
use Rattle.std.proofs.lemmas.Grind.{common_steps}
use Rattle.expr_typing.specs.Scope.{sources}
use Rattle.typing_rules.specs.Select.{width, items_from}
use Rattle.select_typing.proofs.Outputs.{items_more, items_wide, items_failed}
use Rattle.select_typing.proofs.items.outputs_of.Goals as goal

pub returns-then-is_too_wide : goal.returns-then-is_too_wide
returns-then-is_too_wide c =
    items_wide c.args.place (sources c.args.scope.now) c.args.items.now c.loop-item.item-index c.item-item.result c.loop-item.outputs
    (items_from c.args.place (sources c.args.scope.now) [] c.args.items.now) c.loop-item-test.true c.item-item.is
    (ap (λ n. nat_lt 1664 (n + width (sources c.args.scope.now) c.item-item.result)) (sym c.len.ensures) ∙ sym c.is_too_wide.ensures ∙ c.if-is_too_wide.true)
    c.loop-item.invariant

pub returns-in_err-outputs : goal.returns-in_err-outputs
returns-in_err-outputs c =
    let narrow : nat_lt 1664 (length c.loop-item.outputs + width (sources c.args.scope.now) c.item-item.result) ≡ false =
    ap (λ n. nat_lt 1664 (n + width (sources c.args.scope.now) c.item-item.result)) (sym c.len.ensures) ∙ sym c.is_too_wide.ensures ∙ c.if-is_too_wide.false in
    let e = items_failed c.args.place (sources c.args.scope.now) c.args.items.now c.loop-item.item-index c.item-item.result c.loop-item.outputs
    c.in_err-outputs.field-0.0 (items_from c.args.place (sources c.args.scope.now) [] c.args.items.now) c.loop-item-test.true c.item-item.is
    narrow c.in_err-outputs.ensures c.loop-item.invariant in
    first_of (search (rules, e), grind (arith, common_steps, e))

pub loop-item-preserved : goal.loop-item-preserved
loop-item-preserved c =
    let narrow : nat_lt 1664 (length c.loop-item.outputs + width (sources c.args.scope.now) c.item-item.result) ≡ false =
    ap (λ n. nat_lt 1664 (n + width (sources c.args.scope.now) c.item-item.result)) (sym c.len.ensures) ∙ sym c.is_too_wide.ensures ∙ c.if-is_too_wide.false in
    items_more c.args.place (sources c.args.scope.now) c.args.items.now c.loop-item.item-index c.item-item.result c.loop-item.outputs
    c.in_ok-outputs.outputs (items_from c.args.place (sources c.args.scope.now) [] c.args.items.now) c.loop-item-test.true c.item-item.is
    narrow c.in_ok-outputs.ensures c.loop-item.invariant
