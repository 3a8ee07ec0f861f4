-- A term more, and a term that fails.
use Rattle.std.proofs.Common.{map, rules, arith}
use Rattle.std.proofs.lemmas.Grind.{common_steps}
use Rattle.expr_typing.specs.Scope.{sources}
use Rattle.typing_rules.specs.Outcome.{all_of}
use Rattle.typing_rules.specs.Select.{term_of}
use Rattle.select_typing.specs.Outputs.{outputs}
use Rattle.select_typing.proofs.Steps.{item_more, item_failed}
use Rattle.select_typing.proofs.order.terms_of.Goals as goal

pub returns-in_err-value : goal.returns-in_err-value
returns-in_err-value c =
    let e = item_failed (term_of (sources c.args.scope.now) (outputs c.args.outputs.now)) c.args.terms.now c.loop-term.term-index c.term-item.result
    c.loop-term.typed c.in_err-value.field-0.0 (all_of (map (term_of (sources c.args.scope.now) (outputs c.args.outputs.now)) c.args.terms.now))
    c.loop-term-test.true c.term-item.is c.in_err-value.ensures c.loop-term.invariant in
    first_of (search (rules, e), grind (arith, common_steps, e))

pub loop-term-preserved : goal.loop-term-preserved
loop-term-preserved c =
    item_more (term_of (sources c.args.scope.now) (outputs c.args.outputs.now)) c.args.terms.now c.loop-term.term-index c.term-item.result c.in_ok-value.value
    c.loop-term.typed c.push.new.self (all_of (map (term_of (sources c.args.scope.now) (outputs c.args.outputs.now)) c.args.terms.now))
    c.loop-term-test.true c.term-item.is c.in_ok-value.ensures c.in_ok-push.ensures.ok c.loop-term.invariant
