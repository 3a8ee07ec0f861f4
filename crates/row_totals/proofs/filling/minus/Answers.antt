use Rattle.std.proofs.Common.{◌≡◌, map, Ok, rules, sym, subst}
use Rattle.expr_eval.specs.Lent.{owned}
use Rattle.expr_eval.specs.Operators.{negated}
use Rattle.typing_rules.specs.Outcome.{Outcome}
use Rattle.row_totals.specs.Filling.{Fills, Got, of_got}
use Rattle.row_totals.proofs.filling.minus.Goals as goal

pub returns-in-Ok : goal.returns-in-Ok
returns-in-Ok c outcome fills =
    let is : outcome ≡ Ok (owned c.in-Ok.operand, map Ok c.in-Ok.rest.now) = search rules in
    subst (λ (o : Outcome Got). Fills c.beside.result (of_got (negated c.args.kind) o)) (sym is) (c.beside.ensures (negated c.args.kind (owned c.in-Ok.operand)) c.negated.ensures)
