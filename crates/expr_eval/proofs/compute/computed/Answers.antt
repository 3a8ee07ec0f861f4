use Rattle.std.proofs.Common.{w64, sym, subst}
use Rattle.std.proofs.lemmas.Int.{to_z-of_z}
use Rattle.expr_eval.specs.Lent.{Lends}
use Rattle.expr_eval.specs.Operators as operators
use Rattle.expr_eval.proofs.Quotients.{divides}
use Rattle.expr_eval.proofs.compute.computed.Goals as goal

pub returns-else-b-eq0 : goal.returns-else-b-eq0
returns-else-b-eq0 c =
    subst (λ op. Lends c.in_range-else-b-eq0.result (operators.computed c.args.kind op c.args.a c.args.b)) (sym c.in-Div.is)
    (divides c.args.kind c.args.a c.args.b _ _ c.checked_div.result c.in_range-else-b-eq0.result (to_z-of_z w64 c.args.a c.ranges.a) (to_z-of_z w64 c.args.b c.ranges.b) c.if-b-eq0.false
    c.checked_div.ensures c.in_range-else-b-eq0.ensures)
