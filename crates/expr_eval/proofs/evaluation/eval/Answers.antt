use Rattle.std.proofs.Common.{◌≡◌, true, Ok, ap, ◌∙◌, subst}
use Rattle.typing_rules.specs.Kinds.{is_null_or_of}
use Rattle.expr_eval.specs.Kinds.{IsTyped}
use Rattle.expr_eval.specs.Lent.{owned, seen}
use Rattle.expr_eval.specs.Values.{value_of}
use Rattle.expr_eval.proofs.Results.{result_typed}
use Rattle.expr_eval.proofs.evaluation.eval.Goals as goal

pub returns-clause-typed : goal.returns-clause-typed
returns-clause-typed c types well =
    let is : value_of c.args.expr.now (seen c.args.row.now) ≡ Ok (owned c.in_ok-value.value) = c.in_ok-value.ensures in
    let lent : is_null_or_of c.args.expr.now.kind (owned c.in_ok-value.value) ≡ true =
    subst (IsTyped c.args.expr.now.kind) is (result_typed {types = types} {e = c.args.expr.now} (seen c.args.row.now) well) in
    ap (is_null_or_of c.args.expr.now.kind) c.in_ok-to_value.ensures.ok ∙ lent
