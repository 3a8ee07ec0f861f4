use Rattle.std.proofs.Common.{arith}
use Rattle.std.proofs.lemmas.Bool.{ne_eqb}
use Rattle.sql_lexer.proofs.Digits.{param_small, param_value}
use Rattle.sql_lexer.proofs.piece.param.Goals as goal

pub overflow_cast-result : goal.overflow_cast-result
overflow_cast-result c =
    let low = param_small c.args.z.now c.at_most-front.result.now c.past-end.result c.at_most-front.ensures c.past-end.ensures.value in
    omega (arith, c.digits-n.ensures)

pub returns-clause-value : goal.returns-clause-value
returns-clause-value c =
    param_value c.args.at c.args.z.now c.at_most-front.result.now c.past-end.result c.digits-n.result c.at_most-front.ensures c.past-end.ensures.value (ne_eqb c.past-end.result 1 c.if-end-eq1.false) c.digits-n.ensures
