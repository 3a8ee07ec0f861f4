-- Whether an aggregate is called in an IN.
use Rattle.std.proofs.Common.{rules, arith}
use Rattle.std.proofs.lemmas.Grind.{common_steps}
use Rattle.select_typing.proofs.Calls.{calls_in}
use Rattle.select_typing.proofs.aggregates.+calls.Goals as goal

pub calls_aggregate-returns-else-calls_aggregate-2 : goal.calls_aggregate-returns-else-calls_aggregate-2
calls_aggregate-returns-else-calls_aggregate-2 t c =
    let e = calls_in c.in-In.left c.in-In.members c.in-In.field-2 in
    rw c.in-In.is (rw e (first_of (search rules, grind (arith, common_steps))))
