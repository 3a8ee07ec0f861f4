use Rattle.right_logs.proofs.NotedLemmas.{own_at}
use Rattle.right_logs.proofs.noted_values.is_apart.Goals as goal

pub returns-in-Some : goal.returns-in-Some
returns-in-Some c = λ same.
    let found = c.in-Some.ensures.lookup in
    own_at c.args.apart.now c.args.number c.in-Some.own.now c.args.value.now found.3.0 found.1 (c.is_same.ensures.0 same)
