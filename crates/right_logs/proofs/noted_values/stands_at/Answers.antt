use Rattle.right_logs.proofs.NotedLemmas.{value_at}
use Rattle.right_logs.proofs.noted_values.stands_at.Goals as goal

pub returns-in-Some : goal.returns-in-Some
returns-in-Some c = λ same.
    let found = c.in-Some.ensures.lookup in
    value_at c.args.apart.now c.args.notes.now c.args.place c.in-Some.note.now c.args.value.now found.3.0 found.1 (rw c.note.ensures at (c.is_value.ensures same))
