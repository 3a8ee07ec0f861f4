use Rattle.std.proofs.Common.{List, ap}
use Rattle.right_logs.specs.declared.noted_values.NotedValue.{NotedValue}
use Rattle.right_logs.specs.NotedValues.{values_in}
use Rattle.right_logs.proofs.NotedLemmas.{apart_none}
use Rattle.right_logs.proofs.noted_values.NotedValues.with_room.Goals as goal

pub invariant_of-result : goal.invariant_of-result
invariant_of-result c = apart_none c.new-apart.result.items c.in_ok-notes.notes.items c.new-apart.ensures.items c.in_ok-notes.ensures.items

pub returns : goal.returns
returns c = ap (λ (ns : List NotedValue). values_in c.new-apart.result.items ns) c.in_ok-notes.ensures.items
