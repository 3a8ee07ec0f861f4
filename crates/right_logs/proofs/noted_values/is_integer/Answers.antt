use Rattle.std.proofs.Common.{sym, ◌∙◌}
use Rattle.right_logs.proofs.NotedLemmas.{integer_is}
use Rattle.right_logs.proofs.noted_values.is_integer.Goals as goal

pub returns-in-Some : goal.returns-in-Some
returns-in-Some c = λ same. integer_is c.args.value.now c.in-Some.note c.args.number (sym c.compact.ensures ∙ c.in-Some.is) (c.is_compact.ensures same)
