-- What the expression mentions of the entries so far is marked.
use Rattle.std.proofs.Common.{take}
use Rattle.typing_rules.specs.Select.{mentions_table}
use Rattle.typing_parts.specs.Marked.{IsMarked}
use Rattle.select_typing.specs.Entries.{entries}
use Rattle.select_typing.proofs.reads.mark_expr.Given as goal

abbrev pub invariant-loop-at : goal.invariant-loop-at
invariant-loop-at l = IsMarked l.initial.marks l.marks (λ c. mentions_table l.number c 0 (entries (take l.at l.entries)) l.expr)
