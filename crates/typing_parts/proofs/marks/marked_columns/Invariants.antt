-- The columns so far that are marked are kept.
use Rattle.std.proofs.Common.{◌≡◌, ◌==◌, ◌&&◌, not, false, get_or}
use Rattle.typing_rules.specs.Mentions.{kept, numbers_from}
use Rattle.typing_parts.proofs.marks.marked_columns.Given as goal

abbrev pub invariant-loop-i : goal.invariant-loop-i
invariant-loop-i l = l.columns ≡ kept (λ c. not (c == l.key) && get_or l.marks c false) (numbers_from 0 l.i)
