use Rattle.std.proofs.Common.{◌≡◌, ◌+◌, ◌≤◌, ◌++◌, length}
use Rattle.history_log.specs.Cut.{cut_at}
use Rattle.history_log.specs.Draft.{IsRight, said}
use Rattle.history_log.proofs.reading.read_lines.Given as goal

abbrev pub invariant-loop-line : goal.invariant-loop-line
invariant-loop-line l = IsRight l.draft × (said l.fn.draft ++ cut_at 10 l.text ≡ said l.draft ++ cut_at 10 l.rest) × (length (said l.draft) ≡ l.number) × (l.number + length l.rest ≤ 268435456)

abbrev pub decreases-loop-line : goal.decreases-loop-line
decreases-loop-line l = length l.rest
