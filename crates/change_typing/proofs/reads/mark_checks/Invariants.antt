-- The columns of the CHECKs so far are marked.
use Rattle.std.proofs.Common.{◌&&◌, take}
use Rattle.std.specs.List.{list_any}
use Rattle.typing_rules.specs.Mentions.{mentions}
use Rattle.typing_parts.specs.Marked.{IsMarked}
use Rattle.change_typing.proofs.reads.mark_checks.Given as goal

abbrev pub invariant-loop-check : goal.invariant-loop-check
invariant-loop-check l =
    IsMarked l.fn.marks l.marks (λ c. list_any (λ check. mentions 0 c check && list_any (λ a. mentions 0 a.0 check) l.set) (take l.check-index l.table.checks))
