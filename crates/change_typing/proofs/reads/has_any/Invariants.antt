-- A column is marked among those that are left, or none.
use Rattle.std.proofs.Common.{◌≡◌, false, drop, get_or}
use Rattle.std.specs.List.{list_any}
use Rattle.change_typing.proofs.reads.has_any.Given as goal

abbrev pub invariant-loop-column : goal.invariant-loop-column
invariant-loop-column l = list_any (λ a. get_or l.marks a.0 false) (drop l.column-index l.set) ≡ list_any (λ a. get_or l.marks a.0 false) l.set
