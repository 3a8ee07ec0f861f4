-- The keys so far, and what is left.
use Rattle.std.proofs.Common.{◌≡◌, ◌++◌, drop}
use Rattle.std.specs.Option.{option_map}
use Rattle.typing_rules.specs.Select.{points_from}
use Rattle.select_typing.specs.Entries.{entries}
use Rattle.select_typing.proofs.points.points_of.Given as goal

abbrev pub invariant-loop-at : goal.invariant-loop-at
invariant-loop-at l =
    l.all ++ points_from (entries l.entries) (option_map (λ f. f.now) l.filter) l.at (entries (drop l.at l.entries))
    ≡ points_from (entries l.entries) (option_map (λ f. f.now) l.filter) 0 (entries l.entries)
