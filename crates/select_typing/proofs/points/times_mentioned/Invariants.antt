-- How often so far, and how often in what is left.
use Rattle.std.proofs.Common.{◌≡◌, ◌+◌, drop}
use Rattle.typing_rules.specs.Select.{times_mentioned}
use Rattle.select_typing.specs.Entries.{entries}
use Rattle.select_typing.proofs.points.times_mentioned.Given as goal

abbrev pub invariant-loop-entry : goal.invariant-loop-entry
invariant-loop-entry l = l.times + times_mentioned l.number (entries (drop l.entry-index l.entries)) ≡ times_mentioned l.number (entries l.entries)
