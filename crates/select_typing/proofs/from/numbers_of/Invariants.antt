-- The numbers of the entries so far.
use Rattle.std.proofs.Common.{◌≡◌, take, map}
use Rattle.typing_rules.specs.Select.{Entry}
use Rattle.select_typing.specs.Entries.{entries}
use Rattle.select_typing.proofs.from.numbers_of.Given as goal

abbrev pub invariant-loop-entry : goal.invariant-loop-entry
invariant-loop-entry l = l.numbers ≡ map (λ (e : Entry). e.found.number) (entries (take l.entry-index l.entries))
