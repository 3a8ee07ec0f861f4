-- What is left of FROM, after the entries so far.
use Rattle.std.proofs.Common.{◌≡◌, [], drop}
use Rattle.typing_rules.specs.Select.{entries_from}
use Rattle.select_typing.specs.Entries.{entries}
use Rattle.select_typing.proofs.from.entries_from.Given as goal

abbrev pub invariant-loop-written : goal.invariant-loop-written
invariant-loop-written l = entries_from l.tables (entries l.entries) (drop l.written-index l.from) ≡ entries_from l.tables [] l.from
