-- The columns of the entries so far.
use Rattle.std.proofs.Common.{◌≡◌, take, map}
use Rattle.typing_rules.specs.Select.{mentioned_of}
use Rattle.select_typing.specs.Entries.{entries}
use Rattle.select_typing.specs.Read.{exprs}
use Rattle.select_typing.proofs.reads.mentioned.Given as goal

abbrev pub invariant-loop-entry : goal.invariant-loop-entry
invariant-loop-entry l = l.all ≡ map (mentioned_of (entries l.entries) (exprs l.read)) (entries (take l.entry-index l.entries))
