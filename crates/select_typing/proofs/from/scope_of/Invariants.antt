-- The entries so far, as names are looked up in them.
use Rattle.std.proofs.Common.{◌≡◌, take, map}
use Rattle.select_typing.specs.Entries.{seen}
use Rattle.select_typing.proofs.from.scope_of.Given as goal

abbrev pub invariant-loop-entry : goal.invariant-loop-entry
invariant-loop-entry l = l.scope ≡ map seen (take l.entry-index l.entries)
