-- A name that stands before, and a new one.
use Rattle.std.proofs.Common.{sym, ◌∙◌}
use Rattle.typing_parts.specs.Numbered.{numbered}
use Rattle.select_typing.specs.Entries.{entries}
use Rattle.select_typing.proofs.FromEntries.{entry_seen, entry_new}
use Rattle.select_typing.proofs.from.entry_of.Goals as goal

pub returns-then-is_seen : goal.returns-then-is_seen
returns-then-is_seen c =
    entry_seen c.args.tables.now (entries c.args.before.now) c.args.written.now (numbered c.in_ok-found.found) c.name_of-name.result.now
    c.in_ok-found.ensures.found c.name_of-name.ensures (sym c.is_seen.ensures ∙ c.if-is_seen.true)

pub returns : goal.returns
returns c =
    entry_new c.args.tables.now (entries c.args.before.now) c.args.written.now (numbered c.in_ok-found.found) c.name_of-name.result.now
    c.in_ok-found.ensures.found c.name_of-name.ensures (sym c.is_seen.ensures ∙ c.if-is_seen.false)
