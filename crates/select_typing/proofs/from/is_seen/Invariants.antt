-- Whether an entry is seen by the name is the same of those that are left.
use Rattle.std.proofs.Common.{◌≡◌, drop}
use Rattle.std.specs.List.{list_any}
use Rattle.std.specs.Str.{bytes_eq}
use Rattle.typing_rules.specs.Select.{Entry}
use Rattle.select_typing.specs.Entries.{entries}
use Rattle.select_typing.proofs.from.is_seen.Given as goal

abbrev pub invariant-loop-entry : goal.invariant-loop-entry
invariant-loop-entry l =
    list_any (λ (e : Entry). bytes_eq e.name l.name) (entries (drop l.entry-index l.entries))
    ≡ list_any (λ (e : Entry). bytes_eq e.name l.name) (entries l.entries)
