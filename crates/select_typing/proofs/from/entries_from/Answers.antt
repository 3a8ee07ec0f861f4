-- An entry more, and an entry that is refused.
use Rattle.std.proofs.Common.{[], rules, arith}
use Rattle.std.proofs.lemmas.Grind.{common_steps}
use Rattle.typing_rules.specs.Select.{entries_from}
use Rattle.select_typing.proofs.FromEntries.{entries_more, entries_failed}
use Rattle.select_typing.proofs.from.entries_from.Goals as goal

pub returns-in_err-entries : goal.returns-in_err-entries
returns-in_err-entries c =
    let e = entries_failed c.args.tables.now c.args.from.now c.loop-written.written-index c.written-item.result c.loop-written.entries
    c.in_err-entries.field-0.0 (entries_from c.args.tables.now [] c.args.from.now)
    (omega arith) c.written-item.is c.in_err-entries.ensures c.loop-written.invariant in
    first_of (search (rules, e), grind (arith, common_steps, e))

pub loop-written-preserved : goal.loop-written-preserved
loop-written-preserved c =
    entries_more c.args.tables.now c.args.from.now c.loop-written.written-index c.written-item.result c.loop-written.entries c.in_ok-entries.entries
    (entries_from c.args.tables.now [] c.args.from.now)
    (omega arith) c.written-item.is c.in_ok-entries.ensures c.loop-written.invariant
