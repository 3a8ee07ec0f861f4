use Rattle.std.proofs.Common.{◌≤◌, length, refl, arith}
use Rattle.std.proofs.lemmas.Option.{slice_get_read}
use Rattle.history_check.proofs.KeyLists.{part_none, part_more, part_whole}
use Rattle.history_check.proofs.table_keys.note_keys.Goals as goal

pub loop-entry-init : goal.loop-entry-init
loop-entry-init c = part_none c.args.keys.now c.args.cells.now

pub loop-entry-preserved : goal.loop-entry-preserved
loop-entry-preserved c =
    part_more c.args.keys.now c.args.cells.now c.loop-entry.entry-index c.entry-item.result c.loop-entry.keys c.note_key.new.keys
    (slice_get_read c.args.cells.now (length c.args.cells.now) c.loop-entry.entry-index c.entry-item.result refl c.loop-entry-test.true c.entry-item.is)
    c.note_key.ensures.kept c.in_ok-note_key.ensures.noted c.loop-entry.invariant

pub returns-clause-kept : goal.returns-clause-kept
returns-clause-kept c = c.loop-entry.invariant.keeps

pub returns-clause-noted : goal.returns-clause-noted
returns-clause-noted c =
    let end : length c.args.cells.now ≤ c.loop-entry.entry-index = omega arith in
    part_whole c.args.keys.now c.args.cells.now c.loop-entry.entry-index c.loop-entry.keys end c.loop-entry.invariant
