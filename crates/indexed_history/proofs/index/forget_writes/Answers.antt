use Rattle.std.proofs.Common.{◌≤◌, length, refl, arith}
use Rattle.std.proofs.lemmas.Option.{slice_get_read}
use Rattle.indexed_history.proofs.Forgotten.{forgets_start, forgets_more, forgets_end}
use Rattle.indexed_history.proofs.index.forget_writes.Goals as goal

pub forget_writer-requires : goal.forget_writer-requires
forget_writer-requires c = record { ascending = c.loop-entry.invariant.ascending }

pub loop-entry-init : goal.loop-entry-init
loop-entry-init c = forgets_start c.args.index.now c.args.writes.now c.args.number c.requires.ascending

pub loop-entry-preserved : goal.loop-entry-preserved
loop-entry-preserved c =
    forgets_more c.args.index.now c.args.writes.now c.loop-entry.entry-index c.args.number c.entry-item.result c.loop-entry.index c.forget_writer.new.index
    (slice_get_read c.args.writes.now (length c.args.writes.now) c.loop-entry.entry-index c.entry-item.result refl c.loop-entry-test.true c.entry-item.is)
    c.forget_writer.ensures.ascending c.forget_writer.ensures.loses c.loop-entry.invariant

pub returns : goal.returns
returns c =
    let end : length c.args.writes.now ≤ c.loop-entry.entry-index = omega arith in
    forgets_end c.args.index.now c.args.writes.now c.loop-entry.entry-index c.args.number c.loop-entry.index end c.loop-entry.invariant
