use Rattle.std.proofs.Common.{◌≤◌, length, refl, arith}
use Rattle.std.proofs.lemmas.Option.{slice_get_read}
use Rattle.cell_writers.proofs.Noted.{gains_start, gains_more, gains_end}
use Rattle.cell_writers.proofs.writers.note_writes.Goals as goal

pub note_writer-requires : goal.note_writer-requires
note_writer-requires c = record { ascending = c.loop-entry.invariant.ascending }

pub loop-entry-init : goal.loop-entry-init
loop-entry-init c = gains_start c.args.writers.now c.args.writes.now c.args.number c.requires.ascending

pub loop-entry-preserved : goal.loop-entry-preserved
loop-entry-preserved c =
    gains_more c.args.writers.now c.args.writes.now c.loop-entry.entry-index c.args.number c.entry-item.result c.loop-entry.writers c.note_writer.new.writers
    (slice_get_read c.args.writes.now (length c.args.writes.now) c.loop-entry.entry-index c.entry-item.result refl c.loop-entry-test.true c.entry-item.is)
    c.note_writer.ensures.ascending c.in_ok-note_writer.ensures.ok c.loop-entry.invariant

pub returns-clause-ascending : goal.returns-clause-ascending
returns-clause-ascending c = c.loop-entry.invariant.ascending

pub returns-clause-ok : goal.returns-clause-ok
returns-clause-ok c =
    let end : length c.args.writes.now ≤ c.loop-entry.entry-index = omega arith in
    gains_end c.args.writers.now c.args.writes.now c.loop-entry.entry-index c.args.number c.loop-entry.writers end c.loop-entry.invariant
