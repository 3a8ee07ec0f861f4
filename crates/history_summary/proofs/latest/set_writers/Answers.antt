use Rattle.std.proofs.Common.{List, length, take, refl, sym, subst, arith}
use Rattle.std.proofs.lemmas.List.{take_all}
use Rattle.std.proofs.lemmas.Option.{slice_get_read}
use Rattle.cell_base.specs.declared.cell.Cell.{Cell}
use Rattle.cell_base.specs.declared.value.Value.{Value}
use Rattle.history_summary.specs.Walk.{SetsWriters}
use Rattle.history_summary.proofs.Prefixes.{next_prefix}
use Rattle.history_summary.proofs.Writers.{sets_more}
use Rattle.history_summary.proofs.latest.set_writers.Goals as goal

pub loop-entry-preserved : goal.loop-entry-preserved
loop-entry-preserved c =
    subst (λ (ws : List (Cell × Value)). SetsWriters c.args.latest.now ws c.args.number c.set_writer.new.latest)
    (sym (next_prefix c.args.writes.now c.loop-entry.entry-index c.entry-item.result
    (slice_get_read c.args.writes.now (length c.args.writes.now) c.loop-entry.entry-index c.entry-item.result refl c.loop-entry-test.true c.entry-item.is)))
    (sets_more c.args.latest.now c.loop-entry.latest c.set_writer.new.latest (take c.loop-entry.entry-index c.args.writes.now) c.entry-item.result c.args.number
    c.loop-entry.invariant c.in_ok-set_writer.ensures)

pub returns : goal.returns
returns c =
    subst (λ (ws : List (Cell × Value)). SetsWriters c.args.latest.now ws c.args.number c.loop-entry.latest)
    (take_all c.loop-entry.entry-index c.args.writes.now (omega arith)) c.loop-entry.invariant
