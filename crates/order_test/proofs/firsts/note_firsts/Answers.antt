use Rattle.std.proofs.Common.{length, refl, arith, sym, subst}
use Rattle.std.proofs.lemmas.Option.{slice_get_read}
use Rattle.cell_base.specs.declared.cell.Cell.{Cell}
use Rattle.cell_base.specs.declared.value.Value.{Value}
use Rattle.order_test.specs.Firsts.{HasWritten}
use Rattle.order_test.proofs.FirstLemmas.{held_still, keeps_both, written_step}
use Rattle.order_test.proofs.firsts.note_firsts.Goals as goal

pub note_first-requires-clause-listed : goal.note_first-requires-clause-listed
note_first-requires-clause-listed c = held_still c.args.writers.now c.args.firsts.now c.loop-at.firsts c.loop-at.invariant.1 c.requires.listed

pub loop-at-preserved : goal.loop-at-preserved
loop-at-preserved c = (
  c.note_first.ensures.rising,
  keeps_both c.args.firsts.now c.loop-at.firsts c.note_first.new.firsts c.loop-at.invariant.1 c.note_first.ensures.kept,
  written_step c.loop-at.firsts c.note_first.new.firsts c.args.writes.now c.loop-at.at c.args.number c.index-writes-at.result
      (slice_get_read c.args.writes.now (length c.args.writes.now) c.loop-at.at c.index-writes-at.result refl c.loop-at-test.true c.index-writes-at.is)
      c.note_first.ensures.kept
      (subst (λ (e : Cell × Value). HasWritten c.note_first.new.firsts e.0 c.args.number) (sym c.index-writes-at.is) c.in_ok-note_first.ensures.noted) c.loop-at.invariant.2,
)

pub returns : goal.returns
returns c = record {
  rising = c.loop-at.invariant.0;
  kept = c.loop-at.invariant.1;
  noted = λ k entry below is. c.loop-at.invariant.2 k entry (let end = c.loop-at-test.false in omega arith) is;
}
