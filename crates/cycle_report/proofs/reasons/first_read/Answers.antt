use Rattle.std.proofs.Common.{refl, arith, sym, ◌∙◌}
use Rattle.std.proofs.lemmas.Bool.{false≢true}
use Rattle.cycle_report.proofs.ReasonLemmas.{no_read_step, no_read_all}
use Rattle.cycle_report.proofs.reasons.first_read.Goals as goal

pub loop-place-init : goal.loop-place-init
loop-place-init c = λ earlier below read. absurd (omega arith)

pub returns-then-reads_at-clause-some : goal.returns-then-reads_at-clause-some
returns-then-reads_at-clause-some c =
    record { place = c.loop-place.place; number_is = refl; is = c.reads_at.ensures.0 c.if-reads_at.true; none_before = c.loop-place.invariant }

pub loop-place-preserved : goal.loop-place-preserved
loop-place-preserved c =
    no_read_step c.args.view.now.events.now c.args.source c.args.reader c.loop-place.place
    (λ read. false≢true (sym c.if-reads_at.false ∙ c.reads_at.ensures.1 read)) c.loop-place.invariant

pub returns-clause-none : goal.returns-clause-none
returns-clause-none c = λ place read.
    no_read_all c.args.view.now.events.now c.args.source c.args.reader c.loop-place.place c.loop-place-test.false c.loop-place.invariant place read
