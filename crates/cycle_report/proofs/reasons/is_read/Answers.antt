use Rattle.std.proofs.Common.{ℕ, sym, ◌∙◌, subst, eq-eqb}
use Rattle.std.proofs.lemmas.Bool.{false≢true, eqb-true}
use Rattle.history_core.specs.Transactions.{IsOf}
use Rattle.order_test.proofs.SearchLemmas.{one_reader}
use Rattle.cycle_report.proofs.DemandLemmas.{source_at}
use Rattle.cycle_report.proofs.reasons.is_read.Goals as goal

pub returns-then-from-source : goal.returns-then-from-source
returns-then-from-source c = (
  λ h. absurd (false≢true h),
  λ read.
      absurd (c.if-from-source.true
      (c.requires.from ∙ sym (source_at c.args.view.now.events.now c.args.place c.args.event.now c.args.source c.args.reader c.requires.is read))),
)

pub returns : goal.returns
returns c =
    let events = c.args.view.now.events.now in
    let own = c.reader_at-own.result in (
      λ h. record {
        event = c.args.event.now;
        of_reader = subst (λ (n : ℕ). IsOf events n c.args.place c.args.event.now) (eqb-true own c.args.reader h) c.reader_at-own.ensures.of;
        reading = c.requires.reading;
        source_is = sym c.if-from-source.false ∙ c.requires.from;
      },
      λ read.
          eq-eqb own c.args.reader
          (one_reader events c.requires.view.orderly own c.args.reader c.args.place c.args.event.now read.event c.reader_at-own.ensures.of read.of_reader).1,
    )
