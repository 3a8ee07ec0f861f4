use Rattle.std.proofs.Common.{sym, ◌∙◌, refl, subst, ℕ}
use Rattle.std.proofs.lemmas.Bool.{false≢true}
use Rattle.order_test.specs.Unkept.{StandsBefore}
use Rattle.order_test.specs.Sights.{origin_of}
use Rattle.order_test.proofs.SearchLemmas.{reader_of, early_is, kept_is}
use Rattle.order_test.proofs.search.read_is_kept.Goals as goal

pub is_late-requires-clause-second : goal.is_late-requires-clause-second
is_late-requires-clause-second c = (reader_of c.args.survey.now c.args.read.now c.requires.read).1

pub returns-then-is_late : goal.returns-then-is_late
returns-then-is_late c = (
  λ h. absurd (false≢true h),
  λ kept.
      absurd (kept.reads (origin_of c.args.read.now.event.now) c.args.read.now.reader
      (early_is c.args.survey.now.events.now c.args.survey.now.order.now c.args.read.now.place c.args.read.now.event.now c.args.read.now.reader c.requires.survey.holds c.requires.read
      c.requires.reading
      (subst (λ (n : ℕ). StandsBefore c.args.survey.now.order.now n c.args.read.now.reader → ⊥) c.origin-from.ensures (c.is_late.ensures.0 c.if-is_late.true)))),
)

pub returns-then-is_clear : goal.returns-then-is_clear
returns-then-is_clear c = (
  λ h.
      kept_is c.args.survey.now c.args.read.now c.requires.survey c.requires.read
      (λ late. false≢true (sym c.if-is_late.false ∙ c.is_late.ensures.1 (subst (λ (n : ℕ). StandsBefore c.args.survey.now.order.now n c.args.read.now.reader → ⊥) (sym c.origin-from.ensures) late)))
      (c.is_clear.ensures c.if-is_clear.true),
  λ kept. refl,
)

pub returns-in-Some : goal.returns-in-Some
returns-in-Some c = (
  λ h. absurd (false≢true h),
  λ kept.
      absurd (kept.sights (origin_of c.args.read.now.event.now) c.in-Some._rival c.args.read.now.reader c.in-Some.ensures.is.0 c.in-Some.ensures.is.1),
)

pub returns-in-None : goal.returns-in-None
returns-in-None c = (
  λ h.
      kept_is c.args.survey.now c.args.read.now c.requires.survey c.requires.read
      (λ late. false≢true (sym c.if-is_late.false ∙ c.is_late.ensures.1 (subst (λ (n : ℕ). StandsBefore c.args.survey.now.order.now n c.args.read.now.reader → ⊥) (sym c.origin-from.ensures) late)))
      c.in-None.ensures.none,
  λ kept. refl,
)
