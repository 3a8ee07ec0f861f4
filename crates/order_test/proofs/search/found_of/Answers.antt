use Rattle.std.proofs.Common.{arith, sym, ◌∙◌, refl, subst, ℕ}
use Rattle.std.proofs.lemmas.Bool.{false≢true}
use Rattle.order_test.specs.Unkept.{StandsBefore, IsReadEarly}
use Rattle.order_test.proofs.SearchLemmas.{reader_of, place_small, early_is, kept_is, first_axiom_is}
use Rattle.order_test.proofs.search.found_of.Goals as goal

pub is_late-requires-clause-second : goal.is_late-requires-clause-second
is_late-requires-clause-second c = (reader_of c.args.survey.now c.args.read.now c.requires.read).1

pub overflow_cast-result : goal.overflow_cast-result
overflow_cast-result c =
    let h = place_small c.args.survey.now.events.now c.args.read.now.place c.args.read.now.event.now c.args.read.now.reader c.requires.read in
    let few = c.requires.survey.few_events in omega arith

pub overflow_add-result : goal.overflow_add-result
overflow_add-result c =
    let h = place_small c.args.survey.now.events.now c.args.read.now.place c.args.read.now.event.now c.args.read.now.reader c.requires.read in
    let few = c.requires.survey.few_events in omega arith

pub returns-then-is_late : goal.returns-then-is_late
returns-then-is_late c = (
  refl,
  subst (λ (n : ℕ). IsReadEarly c.args.survey.now.events.now c.args.survey.now.order.now c.args.read.now.place n c.args.read.now.reader) (sym c.origin-from.ensures)
      (early_is c.args.survey.now.events.now c.args.survey.now.order.now c.args.read.now.place c.args.read.now.event.now c.args.read.now.reader c.requires.survey.holds c.requires.read
      c.requires.reading
      (subst (λ (n : ℕ). StandsBefore c.args.survey.now.order.now n c.args.read.now.reader → ⊥) c.origin-from.ensures (c.is_late.ensures.0 c.if-is_late.true))),
)

pub returns-in_ok-axiom-in-Some : goal.returns-in_ok-axiom-in-Some
returns-in_ok-axiom-in-Some c =
    first_axiom_is c.args.survey.now c.args.read.now c.in-Some.rival c.in_ok-axiom-in-Some.axiom c.requires.survey c.requires.read
    (λ late. false≢true (sym c.if-is_late.false ∙ c.is_late.ensures.1 (subst (λ (n : ℕ). StandsBefore c.args.survey.now.order.now n c.args.read.now.reader → ⊥) (sym c.origin-from.ensures) late)))
    c.in-Some.ensures.least c.in_ok-axiom-in-Some.ensures

pub returns-in-None : goal.returns-in-None
returns-in-None c =
    kept_is c.args.survey.now c.args.read.now c.requires.survey c.requires.read
    (λ late. false≢true (sym c.if-is_late.false ∙ c.is_late.ensures.1 (subst (λ (n : ℕ). StandsBefore c.args.survey.now.order.now n c.args.read.now.reader → ⊥) (sym c.origin-from.ensures) late)))
    c.in-None.ensures.none

pub returns-then-is_clear : goal.returns-then-is_clear
returns-then-is_clear c =
    kept_is c.args.survey.now c.args.read.now c.requires.survey c.requires.read
    (λ late. false≢true (sym c.if-is_late.false ∙ c.is_late.ensures.1 (subst (λ (n : ℕ). StandsBefore c.args.survey.now.order.now n c.args.read.now.reader → ⊥) (sym c.origin-from.ensures) late)))
    (c.is_clear.ensures c.if-is_clear.true)
