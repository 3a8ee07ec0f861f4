use Rattle.std.proofs.Common.{◌≡◌, ℕ, sym, ◌∙◌, subst}
use Rattle.std.specs.Prelude.{IfSome, IfNone}
use Rattle.order_test.specs.Sights.{origin_of}
use Rattle.cycle_report.specs.Views.{DemandsAt}
use Rattle.cycle_report.specs.Firsts.{IsFirstDemand}
use Rattle.cycle_report.proofs.DemandLemmas.{demand_source}
use Rattle.cycle_report.proofs.demands.demand_from.Goals as goal

pub returns-then-source-second-clause-none : goal.returns-then-source-second-clause-none
returns-then-source-second-clause-none c = λ demands.
    c.if-source-second.true
    (c.requires.source ∙ sym (demand_source c.args.level c.args.view.now.events.now c.args.place c.args.event.now c.args.first c.args.second c.requires.is demands))

pub returns-clause-some : goal.returns-clause-some
returns-clause-some c =
    let same : origin_of c.args.event.now ≡ c.args.second = sym c.requires.source ∙ c.if-source-second.false in
    subst (λ (b : ℕ). IfSome c.demanded_cell.result (λ cell. IsFirstDemand c.args.level c.args.view.now.events.now c.args.place cell.now c.args.first b)) same
    c.demanded_cell.ensures.some

pub returns-clause-none : goal.returns-clause-none
returns-clause-none c =
    let same : origin_of c.args.event.now ≡ c.args.second = sym c.requires.source ∙ c.if-source-second.false in
    subst (λ (b : ℕ). IfNone c.demanded_cell.result (DemandsAt c.args.level c.args.view.now.events.now c.args.place c.args.first b → ⊥)) same
    c.demanded_cell.ensures.none
