use Rattle.std.proofs.Common.{ℕ, not, ap, sym, ◌∙◌, subst}
use Rattle.std.proofs.lemmas.Bool.{false≢true}
use Rattle.std.proofs.lemmas.Result.{on_ok_weaker}
use Rattle.history_core.specs.Relations.{PrecedesCausally}
use Rattle.order_test.specs.Sights.{origin_of}
use Rattle.order_test.proofs.SearchLemmas.{some_of, none_of}
use Rattle.cycle_report.specs.Views.{IsNews}
use Rattle.cycle_report.proofs.PairSteps.{demand_one, demand_none}
use Rattle.cycle_report.proofs.pairs.add_demand.Goals as goal

pub returns-then-precedes_causally : goal.returns-then-precedes_causally
returns-then-precedes_causally c =
    let events = c.args.view.now.events.now in
    demand_none (IsNews c.args.level events c.args.place) c.args.writer (origin_of c.args.event.now) c.args.edges.now.items
    (λ news.
    news.apart (subst (λ (n : ℕ). PrecedesCausally events c.args.writer n) c.origin.ensures (c.precedes_causally.ensures.0 c.if-precedes_causally.true)))

pub returns-then-is_none : goal.returns-then-is_none
returns-then-is_none c =
    let none = none_of _ c.demanded_cell.result (c.is_none.ensures ∙ ap not c.if-is_none.true) c.demanded_cell.ensures.none in
    demand_none (IsNews c.args.level c.args.view.now.events.now c.args.place) c.args.writer (origin_of c.args.event.now) c.args.edges.now.items
    (λ news. none news.demands)

pub returns : goal.returns
returns c =
    let events = c.args.view.now.events.now in
    let found = some_of _ c.demanded_cell.result (c.is_none.ensures ∙ ap not c.if-is_none.false) c.demanded_cell.ensures.some in
    let news : IsNews c.args.level events c.args.place c.args.writer (origin_of c.args.event.now) = record {
      positive = c.requires.writer.0;
      apart = λ chain.
          false≢true (sym c.if-precedes_causally.false
          ∙ c.precedes_causally.ensures.1 (subst (λ (n : ℕ). PrecedesCausally events c.args.writer n) (sym c.origin.ensures) chain));
      demands = (found.0.now, found.1.is);
    }
    in
    on_ok_weaker c.add_edge.result
    (λ adds. demand_one (IsNews c.args.level events c.args.place) c.args.writer (origin_of c.args.event.now) c.origin-2.result c.args.edges.now.items
    c.add_edge.new.edges.items c.origin-2.ensures news adds)
    c.add_edge.ensures
