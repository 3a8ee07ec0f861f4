use Rattle.std.proofs.Common.{◌≡◌, ℕ, subst}
use Rattle.std.proofs.lemmas.Result.{on_ok_weaker}
use Rattle.saturation.specs.Pairs.{AddsPairs}
use Rattle.saturation.proofs.Steps.{demand_one}
use Rattle.saturation.proofs.demands.add_demand.Goals as goal

pub returns-then-is_demanded : goal.returns-then-is_demanded
returns-then-is_demanded c =
    on_ok_weaker c.add_edge.result
    (λ adds. demand_one c.args.history.now.events c.args.reader.now.level c.args.reader.now.seen c.args.marks.now c.args.seen.now c.args.writer
    c.args.edges.now.items c.add_edge.new.edges.items c.requires.some (c.is_demanded.ensures.0 c.if-is_demanded.true)
    (subst (λ (n : ℕ). AddsPairs (λ a b. (a ≡ c.args.writer) × (b ≡ n)) c.args.edges.now.items c.add_edge.new.edges.items) c.source.ensures adds))
    c.add_edge.ensures
