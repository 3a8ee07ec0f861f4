use Rattle.std.proofs.Common.{◌<◌, ℕ, subst, sym}
use Rattle.std.specs.List.{All}
use Rattle.reach_rows.proofs.Carrying.{spreads}
use Rattle.reach_rows.proofs.carry.spread.Goals as goal

pub join_at-requires-clause-within : goal.join_at-requires-clause-within
join_at-requires-clause-within c =
    subst (λ (k : ℕ). All (λ n. n < k) c.args.gained.now) (sym c.carry_each.ensures.size) c.requires.gained

pub returns : goal.returns
returns c =
    spreads c.args.target c.args.gained.now c.args.rows.now c.carry_each.new.rows c.join_at.new.self c.carry_each.ensures c.join_at.ensures
