use Rattle.std.proofs.Common.{List, sym, subst}
use Rattle.std.specs.List.{All}
use Rattle.reach_rows.specs.declared.Star.{Star}
use Rattle.reach_rows.specs.Stars.{IsStarInRange}
use Rattle.reach_rows.proofs.reach.Reach.closes_cycle.Goals as goal

pub stars_close_cycle-requires : goal.stars_close_cycle-requires
stars_close_cycle-requires c =
    subst (λ (stars : List Star). All (IsStarInRange c.args.self.now.size) stars) (sym c.deref.ensures.value)
    (c.in_ok-stars.ensures.in_range c.args.self.now.size c.requires)
