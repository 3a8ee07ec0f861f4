use Rattle.std.proofs.Common.{◌<◌, ℕ, subst, sym}
use Rattle.std.specs.List.{All}
use Rattle.reach_rows.proofs.Carrying.{carries_next}
use Rattle.reach_rows.proofs.carry.carry_each.Goals as goal

pub carry_at-requires-clause-gained : goal.carry_at-requires-clause-gained
carry_at-requires-clause-gained c =
    subst (λ (k : ℕ). All (λ n. n < k) c.args.gained.now) (sym c.loop-number.invariant.size) c.requires

pub loop-number-preserved : goal.loop-number-preserved
loop-number-preserved c =
    carries_next c.loop-number.number c.args.target c.args.gained.now c.args.rows.now c.loop-number.rows c.carry_at.new.rows
    c.loop-number.invariant c.carry_at.ensures
