use Rattle.std.proofs.Common.{◌≡◌, Some, None, sym, ◌∙◌}
use Rattle.history_check.proofs.writers.owner_of.Goals as goal

pub unreachable-requires : goal.unreachable-requires
unreachable-requires c =
    let both : None ≡ Some c.requires.pending.0 = sym c.in-None.is ∙ (c.requires.owner c.requires.pending.0).1 c.requires.pending.1 in cc
