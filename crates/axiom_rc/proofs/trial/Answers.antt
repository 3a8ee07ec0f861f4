use Rattle.cell_base.specs.declared.level.Level.TheVariants.{Rc}
use Rattle.history_core.proofs.Prefixes.{start_positive}
use Rattle.history_core.proofs.Next.{pending_bounded}
use Rattle.axiom_rc.proofs.Reading.{sight_stays}
use Rattle.axiom_rc.proofs.trial.Goals as goal

pub sight-requires-clause-some : goal.sight-requires-clause-some
sight-requires-clause-some c =
    start_positive c.args.history.now.events c.args.reader c.requires.pending.0 c.requires.pending.1.start c.requires.pending.1.starts

pub sight-requires-clause-begun : goal.sight-requires-clause-begun
sight-requires-clause-begun c = pending_bounded c.args.history.now.events c.args.reader c.requires.pending.0 c.requires.pending.1

pub trial_by-requires-clause-before : goal.trial_by-requires-clause-before
trial_by-requires-clause-before c = (c.in_ok-sight.ensures 0).size

pub trial_by-requires-clause-after : goal.trial_by-requires-clause-after
trial_by-requires-clause-after c = (c.in_ok-sight.ensures 0).size

pub returns : goal.returns
returns c =
    c.in_ok-edges.ensures Rc c.in_ok-sight.ensures
    (sight_stays c.args.history.now.events c.args.reader c.args.cell.now c.args.source c.in_ok-sight.sight.since.items c.in_ok-sight.ensures)
