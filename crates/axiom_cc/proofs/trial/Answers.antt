use Rattle.std.proofs.Common.{◌<◌, ◌+◌, arith}
use Rattle.cell_base.specs.declared.level.Level.TheVariants.{Cc}
use Rattle.history_core.specs.Events.{begun}
use Rattle.history_core.proofs.Offers.{writer_bounded}
use Rattle.history_core.proofs.Next.{pending_bounded}
use Rattle.axiom_base.proofs.Views.{sight_with_size}
use Rattle.axiom_cc.proofs.trial.Goals as goal

pub sight-requires : goal.sight-requires
sight-requires c = pending_bounded c.args.history.now.events c.args.reader c.requires.pending.0 c.requires.pending.1

pub sight_with-requires-clause-reader : goal.sight_with-requires-clause-reader
sight_with-requires-clause-reader c = pending_bounded c.args.history.now.events c.args.reader c.requires.pending.0 c.requires.pending.1

pub sight_with-requires-clause-source : goal.sight_with-requires-clause-source
sight_with-requires-clause-source c =
    let small : c.args.source < begun c.args.history.now.events + 1 = writer_bounded c.args.history.now.events c.args.source c.args.cell.now c.requires.writes in
    omega arith

pub trial_by-requires-clause-before : goal.trial_by-requires-clause-before
trial_by-requires-clause-before c = (c.in_ok-before.ensures 0).size

pub trial_by-requires-clause-after : goal.trial_by-requires-clause-after
trial_by-requires-clause-after c =
    sight_with_size Cc c.args.history.now.events c.requires.pending.0 c.args.reader c.args.cell.now c.args.source c.in_ok-after.after.since.items
    c.requires.pending.1 (c.in_ok-after.ensures c.args.cell.now)

pub returns : goal.returns
returns c = c.in_ok-edges.ensures Cc c.in_ok-before.ensures (c.in_ok-after.ensures c.args.cell.now)
