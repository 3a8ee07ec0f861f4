use Rattle.axiom_base.proofs.Views.{visible_list}
use Rattle.cell_base.specs.declared.level.Level.TheVariants.{Cc}
use Rattle.axiom_cc.proofs.visible.Goals as goal

pub visible_by-requires : goal.visible_by-requires
visible_by-requires c = (c.in_ok-sight.ensures 0).size

pub returns : goal.returns
returns c =
    visible_list Cc c.args.history.now.events c.args.reader c.args.place c.in_ok-sight.sight.since.items c.in_ok-writers.writers.items
    c.in_ok-sight.ensures c.in_ok-writers.ensures
