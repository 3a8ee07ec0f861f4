use Rattle.right_logs.proofs.CompactLemmas.{taken_own}
use Rattle.right_logs.proofs.take.take_compact_own.Goals as goal

pub returns : goal.returns
returns c =
    taken_own c.args.places.now.at.items c.args.own c.cell-cell.result c.value-value.result c.args.pass.now c.take_own-goes.new.pass c.take_own-goes.result c.without.result
    c.cell-cell.ensures c.value-value.ensures c.without.ensures c.take_own-goes.ensures
