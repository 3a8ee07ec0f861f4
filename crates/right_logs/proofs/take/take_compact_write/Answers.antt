use Rattle.right_logs.proofs.CompactLemmas.{taken_write}
use Rattle.right_logs.proofs.take.take_compact_write.Goals as goal

pub returns : goal.returns
returns c =
    taken_write c.args.places.now.at.items c.args.write c.cell-cell.result c.value-value.result c.args.pass.now c.take_write-goes.new.pass c.take_write-goes.result c.without.result
    c.cell-cell.ensures c.value-value.ensures c.without.ensures c.take_write-goes.ensures
