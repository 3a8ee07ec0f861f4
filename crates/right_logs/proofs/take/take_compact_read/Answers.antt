use Rattle.right_logs.proofs.CompactLemmas.{taken_read}
use Rattle.right_logs.proofs.take.take_compact_read.Goals as goal

pub returns : goal.returns
returns c =
    taken_read c.args.places.now.at.items c.args.read c.cell-cell.result c.value-value.result c.args.pass.now c.take_read-goes.new.pass c.take_read-goes.result c.without.result
    c.cell-cell.ensures c.value-value.ensures c.without.ensures c.take_read-goes.ensures
