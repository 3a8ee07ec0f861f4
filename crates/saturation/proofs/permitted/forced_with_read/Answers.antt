use Rattle.std.proofs.Common.{◌+◌, ◌<◌, arith}
use Rattle.history_core.specs.Events.{begun}
use Rattle.history_core.proofs.Prefixes.{sound_of}
use Rattle.history_core.proofs.Offers.{writer_bounded}
use Rattle.history_core.proofs.Next.{pending_bounded}
use Rattle.saturation.proofs.Readers.{list_then}
use Rattle.saturation.proofs.permitted.forced_with_read.Goals as goal

pub txn-txn-requires-clause-begun : goal.txn-txn-requires-clause-begun
txn-txn-requires-clause-begun c = pending_bounded c.args.history.now.events c.args.reader c.args.session c.requires.pending

pub predecessors-requires : goal.predecessors-requires
predecessors-requires c = pending_bounded c.args.history.now.events c.args.reader c.args.session c.requires.pending

pub index_mut-requires : goal.index_mut-requires
index_mut-requires c =
    let small : c.args.source < begun c.args.history.now.events + 1 = writer_bounded c.args.history.now.events c.args.source c.args.cell.now c.requires.writes in
    let size = c.in_ok-marks.ensures.size in
    let own = c.in_ok-marks.marks.ok in
    omega arith

pub returns-clause-pairs : goal.returns-clause-pairs
returns-clause-pairs c =
    let events = c.args.history.now.events in
    let txn = c.txn-txn.result.now in
    let marks = c.widen.new.marks.items in
    let added = rw c.deref.ensures.value at c.in_ok-edges.ensures in
    list_then events c.args.session c.args.reader c.args.cell.now c.args.source txn c.in_ok-marks.marks.items marks
    c.args.forced.now.edges.items c.in_ok-edges.edges.items
    (sound_of c.args.history.now.initial events c.events-events.ensures.formed.formed) c.requires.pending c.requires.writes
    (pending_bounded events c.args.reader c.args.session c.requires.pending) c.txn-txn.ensures c.in_ok-marks.ensures c.widen.ensures c.requires.forced added
