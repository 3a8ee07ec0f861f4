use Rattle.history_core.proofs.Prefixes.{sound_of}
use Rattle.saturation.proofs.Readers.{forced_at}
use Rattle.saturation.proofs.pairs.add_reader.Goals as goal

pub returns : goal.returns
returns c =
    let links = rw c.deref.ensures.value at c.in_ok-add_links.ensures in
    let demands = rw c.deref-2.ensures.value at c.in_ok-add_demands.ensures in
    forced_at c.args.history.now.events c.args.reader c.txn-txn.result.now c.in_ok-marks.marks.items c.widen.new.marks.items
    c.args.edges.now.items c.add_links.new.edges.items c.add_demands.new.edges.items
    (sound_of c.args.history.now.initial c.args.history.now.events c.events-events.ensures.formed.formed) c.txn-txn.ensures c.in_ok-marks.ensures c.widen.ensures links demands
