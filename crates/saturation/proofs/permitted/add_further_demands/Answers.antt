use Rattle.std.proofs.Common.{◌≡◌, ◌+◌, length, subst}
use Rattle.std.specs.Prelude.{OnOk}
use Rattle.history_core.specs.declared.txn.Seen.{Seen}
use Rattle.history_core.specs.declared.txn.Seen.TheVariants.{Read as SeenRead}
use Rattle.saturation.specs.Pairs.{AddsPairs, IsSeenDemand}
use Rattle.saturation.proofs.permitted.add_further_demands.Goals as goal

pub returns : goal.returns
returns c =
    let events = c.args.history.now.events in
    let reader = c.args.reader.now in
    let same : SeenRead c.next_number.result c.in_ok-copy.field-0 c.args.source ≡ SeenRead (length events + 1) c.args.cell.now c.args.source =
    cc (c.next_number.ensures, c.in_ok-copy.ensures) in
    subst (λ (y : Seen). OnOk c.add_seen_demands-added.result (AddsPairs (IsSeenDemand events reader.level reader.seen c.args.marks.now y) c.args.edges.now.items c.add_seen_demands-added.new.edges.items)) same
    c.add_seen_demands-added.ensures
