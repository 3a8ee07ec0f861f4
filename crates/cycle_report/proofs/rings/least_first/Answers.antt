use Rattle.std.proofs.Common.{◌<◌, length, arith}
use Rattle.std.proofs.lemmas.Option.{slice_get_within}
use Rattle.cycle_report.proofs.RingLemmas.{ring_turned, cycle_some}
use Rattle.cycle_report.proofs.rings.least_first.Goals as goal

pub least_at-least-requires : goal.least_at-least-requires
least_at-least-requires c = cycle_some c.args.edges.now c.args.cycle.now c.requires

pub turned-requires : goal.turned-requires
turned-requires c =
    let within : c.least_at-least.result < length c.args.cycle.now =
    slice_get_within c.args.cycle.now c.least_at-least.result c.least_at-least.ensures.edge c.least_at-least.ensures.is in omega arith

pub returns : goal.returns
returns c = rw c.in_ok-ring.ensures (ring_turned c.args.edges.now c.args.cycle.now c.least_at-least.result c.requires c.least_at-least.ensures)
