use Rattle.std.proofs.Common.{refl}
use Rattle.cycle_report.proofs.OwnerLemmas.{owners_none}
use Rattle.cycle_report.proofs.owners.no_owners.Goals as goal

pub returns : goal.returns
returns c =
    owners_none (record { last = c.in_ok-last.last; of_events = c.new-of_events.result; begun = 0 })
    (c.in_ok-last.ensures.items_if_clones_equal (λ y same. same)) c.new-of_events.ensures.items refl
