use Rattle.std.proofs.Common.{◌≤◌, arith, subst}
use Rattle.history_core.specs.Events.{begun}
use Rattle.history_core.specs.Chronicle.{Chronicle}
use Rattle.valid_writes.proofs.Legality.{offer_few}
use Rattle.valid_writes.proofs.Told.{if_ok}
use Rattle.valid_writes.proofs.choosing.offered.Goals as goal

pub returns-clause-few : goal.returns-clause-few
returns-clause-few c =
    let small = c.begun-begun.ensures.small in
    let number = c.begun-begun.ensures.number in
    let few : begun c.args.store.now.history.events ≤ 65535 =
    subst (λ (h : Chronicle). begun h.events ≤ 65535) c.history.ensures (omega arith) in
    if_ok _ _ c.offer.result (λ offer is. offer_few c.args.store.now.history.events c.args.session c.args.cell.now offer.items few is) c.offer.ensures.exact
