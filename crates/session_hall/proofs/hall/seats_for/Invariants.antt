use Rattle.std.proofs.Common.{◌≡◌, ◌<◌, List, ◌++◌}
use Rattle.std.specs.Prelude.{All}
use Rattle.std.specs.Vec.Iter.{into_iter_items}
use Rattle.session_hall.specs.declared.client.Client.{Client}
use Rattle.session_hall.specs.Halls.{AreSeated}
use Rattle.session_hall.proofs.hall.seats_for.Given as goal

abbrev pub invariant-loop-client : goal.invariant-loop-client
invariant-loop-client l = record {
  pieces : All (λ (c : Client). 0 < c.piece) (into_iter_items l.client-iterator);
  seated : (done : List Client) × (done ++ into_iter_items l.client-iterator ≡ l.fn.clients.items) × AreSeated l.level done l.seats.items;
}
