use Rattle.std.proofs.Common.{◌≡◌, List, ◌∷◌, length}
use Rattle.choice_stream.specs.Seeds.{stream_front}
use Rattle.session_hall.specs.declared.client.Client.{Client}
use Rattle.sim_clients.specs.Clients.{IsMaker, AreAskers}
use Rattle.sim_clients.proofs.clients.sim_clients.Given as goal

abbrev pub invariant-loop-at : goal.invariant-loop-at
invariant-loop-at l = record {
  some : (maker : Client) × (askers : List Client) × (l.clients.items ≡ maker ∷ askers) × IsMaker maker
      × (length askers ≡ l.at) × AreAskers l.seed l.queries 1 (stream_front l.seed 0) askers l.generator;
}
