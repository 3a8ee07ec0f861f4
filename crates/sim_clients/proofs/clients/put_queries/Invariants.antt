use Rattle.sim_clients.specs.Streams.{PutsQueries}
use Rattle.sim_clients.proofs.clients.put_queries.Given as goal

abbrev pub invariant-loop : goal.invariant-loop
invariant-loop l = PutsQueries l.counter l.initial.words l.initial.out.items l.words l.out.items
