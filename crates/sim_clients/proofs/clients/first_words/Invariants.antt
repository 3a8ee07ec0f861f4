use Rattle.std.proofs.Common.{◌≡◌, length}
use Rattle.choice_stream.specs.Seeds.{stream_front}
use Rattle.sim_clients.specs.Streams.{DrawsAll}
use Rattle.sim_clients.proofs.clients.first_words.Given as goal

abbrev pub invariant-loop : goal.invariant-loop
invariant-loop l = record {
  draws : DrawsAll (stream_front l.seed l.stream) l.words.items l.generator;
  count : length l.words.items ≡ l.counter;
}
