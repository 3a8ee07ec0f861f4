-- The clients of a simulation.
use Rattle.std.specs.Prelude.{◌≡◌, ◌+◌, ◌*◌, ℕ, List, [], ◌∷◌, ◌++◌, length}
use Rattle.rand_chacha.specs.ChaCha.{ChaCha}
use Rattle.choice_stream.specs.Seeds.{stream_front}
use Rattle.session_hall.specs.declared.client.Client.{Client}
use Rattle.setup_client.specs.Client.{query_message, terminate}
use Rattle.sim_clients.specs.declared.query.Query.{Query}
use Rattle.sim_clients.specs.Streams.{startup, create_table, messages, DrawsQueries, AreFirst}

-- a client that makes the table
pub record IsMaker (client : Client) : Type 0 where
  pub stream : client.stream.items ≡ startup ++ (query_message create_table ++ terminate)
  pub piece : client.piece ≡ length client.stream.items
  pub words : client.words.items ≡ []

-- The client of this number, from 1, sends the queries that are drawn from one generator to another, and its choice words are the first of its
-- own stream of the seed: four for each query.
pub record IsAsker (seed queries number : ℕ) (before : ChaCha) (client : Client) (after : ChaCha) : Type 0 where
  pub drawn : List Query
  pub draws : DrawsQueries before drawn after
  pub many : length drawn ≡ queries
  pub stream : client.stream.items ≡ startup ++ (messages drawn ++ terminate)
  pub piece : client.piece ≡ length client.stream.items
  pub words : AreFirst (stream_front seed number) (4 * queries) client.words.items

-- clients from this number on, whose queries are drawn in turn
abbrev pub AreAskers : ℕ → ℕ → ℕ → ChaCha → List Client → ChaCha → Type 0
AreAskers seed queries number before [] after = before ≡ after
AreAskers seed queries number before (client ∷ clients) after =
    (between : ChaCha) × IsAsker seed queries number before client between × AreAskers seed queries (number + 1) between clients after

-- the clients of a simulation: one that makes the table, and so many that send so many queries each, drawn from stream 0 of the seed
pub record AreClients (seed sessions queries : ℕ) (clients : List Client) : Type 0 where
  pub maker : Client
  pub askers : List Client
  pub is : clients ≡ maker ∷ askers
  pub first : IsMaker maker
  pub rest : ChaCha
  pub others : AreAskers seed queries 1 (stream_front seed 0) askers rest
  pub count : length askers ≡ sessions
