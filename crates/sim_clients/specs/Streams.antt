-- The bytes of a simulated client, and the words that are drawn for them.
use Rattle.std.specs.Prelude.{◌≡◌, ◌≤◌, ◌+◌, ◌*◌, ℕ, List, [], ◌∷◌, ◌++◌, codes, length}
use Rattle.std.specs.Int.{w32, to_be_bytes}
use Rattle.rand_chacha.specs.ChaCha.{ChaCha}
use Rattle.choice_stream.specs.Seeds.{Draws}
use Rattle.setup_client.specs.Client.{query_message}
use Rattle.sim_clients.specs.declared.query.Query.{Query}
use Rattle.sim_clients.specs.Queries.{text_of, query_of}

-- the startup message of version 3.0, whose user is `sim`
abbrev pub startup : List ℕ
startup = to_be_bytes w32 18 ++ (to_be_bytes w32 196608 ++ (codes "user" ++ 0 ∷ (codes "sim" ++ 0 ∷ 0 ∷ [])))

abbrev pub create_table : List ℕ
create_table = codes "CREATE TABLE t (k bigint PRIMARY KEY, v bigint)"

-- one message for each query, in order
abbrev pub messages : List Query → List ℕ
messages [] = []
messages (query ∷ queries) = query_message (text_of query) ++ messages queries

-- words of a generator, one after another, and the generator after them
abbrev pub DrawsAll : ChaCha → List ℕ → ChaCha → Type 0
DrawsAll before [] after = before ≡ after
DrawsAll before (word ∷ words) after = (between : ChaCha) × Draws before word between × DrawsAll between words after

-- the query that the next two words of a generator say
pub record DrawsQuery (before : ChaCha) (query : Query) (after : ChaCha) : Type 0 where
  pub first : ℕ
  pub second : ℕ
  pub between : ChaCha
  pub draws : Draws before first between
  pub more : Draws between second after
  pub is : query ≡ query_of first second

-- queries of a generator, one after another
abbrev pub DrawsQueries : ChaCha → List Query → ChaCha → Type 0
DrawsQueries before [] after = before ≡ after
DrawsQueries before (query ∷ queries) after = (between : ChaCha) × DrawsQuery before query between × DrawsQueries between queries after

-- so many words, the first of the generator
pub record AreFirst (front : ChaCha) (many : ℕ) (words : List ℕ) : Type 0 where
  pub rest : ChaCha
  pub draws : DrawsAll front words rest
  pub count : length words ≡ many

-- the messages of so many queries of the generator were written
pub record PutsQueries (many : ℕ) (before : ChaCha) (old : List ℕ) (after : ChaCha) (new : List ℕ) : Type 0 where
  pub queries : List Query
  pub draws : DrawsQueries before queries after
  pub count : length queries ≡ many
  pub bytes : new ≡ old ++ messages queries
  pub few : length new ≤ length old + 66 * many
