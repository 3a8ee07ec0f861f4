-- Draws one after another, and what is made of them.
use Rattle.std.proofs.Common.{◌≡◌, ℕ, ◌+◌, ◌≤◌, List, [], ◌∷◌, ◌++◌, length, refl, sym, ◌∙◌, ap, subst, append_assoc, arith}
use Rattle.std.proofs.lemmas.List.{append-nil, length-append}
use Rattle.rand_chacha.specs.ChaCha.{ChaCha}
use Rattle.choice_stream.specs.Seeds.{Draws}
use Rattle.session_hall.specs.declared.client.Client.{Client}
use Rattle.setup_client.specs.Client.{query_message}
use Rattle.sim_clients.specs.declared.query.Query.{Query}
use Rattle.sim_clients.specs.Queries.{text_of}
use Rattle.sim_clients.specs.Streams.{messages, DrawsAll, DrawsQuery, DrawsQueries, PutsQueries}
use Rattle.sim_clients.specs.Clients.{IsAsker, AreAskers}

-- one more word
pub draws_more : (before between after : ChaCha) (words : List ℕ) (word : ℕ) → DrawsAll before words between → Draws between word after →
    DrawsAll before (words ++ word ∷ []) after
draws_more before between after [] word same draws = (after, subst (λ (g : ChaCha). Draws g word after) (sym same) draws, refl)
draws_more before between after (w ∷ words) word (g, first, rest) draws = (g, first, draws_more g between after words word rest draws)

queries_more : (before between after : ChaCha) (queries : List Query) (query : Query) → DrawsQueries before queries between →
    DrawsQuery between query after → DrawsQueries before (queries ++ query ∷ []) after
queries_more before between after [] query same draws = (after, subst (λ (g : ChaCha). DrawsQuery g query after) (sym same) draws, refl)
queries_more before between after (q ∷ queries) query (g, first, rest) draws = (g, first, queries_more g between after queries query rest draws)

messages_more : (queries : List Query) (query : Query) → messages (queries ++ query ∷ []) ≡ messages queries ++ query_message (text_of query)
messages_more [] query = append-nil (query_message (text_of query))
messages_more (q ∷ queries) query =
    ap (λ (more : List ℕ). query_message (text_of q) ++ more) (messages_more queries query)
    ∙ sym (append_assoc (query_message (text_of q)) (messages queries) (query_message (text_of query)))

-- no query yet
pub puts_none : (generator : ChaCha) (out : List ℕ) → PutsQueries 0 generator out generator out
puts_none generator out = record { queries = []; draws = refl; count = refl; bytes = sym (append-nil out); few = omega arith }

-- one more query
pub puts_more : (many : ℕ) (before between after : ChaCha) (old out new : List ℕ) (query : Query) → PutsQueries many before old between out →
    DrawsQuery between query after → new ≡ out ++ query_message (text_of query) → length new ≤ length out + 66 →
    PutsQueries (many + 1) before old after new
puts_more many before between after old out new query puts draws bytes few = record {
  queries = puts.queries ++ query ∷ [];
  draws = queries_more before between after puts.queries query puts.draws draws;
  count = length-append puts.queries (query ∷ []) ∙ ap (λ (n : ℕ). n + 1) puts.count;
  bytes = bytes ∙ ap (λ (bs : List ℕ). bs ++ query_message (text_of query)) puts.bytes
      ∙ append_assoc old (messages puts.queries) (query_message (text_of query))
      ∙ ap (λ (bs : List ℕ). old ++ bs) (sym (messages_more puts.queries query));
  few = let h = puts.few in omega arith;
}

-- one more client
pub askers_more : (seed queries number : ℕ) (before between after : ChaCha) (clients : List Client) (client : Client) →
    AreAskers seed queries number before clients between → IsAsker seed queries (number + length clients) between client after →
    AreAskers seed queries number before (clients ++ client ∷ []) after
askers_more seed queries number before between after [] client same is = (
  after,
  subst (λ (g : ChaCha). IsAsker seed queries number g client after) (sym same)
      (subst (λ (n : ℕ). IsAsker seed queries n between client after) (omega arith) is),
  refl,
)
askers_more seed queries number before between after (c ∷ clients) client (g, first, rest) is = (
  g,
  first,
  askers_more seed queries (number + 1) g between after clients client rest
      (subst (λ (n : ℕ). IsAsker seed queries n between client after) (omega arith) is),
)
