-- The streams of the clients of a simulation have few bytes.
use Rattle.std.proofs.Common.{◌≡◌, ◌≤◌, ◌<◌, ◌+◌, ◌*◌, ◌/◌, ◌%◌, ◌==◌, Bool, true, false, cond, ℕ, zero, suc, List, [], ◌∷◌, ◌++◌, length, Some, ap, sym, subst, ◌∙◌, refl, arith, length-append}
use Rattle.std.specs.Prelude.{codes, slice_get}
use Rattle.std.specs.Fmt.{decimal}
use Rattle.std.specs.Int.{w32, to_be_bytes}
use Rattle.std.proofs.lemmas.Fmt.{length-decimal-le}
use Rattle.rand_chacha.specs.Block.{block_word}
use Rattle.rand_chacha.specs.ChaCha.{ChaCha}
use Rattle.choice_stream.specs.Seeds.{Draws}
use Rattle.session_hall.specs.declared.client.Client.{Client}
use Rattle.sim_clients.specs.declared.query.Query.{Query}
use Rattle.sim_clients.specs.declared.query.Action.{Action}
use Rattle.sim_clients.specs.declared.query.Action.TheVariants.{Insert, Increment, Select, Delete}
use Rattle.sim_clients.specs.Queries.{text_for, text_of, action_for}
use Rattle.setup_client.specs.Client.{query_message, terminate}
use Rattle.sim_clients.specs.Streams.{startup, create_table, messages, DrawsQuery, DrawsQueries}
use Rattle.sim_clients.specs.Clients.{IsMaker, AreAskers, AreClients}

-- ---- words

word_small : (n : ℕ) (key : List ℕ) (counter nonce k : ℕ) → block_word n key counter nonce k < 4294967296
unfolding block_word
word_small n key counter nonce k = omega arith

drawn_small : (before after : ChaCha) (word : ℕ) → Draws before word after → word < 4294967296
drawn_small before after word draws =
    let same = ap (λ (x : ℕ × ChaCha). x.0) draws in
    subst (λ (w : ℕ). w < 4294967296) same (word_small 10 before.key (before.word_pos / 16) before.stream (before.word_pos % 16))

digits_few : (n : ℕ) → n < 4294967296 → length (decimal n) ≤ 10
digits_few n small = length-decimal-le 10 n (omega arith) (omega (arith, small)) (omega (arith, small))

-- ---- texts

-- an inserted value is a word
abbrev IsSmall : Action → Type 0
IsSmall (Insert value) = value < 4294967296
IsSmall Increment = Unit {0}
IsSmall Select = Unit {0}
IsSmall Delete = Unit {0}

either_small : (b : Bool) (one other : Action) → IsSmall one → IsSmall other → IsSmall (cond b one other)
either_small true one other first second = first
either_small false one other first second = second

action_small : (value kind : ℕ) → value < 4294967296 → IsSmall (action_for value kind)
action_small value kind small =
    either_small (kind == 0) (Insert value) _ small (either_small (kind == 1) Increment _ tt (either_small (kind == 2) Select Delete tt tt))

text_few : (key : ℕ) (action : Action) → key < 4294967296 → IsSmall action → length (text_for key action) ≤ 60
text_few key (Insert value) small fits =
    let a : length (text_for key (Insert value)) ≡ length (codes "INSERT INTO t VALUES (") + length (decimal key ++ (codes ", " ++ (decimal value ++ codes ")"))) =
    length-append (codes "INSERT INTO t VALUES (") (decimal key ++ (codes ", " ++ (decimal value ++ codes ")"))) in
    let b = length-append (decimal key) (codes ", " ++ (decimal value ++ codes ")")) in
    let c = length-append (codes ", ") (decimal value ++ codes ")") in
    let d = length-append (decimal value) (codes ")") in
    let e : length (codes "INSERT INTO t VALUES (") ≡ 22 = refl in
    let f : length (codes ", ") ≡ 2 = refl in
    let g : length (codes ")") ≡ 1 = refl in
    omega (arith, a, b, c, d, e, f, g, digits_few key small, digits_few value fits)
text_few key Increment small fits =
    let a : length (text_for key Increment) ≡ length (codes "UPDATE t SET v = v + 1 WHERE k = ") + length (decimal key) =
    length-append (codes "UPDATE t SET v = v + 1 WHERE k = ") (decimal key) in
    let e : length (codes "UPDATE t SET v = v + 1 WHERE k = ") ≡ 33 = refl in
    omega (arith, a, e, digits_few key small)
text_few key Select small fits =
    let a : length (text_for key Select) ≡ length (codes "SELECT v FROM t WHERE k = ") + length (decimal key) =
    length-append (codes "SELECT v FROM t WHERE k = ") (decimal key) in
    let e : length (codes "SELECT v FROM t WHERE k = ") ≡ 26 = refl in
    omega (arith, a, e, digits_few key small)
text_few key Delete small fits =
    let a : length (text_for key Delete) ≡ length (codes "DELETE FROM t WHERE k = ") + length (decimal key) =
    length-append (codes "DELETE FROM t WHERE k = ") (decimal key) in
    let e : length (codes "DELETE FROM t WHERE k = ") ≡ 24 = refl in
    omega (arith, a, e, digits_few key small)

query_few : (before after : ChaCha) (query : Query) → DrawsQuery before query after → length (text_of query) ≤ 60
query_few before after query d =
    let small = drawn_small d.between after d.second d.more in
    subst (λ (q : Query). length (text_of q) ≤ 60) (sym d.is)
    (text_few (1 + d.first % 8) (action_for (d.second / 4) (d.second % 4)) (omega arith) (action_small (d.second / 4) (d.second % 4) (omega (arith, small))))

-- ---- messages

message_size : (text : List ℕ) → length (query_message text) ≡ 6 + length text
message_size text =
    let a = length-append (codes "Q") (to_be_bytes w32 (length text + 5) ++ (text ++ 0 ∷ [])) in
    let b = length-append (to_be_bytes w32 (length text + 5)) (text ++ 0 ∷ []) in
    let c = length-append text (0 ∷ []) in
    let e : length (codes "Q") ≡ 1 = refl in
    let f : length (to_be_bytes w32 (length text + 5)) ≡ 4 = refl in
    omega (arith, a, b, c, e, f)

messages_few : (queries : List Query) (before after : ChaCha) → DrawsQueries before queries after → length (messages queries) ≤ 66 * length queries
messages_few [] before after draws = omega arith
messages_few (query ∷ queries) before after draws =
    let a : length (messages (query ∷ queries)) ≡ length (query_message (text_of query)) + length (messages queries) =
    length-append (query_message (text_of query)) (messages queries) in
    omega (arith, a, message_size (text_of query), query_few before draws.0 query draws.1, messages_few queries draws.0 after draws.2)

startup_size : length startup ≡ 18
startup_size = refl

terminate_size : length terminate ≡ 5
terminate_size = refl

wrapped : (bytes : List ℕ) → length (startup ++ (bytes ++ terminate)) ≡ 23 + length bytes
wrapped bytes =
    let a = length-append startup (bytes ++ terminate) in
    let b = length-append bytes terminate in
    omega (arith, a, b, startup_size, terminate_size)

-- ---- clients

abbrev pub HasFewBytes : Client → Type 0
HasFewBytes client = length client.stream.items ≤ 14000

maker_few : (client : Client) → IsMaker client → HasFewBytes client
maker_few client is =
    let size : length create_table ≡ 47 = refl in
    let all : length client.stream.items ≡ 23 + length (query_message create_table) = ap length is.stream ∙ wrapped (query_message create_table) in
    omega (arith, size, all, message_size create_table)

askers_few : (seed queries number : ℕ) (clients : List Client) (before after : ChaCha) → queries ≤ 200 → AreAskers seed queries number before clients after →
    (k : ℕ) (client : Client) → slice_get clients k ≡ Some client → HasFewBytes client
askers_few seed queries number [] before after few are k client is = cc
askers_few seed queries number (first ∷ clients) before after few are zero client is =
    let asker = are.1 in
    let same : first ≡ client = cc in
    let all : length first.stream.items ≡ 23 + length (messages asker.drawn) = ap length asker.stream ∙ wrapped (messages asker.drawn) in
    subst HasFewBytes same (omega (arith, all, few, asker.many, messages_few asker.drawn before are.0 asker.draws))
askers_few seed queries number (first ∷ clients) before after few are (suc k) client is =
    askers_few seed queries (number + 1) clients are.0 after few are.2 k client is

all_few : (seed queries : ℕ) (maker : Client) (askers : List Client) (rest : ChaCha) (front : ChaCha) → queries ≤ 200 → IsMaker maker →
    AreAskers seed queries 1 front askers rest → (k : ℕ) (client : Client) → slice_get (maker ∷ askers) k ≡ Some client → HasFewBytes client
all_few seed queries maker askers rest front few makes are zero client is =
    let same : maker ≡ client = cc in subst HasFewBytes same (maker_few maker makes)
all_few seed queries maker askers rest front few makes are (suc k) client is = askers_few seed queries 1 askers front rest few are k client is

pub clients_few : (seed sessions queries : ℕ) (clients : List Client) → queries ≤ 200 → AreClients seed sessions queries clients →
    (k : ℕ) (client : Client) → slice_get clients k ≡ Some client → HasFewBytes client
clients_few seed sessions queries clients few are k client is =
    all_few seed queries are.maker are.askers are.rest _ few are.first are.others k client
    (subst (λ (cs : List Client). slice_get cs k ≡ Some client) are.is is)
