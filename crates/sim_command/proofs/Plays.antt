-- Steps one after another.
use Rattle.std.proofs.Common.{◌≡◌, ◌==◌, ◌⊎◌, inr, true, false, ℕ, zero, suc, All, ◌+◌, ◌<◌, ◌%◌, List, [], ◌∷◌, ◌++◌, ◌≤◌, get_or, length, refl, sym, ◌∙◌, ap, subst, arith, Option, Some, Ok, append_assoc}
use Rattle.std.specs.List.{slice_get}
use Rattle.std.proofs.lemmas.List.{append-nil, length-append}
use Rattle.std.proofs.lemmas.List.Elements.{All-push}
use Rattle.std.proofs.lemmas.Bool.{ne_eqb}
use Rattle.cell_base.specs.declared.level.Level.{Level}
use Rattle.rand_chacha.specs.ChaCha.{ChaCha}
use Rattle.choice_stream.specs.Seeds.{Draws, stream_front}
use Rattle.sim_clients.specs.Streams.{startup, create_table, messages}
use Rattle.sim_clients.specs.Clients.{AreClients, AreAskers}
use Rattle.session_hall.specs.declared.client.Client.{Client}
use Rattle.history_core.specs.Chronicle.{Chronicle}
use Rattle.session_core.specs.Serve.{Account}
use Rattle.session_hall.specs.declared.client.Stepped.{Stepped}
use Rattle.session_hall.specs.declared.client.Stepped.TheVariants.{Called, Ended}
use Rattle.session_hall.specs.declared.hall.Hall.{Hall}
use Rattle.session_hall.specs.Halls.{StandsFor, IsStep, clients_of}
use Rattle.setup_client.specs.Client.{query_message, terminate}
use Rattle.sim_command.specs.Runs.{Moment, Pick, Moves, Runs}
use Rattle.sim_command.specs.Simulations.{going_after, DrawsTo, AreDrawn, AreDrawnFirst, GoesOn, GoesToEnd, IsSchedule, IsFront, numbers_from}
use Rattle.sim_command.specs.Playing.{StandsAt, Plays, Goes, IsStepOf, IsPicked, AreNone}
use Rattle.sim_command.proofs.Steps.{step_moves, within}

-- runs one after another
pub runs_on : (level : Level) (clients : List Client) (before between after : Moment) (picks more : List Pick) → Runs level clients before picks between →
    Runs level clients between more after → Runs level clients before (picks ++ more) after
runs_on level clients before between after [] more same runs = subst (λ (m : Moment). Runs level clients m more after) (sym same) runs
runs_on level clients before between after (pick ∷ picks) more (m, moves, rest) runs =
    (m, moves, runs_on level clients m between after picks more rest runs)

-- draws one after another
pub draws_on : (g h k : ChaCha) (going left rest : List ℕ) (picks more : List Pick) → DrawsTo g going picks h left → DrawsTo h left more k rest →
    DrawsTo g going (picks ++ more) k rest
draws_on g h k going left rest [] more (same, is) draws =
    subst (λ (x : ChaCha). DrawsTo x going more k rest) (sym same) (subst (λ (xs : List ℕ). DrawsTo h xs more k rest) (sym is) draws)
draws_on g h k going left rest (pick ∷ picks) more (word, next, first, picked, on) draws =
    (word, next, first, picked, draws_on next h k (going_after pick.stepped (word % length going) going) left rest picks more on draws)

-- no step
pub plays_none : (P : List Pick → Type 0) → P [] → (left : ℕ) (hall : Hall) → Goes P left hall left hall
plays_none P holds left hall level clients before stands =
    record { picks = []; after = before; runs = refl; stands = stands; count = omega arith; holds = holds }

-- steps, and then others
pub plays_on : (P Q R : List Pick → Type 0) → ((picks more : List Pick) → P picks → Q more → R (picks ++ more)) → (left between rest : ℕ)
    (old middle new : Hall) → Goes P left old between middle → Goes Q between middle rest new → Goes R left old rest new
plays_on P Q R both left between rest old middle new first second level clients before stands =
    let p = first level clients before stands in
    let q = second level clients p.after p.stands in
    let lengths = length-append p.picks q.picks in
    let one = p.count in
    let two = q.count in
    record {
      picks = p.picks ++ q.picks;
      after = q.after;
      runs = runs_on level clients before p.after q.after p.picks q.picks p.runs q.runs;
      stands = q.stands;
      count = omega (arith, lengths, one, two);
      holds = both p.picks q.picks p.holds q.holds;
    }

-- steps of which less is said
pub plays_less : (P Q : List Pick → Type 0) → ((picks : List Pick) → P picks → Q picks) → (left rest : ℕ) (old new : Hall) → Goes P left old rest new →
    Goes Q left old rest new
plays_less P Q weaker left rest old new goes level clients before stands =
    let p = goes level clients before stands in
    record { picks = p.picks; after = p.after; runs = p.runs; stands = p.stands; count = p.count; holds = weaker p.picks p.holds }

-- one step
pub plays_one : (left rest : ℕ) (old new : Hall) (client : ℕ) (stepped : Stepped) → rest + 1 ≡ left → client < clients_of old →
    ((level : Level) (history : Chronicle) (clients : List Client) (accounts : ℕ → Account) → StandsFor level history clients accounts old →
    IsStep clients accounts history client (Ok stepped) level new) → Goes (IsStepOf client stepped) left old rest new
plays_one left rest old new client stepped count small step level clients before stands =
    let moved =
    step_moves level clients before client stepped new (within level clients before old client stands small)
    (step level before.history clients before.accounts stands) in
    let pick : Pick = record { client = client; stepped = stepped } in
    record {
      picks = pick ∷ [];
      after = moved.after;
      runs = (moved.after, moved.moves, refl);
      stands = moved.stands;
      count = omega (arith, count);
      holds = refl;
    }

-- the client has gone on so far, and goes on
pub goes_on : (client : ℕ) (picks more : List Pick) → GoesOn client picks → IsStepOf client Called more → GoesOn client (picks ++ more)
goes_on client picks more all is =
    subst (λ (ps : List Pick). GoesOn client (picks ++ ps)) (sym is)
    (All-push (λ pick. pick ≡ record { client = client; stepped = Called }) picks (record { client = client; stepped = Called }) all refl)

-- and ends
pub ends : (client : ℕ) (picks more : List Pick) → GoesOn client picks → IsStepOf client Ended more → GoesToEnd client (picks ++ more)
ends client picks more all is = record { before = picks; is = ap (λ (ps : List Pick). picks ++ ps) is; going = all }

-- the next that is picked
pub draws_next : (g h k : ChaCha) (going left rest : List ℕ) (word : ℕ) → Draws h word k → (picks more : List Pick) → DrawsTo g going picks h left →
    IsPicked word left rest more → DrawsTo g going (picks ++ more) k rest
draws_next g h k going left rest word draws picks more before picked =
    draws_on g h k going left rest picks more before
    (subst (λ (ps : List Pick). DrawsTo h left ps k rest) (sym picked.is) (word, k, draws, picked.picked, (refl, sym picked.left_is)))

-- one number more
pub numbers_more : (first many : ℕ) → numbers_from first (suc many) ≡ numbers_from first many ++ (first + many) ∷ []
numbers_more first zero = ap (λ (n : ℕ). n ∷ []) (omega arith)
numbers_more first (suc many) =
    ap (λ (ns : List ℕ). first ∷ ns)
    (numbers_more (suc first) many ∙ ap (λ (n : ℕ). numbers_from (suc first) many ++ n ∷ []) (omega arith))

pub none_left : (xs : List ℕ) (n : ℕ) → n ≡ length xs → true ≡ (n == 0) → xs ≡ []
none_left [] n is h = refl
none_left (x ∷ xs) n is h = let f : true ≡ false = h ∙ ne_eqb n 0 (λ e. omega (arith, e, is)) in absurd (cc)

-- both parts of a schedule
pub schedules : (seed sessions : ℕ) (going : List ℕ) → going ≡ numbers_from 1 sessions → (front : ChaCha) → front ≡ stream_front seed 65 →
    (makes asks : List Pick) → GoesToEnd 0 makes → AreDrawn front going asks → IsSchedule seed sessions (makes ++ asks)
schedules seed sessions going are front is makes asks maker drawn = record {
  makes = makes;
  asks = asks;
  is = refl;
  maker = maker;
  drawn = subst (λ (g : ChaCha). AreDrawn g (numbers_from 1 sessions) asks) is (subst (λ (ns : List ℕ). AreDrawn front ns asks) are drawn);
}

-- the numbers from one on, so many, are below their end
pub numbers_below : (first many bound : ℕ) → first + many ≤ bound → All (λ k. k < bound) (numbers_from first many)
numbers_below first zero bound within = λ k d h. absurd (omega (arith, h))
numbers_below first (suc many) bound within = at first (numbers_from (suc first) many) bound (omega (arith, within))
    (numbers_below (suc first) many bound (omega (arith, within)))
  where
    at : (n : ℕ) (ns : List ℕ) (most : ℕ) → n < most → All (λ k. k < most) ns → All (λ k. k < most) (n ∷ ns)
    at n ns most small all zero d h = small
    at n ns most small all (suc k) d h = all k d (omega (arith, h))

-- as many clients as sessions, and one
pub clients_count : (seed sessions queries : ℕ) (clients : List Client) → AreClients seed sessions queries clients → length clients ≡ sessions + 1
clients_count seed sessions queries clients are = ap length are.is ∙ ap suc are.count ∙ omega arith

-- each client has a piece
has_piece : (c : Client) (rest : List ℕ) → c.stream.items ≡ startup ++ rest → c.piece ≡ length c.stream.items → 0 < c.piece
has_piece c rest stream piece =
    let long : length c.stream.items ≡ length (startup ++ rest) = ap length stream in
    omega (arith, piece, long, length-append startup rest)

one_more : (c : Client) (clients : List Client) → 0 < c.piece → All (λ (x : Client). 0 < x.piece) clients → All (λ (x : Client). 0 < x.piece) (c ∷ clients)
one_more c clients first all zero d h = first
one_more c clients first all (suc k) d h = all k d (omega (arith, h))

askers_have_pieces : (seed queries number : ℕ) (before after : ChaCha) (clients : List Client) → AreAskers seed queries number before clients after →
    All (λ (c : Client). 0 < c.piece) clients
askers_have_pieces seed queries number before after [] are = λ k d h. absurd (omega (arith, h))
askers_have_pieces seed queries number before after (c ∷ clients) (between, is, rest) =
    one_more c clients (has_piece c (messages is.drawn ++ terminate) is.stream is.piece)
    (askers_have_pieces seed queries (number + 1) between after clients rest)

pub pieces : (seed sessions queries : ℕ) (clients : List Client) → AreClients seed sessions queries clients → All (λ (c : Client). 0 < c.piece) clients
pieces seed sessions queries clients are =
    subst (λ (cs : List Client). All (λ (c : Client). 0 < c.piece) cs) (sym are.is)
    (one_more are.maker are.askers (has_piece are.maker (query_message create_table ++ terminate) are.first.stream are.first.piece)
    (askers_have_pieces seed queries 1 (stream_front seed 0) are.rest are.askers are.others))

-- the history of a hall is one
pub same_history : (store : Option Chronicle) (a b : Chronicle) → store ≡ Some a → store ≡ Some b → a ≡ b
same_history store a b first second = let both : Some a ≡ Some b = sym first ∙ second in cc

-- what holds of steps holds of them with none after them
pub with_none : (P : List Pick → Type 0) (picks more : List Pick) → P picks → AreNone more → P (picks ++ more)
with_none P picks more holds none = subst P (sym (ap (λ (ps : List Pick). picks ++ ps) none ∙ append-nil picks)) holds

-- a front whose draws go on
pub fronts : (seed sessions : ℕ) (going : List ℕ) → going ≡ numbers_from 1 sessions → (front : ChaCha) → front ≡ stream_front seed 65 →
    (makes asks : List Pick) → GoesToEnd 0 makes → AreDrawnFirst front going asks → IsFront seed sessions (makes ++ asks)
fronts seed sessions going are front is makes asks maker drawn = inr (
  makes,
  asks,
  refl,
  maker,
  subst (λ (g : ChaCha). AreDrawnFirst g (numbers_from 1 sessions) asks) is (subst (λ (ns : List ℕ). AreDrawnFirst front ns asks) are drawn),
)
