-- A run of clients with streams of few bytes has few steps.
use Rattle.std.proofs.Common.{◌≡◌, ◌≤◌, ◌<◌, ◌+◌, ◌%◌, inl, inr, ℕ, zero, suc, List, [], ◌∷◌, ◌++◌, length, Option, Some, Ok, ap, sym, subst, ◌∙◌, refl, arith, length-append}
use Rattle.std.specs.Prelude.{slice_get}
use Rattle.std.proofs.lemmas.Bool.{cases_eq}
use Rattle.std.proofs.lemmas.List.Edits.{length-remove}
use Rattle.std.proofs.lemmas.List.Elements.{All-head, All-tail}
use Rattle.std.proofs.lemmas.Option.{slice_get_within}
use Rattle.rand_chacha.specs.ChaCha.{ChaCha}
use Rattle.choice_stream.specs.Seeds.{stream_front}
use Rattle.cell_base.specs.declared.level.Level.{Level}
use Rattle.history_core.specs.declared.event.Event.{Event}
use Rattle.block_machine.specs.Script.{Entry, did, refused, short, unsent, stop}
use Rattle.block_machine.specs.declared.end.End.{End}
use Rattle.session_core.specs.Record.{events_of}
use Rattle.session_core.specs.Serve.{Account}
use Rattle.session_hall.specs.declared.client.Client.{Client}
use Rattle.session_hall.specs.declared.client.Stepped.{Stepped}
use Rattle.session_hall.specs.declared.client.Stepped.TheVariants.{Called, Ended}
use Rattle.session_hall.specs.Halls.{IsAnswer}
use Rattle.sim_command.specs.Runs.{Moment, Pick, Moves, Runs, at_first}
use Rattle.sim_command.specs.Simulations.{GoesOn, GoesToEnd, going_after, DrawsTo, numbers_from, IsFront}
use Rattle.program_laws.specs.Ending.{SimulationsEnd}
use Rattle.program_laws.proofs.Sums.{sum_to, sum_change, sum_below, sum_none}
use Rattle.program_laws.proofs.Streams.{HasFewBytes, clients_few}
use Rattle.program_laws.proofs.Loads.{plain_in, plain-append, legal_few}
use Rattle.program_laws.proofs.Accounts.{IsModest, served_modest}

-- ---- picks

abbrev with_called : Stepped → ℕ → ℕ
with_called Called n = suc n
with_called Ended n = n

abbrev with_ended : Stepped → ℕ → ℕ
with_ended Called n = n
with_ended Ended n = suc n

-- the steps that go on, and those that are ends
abbrev called_in : List Pick → ℕ
called_in [] = 0
called_in (pick ∷ picks) = with_called pick.stepped (called_in picks)

abbrev ended_in : List Pick → ℕ
ended_in [] = 0
ended_in (pick ∷ picks) = with_ended pick.stepped (ended_in picks)

one_of_both : (s : Stepped) (m n : ℕ) → with_called s m + with_ended s n ≡ 1 + (m + n)
one_of_both Called m n = omega arith
one_of_both Ended m n = omega arith

all_picks : (picks : List Pick) → length picks ≡ called_in picks + ended_in picks
all_picks [] = omega arith
all_picks (pick ∷ picks) = omega (arith, all_picks picks, one_of_both pick.stepped (called_in picks) (ended_in picks))

with_ended_plus : (s : Stepped) (m n : ℕ) → with_ended s (m + n) ≡ with_ended s m + n
with_ended_plus Called m n = refl
with_ended_plus Ended m n = omega arith

ended-append : (before after : List Pick) → ended_in (before ++ after) ≡ ended_in before + ended_in after
ended-append [] after = omega arith
ended-append (pick ∷ before) after =
    ap (with_ended pick.stepped) (ended-append before after) ∙ with_ended_plus pick.stepped (ended_in before) (ended_in after)

-- ---- ends in a schedule

none_end : (client : ℕ) (picks : List Pick) → GoesOn client picks → ended_in picks ≡ 0
none_end client [] on = omega arith
none_end client (pick ∷ picks) on =
    let first : pick ≡ record { client = client; stepped = Called } = All-head (λ (p : Pick). p ≡ record { client = client; stepped = Called }) pick picks on in
    let rest = none_end client picks (All-tail (λ (p : Pick). p ≡ record { client = client; stepped = Called }) pick picks on) in
    ap (λ (p : Pick). with_ended p.stepped (ended_in picks)) first ∙ rest

one_end : (client : ℕ) (picks : List Pick) → GoesToEnd client picks → ended_in picks ≡ 1
one_end client picks goes =
    let last : ended_in (goes.before ++ record { client = client; stepped = Ended } ∷ []) ≡ ended_in goes.before + 1 =
    ended-append goes.before (record { client = client; stepped = Ended } ∷ []) in
    let same : ended_in picks ≡ ended_in (goes.before ++ record { client = client; stepped = Ended } ∷ []) = ap ended_in goes.is in
    omega (arith, last, same, none_end client goes.before goes.going)

-- who has ended goes on no more
left_after : (s : Stepped) (at : ℕ) (going : List ℕ) (n : ℕ) → at < length going → length (going_after s at going) + with_ended s n ≡ length going + n
left_after Called at going n within = refl
left_after Ended at going n within = omega (arith, length-remove going at within)

drawn_ends : (generator : ChaCha) (going : List ℕ) (picks : List Pick) (rest : ChaCha) (left : List ℕ) → DrawsTo generator going picks rest left →
    length left + ended_in picks ≡ length going
drawn_ends generator going [] rest left draws = let same : length going ≡ length left = ap length draws.1 in omega (arith, same)
drawn_ends generator going (pick ∷ picks) rest left draws =
    let word : ℕ = draws.0 in
    let within = slice_get_within going (word % length going) pick.client draws.3 in
    let more = drawn_ends draws.1 (going_after pick.stepped (word % length going) going) picks rest left draws.4 in
    omega (arith, more, left_after pick.stepped (word % length going) going 0 within, ended_one pick.stepped (ended_in picks))
  where
    ended_one : (s : Stepped) (n : ℕ) → with_ended s n ≡ with_ended s 0 + n
    ended_one Called n = omega arith
    ended_one Ended n = omega arith

numbers_size : (first many : ℕ) → length (numbers_from first many) ≡ many
numbers_size first zero = refl
numbers_size first (suc many) = omega (arith, numbers_size (suc first) many)

front_ends : (seed sessions : ℕ) (picks : List Pick) → IsFront seed sessions picks → ended_in picks ≤ 1 + sessions
front_ends seed sessions picks (inl on) = omega (arith, none_end 0 picks on)
front_ends seed sessions picks (inr f) =
    let draws = f.4 in
    let same : ended_in picks ≡ ended_in (f.0 ++ f.1) = ap ended_in f.2 in
    let drawn = drawn_ends (stream_front seed 65) (numbers_from 1 sessions) f.1 draws.rest draws.left draws.draws in
    omega (arith, same, ended-append f.0 f.1, one_end 0 f.0 f.3, drawn, numbers_size 1 sessions)

-- ---- moments

abbrev calls_of : Moment → ℕ → ℕ
calls_of m k = length (m.accounts k).calls

abbrev plain_of : Moment → ℕ → ℕ
plain_of m k = plain_in (events_of (m.accounts k).entries)

-- the accounts are modest, and their events that add to the load are those of the history, which are few
record IsModestAt (many : ℕ) (m : Moment) : Type 0 where
  each : (k : ℕ) → k < many → IsModest (m.accounts k)
  events : sum_to (plain_of m) many ≡ plain_in m.history.events
  few : plain_in m.history.events ≤ 1048576

events-append : (before after : List Entry) → events_of (before ++ after) ≡ events_of before ++ events_of after
events-append [] after = refl
events-append (did a e ∷ before) after = ap (λ (es : List Event). e ∷ es) (events-append before after)
events-append (refused why ∷ before) after = events-append before after
events-append (short final n ∷ before) after = events-append before after
events-append (unsent n ∷ before) after = events-append before after
events-append (stop cause ∷ before) after = events-append before after

abbrev HaveFewBytes : List Client → Type 0
HaveFewBytes clients = (k : ℕ) (client : Client) → slice_get clients k ≡ Some client → HasFewBytes client

-- a step keeps that, and its client has so many calls more
record StepsOn (clients : List Client) (before after : Moment) (many : ℕ) : Type 0 where
  modest : IsModestAt (length clients) after
  calls : sum_to (calls_of after) (length clients) ≡ sum_to (calls_of before) (length clients) + many

moves_on : (level : Level) (clients : List Client) (pick : Pick) (before after : Moment) → HaveFewBytes clients → IsModestAt (length clients) before →
    (m : Moves level clients pick before after) → StepsOn clients before after m.many
moves_on level clients pick before after few_all modest m =
    let within = slice_get_within clients pick.client m.client m.is in
    let g = m.grew in
    let calls_here : calls_of after pick.client ≡ calls_of before pick.client + m.many =
    ap length g.calls ∙ length-append (before.accounts pick.client).calls g.asked ∙ ap (λ (n : ℕ). calls_of before pick.client + n) g.count in
    let plain_here : plain_of after pick.client ≡ plain_of before pick.client + plain_in (events_of g.added) =
    ap (λ (es : List Entry). plain_in (events_of es)) g.entries ∙ ap plain_in (events-append (before.accounts pick.client).entries g.added)
    ∙ plain-append (events_of (before.accounts pick.client).entries) (events_of g.added) in
    let history : plain_in after.history.events ≡ plain_in before.history.events + plain_in (events_of g.added) =
    ap plain_in g.comes.seen ∙ plain-append before.history.events (events_of g.added) in
    record {
      modest = record {
        each = λ k less. elim (cases_eq k pick.client) [
          | inl here ↦
              subst (λ (j : ℕ). IsModest (after.accounts j)) (sym here)
              (served_modest level after.history m.client m.end (after.accounts pick.client) m.served (few_all pick.client m.client m.is))
          | inr apart ↦ subst IsModest (sym (m.others k apart)) (modest.each k less)
        ];
        events = sum_change (plain_of before) (plain_of after) pick.client (plain_in (events_of g.added)) (length clients) within plain_here
            (λ k apart. ap (λ (a : Account). plain_in (events_of a.entries)) (m.others k apart))
            ∙ ap (λ (n : ℕ). n + plain_in (events_of g.added)) modest.events ∙ sym history;
        few = legal_few after.history.initial after.history.events m.legal.legal.formed;
      };
      calls = sum_change (calls_of before) (calls_of after) pick.client m.many (length clients) within calls_here
          (λ k apart. ap (λ (a : Account). length a.calls) (m.others k apart));
    }

stepped_once : (s : Stepped) (many : ℕ) (added : List Entry) (end : Option End) (n : ℕ) → IsAnswer (Ok s) many added end → with_called s n ≤ n + many
stepped_once Called many added end n answer = omega (arith, answer.0)
stepped_once Ended many added end n answer = omega arith

-- ---- runs

record Played (clients : List Client) (before after : Moment) (picks : List Pick) : Type 0 where
  modest : IsModestAt (length clients) after
  calls : sum_to (calls_of before) (length clients) + called_in picks ≤ sum_to (calls_of after) (length clients)

plays : (level : Level) (clients : List Client) (picks : List Pick) (before after : Moment) → HaveFewBytes clients → IsModestAt (length clients) before →
    Runs level clients before picks after → Played clients before after picks
plays level clients [] before after few_all modest run =
    subst (λ (m : Moment). Played clients before m []) run (record { modest = modest; calls = omega arith })
plays level clients (pick ∷ picks) before after few_all modest run =
    let step = moves_on level clients pick before run.0 few_all modest run.1 in
    let rest = plays level clients picks run.0 after few_all step.modest run.2 in
    record {
      modest = rest.modest;
      calls = omega (arith, rest.calls, step.calls, stepped_once pick.stepped run.1.many run.1.grew.added run.1.end (called_in picks) run.1.answer);
    }

modest_first : (level : Level) (many : ℕ) → IsModestAt many (at_first level)
modest_first level many = record {
  each = λ k less. record { calls = omega arith; free = omega arith };
  events = sum_none many;
  few = omega arith;
}

-- ---- no simulation is cut off

each_below : (many : ℕ) (m : Moment) → IsModestAt many m → (k : ℕ) → k < many → calls_of m k ≤ plain_of m k + 7210002
each_below many m modest k less =
    let one = modest.each k less in omega (arith, one.calls, one.free)

pub ends : SimulationsEnd
ends level seed sessions queries few_sessions few_queries cut =
    let clients = cut.clients in
    let played = plays level clients cut.picks (at_first level) cut.last (clients_few seed sessions queries clients few_queries cut.are) (modest_first level (length clients)) cut.run in
    let most = sum_below (calls_of cut.last) (plain_of cut.last) (length clients) (each_below (length clients) cut.last played.modest) in
    let many : length clients ≡ suc (length cut.are.askers) = ap length cut.are.is in
    omega (
      arith,
      all_picks cut.picks,
      front_ends seed sessions cut.picks cut.front,
      played.calls,
      most,
      many,
      cut.are.count,
      cut.many,
      played.modest.events,
      played.modest.few,
      few_sessions,
    )
