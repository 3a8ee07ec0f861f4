-- The counts, one event after another.
use Rattle.std.proofs.Common.{◌≡◌, ℕ, ◌+◌, ◌≤◌, List, Some, Bool, true, false, cond, length, take, arith, refl, ap, sym, ◌∙◌, subst, ◌↔◌}
use Rattle.std.specs.Prelude.{IsTrue, count_by, sum_by}
use Rattle.std.specs.List.{slice_get}
use Rattle.std.proofs.lemmas.List.{take_all}
use Rattle.std.proofs.lemmas.List.Sums.{sum_by_push, count_by-le-length}
use Rattle.std.proofs.lemmas.Option.{slice_get_within}
use Rattle.graph_base.proofs.Places.{count_by-push}
use Rattle.history_core.specs.declared.event.Event.{Event}
use Rattle.history_core.specs.Chronicle.{Chronicle}
use Rattle.history_core.specs.Events.{opened, begun, is_open_event, is_begin}
use Rattle.history_core.proofs.Places.{begun-take_all}
use Rattle.history_summary.specs.declared.counts.Counts.{Counts}
use Rattle.history_summary.specs.declared.latest.Latest.{Latest}
use Rattle.history_summary.specs.Latest.{HasWeakBelow}
use Rattle.history_summary.specs.Counts.{is_read, reads, offer_of, offered, AreCounts}
use Rattle.history_summary.specs.Walk.{IsStale, AreLatest, HasRoom, CountsNext, AreCountsBelow, IsCountable}
use Rattle.history_summary.proofs.Prefixes.{next_prefix, prefix_length}
use Rattle.history_summary.proofs.Weak.{weak_none, weak_next}

-- one event more that is counted, or not
more_counted : (p : Event → Bool) (events : List Event) (k : ℕ) (e : Event) → slice_get events k ≡ Some e → count_by p (take (k + 1) events) ≡ count_by p (take k events) + cond (p e) 1 0
more_counted p events k e is = ap (count_by p) (next_prefix events k e is) ∙ count_by-push p (take k events) e

few_counted : (p : Event → Bool) (events : List Event) (k : ℕ) (e : Event) → slice_get events k ≡ Some e → count_by p (take k events) ≤ k
few_counted p events k e is =
    let few : count_by p (take k events) ≤ length (take k events) = count_by-le-length p (take k events) in
    let long = prefix_length events k e is in
    omega arith

pub counts_first : (events : List Event) (counts : Counts) → counts ≡ record { sessions = 0; transactions = 0; events = 0; reads = 0; offered = 0; weak = 0 } → AreCountsBelow events 0 counts
counts_first events counts none =
    subst (λ (c : Counts). AreCountsBelow events 0 c) (sym none) record {
      sessions = refl;
      transactions = refl;
      events = refl;
      reads = refl;
      offered = refl;
      small = omega arith;
      weak = weak_none events;
      few = omega arith;
    }

pub room : (history : Chronicle) (counts : Counts) (e : Event) → IsCountable history → slice_get history.events counts.events ≡ Some e → AreCountsBelow history.events counts.events counts →
    HasRoom counts
room history counts e countable is are =
    let within = slice_get_within history.events counts.events e is in
    let long = countable.long in
    let sessions = are.sessions in
    let few_sessions : opened (take counts.events history.events) ≤ counts.events = few_counted is_open_event history.events counts.events e is in
    let transactions = are.transactions in
    let few_transactions : begun (take counts.events history.events) ≤ begun history.events = begun-take_all history.events counts.events in
    let begun_few = countable.few in
    let reads_are = are.reads in
    let few_reads : reads (take counts.events history.events) ≤ counts.events = few_counted is_read history.events counts.events e is in
    let small = are.small in
    let few = are.few in
    record {
      sessions = omega arith;
      transactions = omega arith;
      events = omega arith;
      reads = omega arith;
      offered = omega arith;
      weak = omega arith;
    }

pub counts_next :
    (history : Chronicle) (k : ℕ) (e : Event) (latest : Latest) (stale : Bool) (old new : Counts) → IsCountable history → slice_get history.events k ≡ Some e →
    AreLatest history.events k latest → (IsTrue stale ↔ IsStale latest e) → CountsNext old e stale new → AreCountsBelow history.events k old →
    AreCountsBelow history.events (k + 1) new
counts_next history k e latest stale old new countable is are_latest tells next are = record {
  sessions = next.sessions ∙ ap (λ (n : ℕ). n + cond (is_open_event e) 1 0) are.sessions ∙ sym (more_counted is_open_event history.events k e is);
  transactions = next.transactions ∙ ap (λ (n : ℕ). n + cond (is_begin e) 1 0) are.transactions ∙ sym (more_counted is_begin history.events k e is);
  events = let a = next.events in let b = are.events in omega arith;
  reads = next.reads ∙ ap (λ (n : ℕ). n + cond (is_read e) 1 0) are.reads ∙ sym (more_counted is_read history.events k e is);
  offered = next.offered ∙ ap (λ (n : ℕ). n + offer_of e) are.offered ∙ sym (ap (sum_by offer_of) (next_prefix history.events k e is) ∙ sum_by_push offer_of (take k history.events) e);
  small = let a = next.events in let b = next.small in let c = are.small in omega arith;
  weak = subst (λ (n : ℕ). HasWeakBelow history.events (k + 1) n) (sym next.weak)
      (weak_next history.initial history.events k old.weak e latest stale countable.formed.formed is are_latest tells are.weak);
  few = few_weak stale next.weak;
}
  where
    few_weak : (b : Bool) → new.weak ≡ old.weak + cond b 1 0 → new.weak ≤ new.events
    few_weak true more = let a = next.events in let c = are.few in omega arith
    few_weak false more = let a = next.events in let c = are.few in omega arith

-- all events were passed
pub counts_all : (events : List Event) (k : ℕ) (counts : Counts) → length events ≡ k → AreCountsBelow events k counts → AreCounts events counts
counts_all events k counts all are =
    let whole : take k events ≡ events = take_all k events (omega arith) in
    record {
      sessions = are.sessions ∙ ap opened whole;
      transactions = are.transactions ∙ ap begun whole;
      events = are.events ∙ sym all;
      reads = are.reads ∙ ap reads whole;
      offered = are.offered ∙ ap offered whole;
      weak = subst (λ (n : ℕ). HasWeakBelow events n counts.weak) (sym all) are.weak;
    }
