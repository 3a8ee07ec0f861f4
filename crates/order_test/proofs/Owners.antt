-- The transactions of events.
use Rattle.std.proofs.Common.{◌≡◌, ℕ, ◌<◌, List, [], ◌∷◌, ◌++◌, Some, length, get_or, take, arith, ap, sym, ◌∙◌, subst, inl, inr}
use Rattle.std.specs.List.{slice_get}
use Rattle.std.proofs.Math.Seq.{take-append_seam}
use Rattle.std.proofs.lemmas.List.{length_push, get_or_append_left, get_or_push, take-append-le, take-take, length-take-le}
use Rattle.std.proofs.lemmas.Option.{slice_get_within}
use Rattle.txn_buffer.proofs.Lists.{slice_get_push_cases}
use Rattle.history_core.specs.declared.event.Event.{Event}
use Rattle.history_core.specs.declared.event.Event.TheVariants.{Begin}
use Rattle.history_core.specs.Events.{begun, session_in}
use Rattle.history_core.specs.Transactions.{IsPending, IsOf, HasPending}
use Rattle.history_core.proofs.Places.{slice_get-take}
use Rattle.history_core.proofs.Prefixes.{IsSound}
use Rattle.further_reads.specs.Begun.{IsLastBegun}
use Rattle.further_reads.proofs.Lasts.{last_begun_unique, pending_is_last}
use Rattle.order_test.specs.Glance.{AreOwners}

pub owners_push :
    (events : List Event) (e : Event) (owners : List ℕ) (last : ℕ) → IsLastBegun events (session_in e) last → AreOwners events owners →
    AreOwners (events ++ e ∷ []) (owners ++ last ∷ [])
owners_push events e owners last is are = record {
  count =
      let a = length_push events e in
      let b = length_push owners last in
      let c = are.count in omega arith;
  each = λ k f at. elim (slice_get_push_cases events e k f at) [
    | inl old ↦
        let front : take k (events ++ e ∷ []) ≡ take k events = take-append-le k events (e ∷ []) (let h = old.0 in omega arith) in
        let same : get_or (owners ++ last ∷ []) k 0 ≡ get_or owners k 0 =
        get_or_append_left owners (last ∷ []) 0 k (let c = are.count in let h = old.0 in omega arith) in
        subst (λ (xs : List Event). IsLastBegun xs (session_in f) (get_or (owners ++ last ∷ []) k 0)) (sym front)
        (subst (λ (m : ℕ). IsLastBegun (take k events) (session_in f) m) (sym same) (are.each k f old.1))
    | inr new ↦
        let front : take k (events ++ e ∷ []) ≡ events = ap (λ (i : ℕ). take i (events ++ e ∷ [])) new.0 ∙ take-append_seam events (e ∷ []) in
        let here : get_or (owners ++ last ∷ []) k 0 ≡ last = get_or_push owners last 0 k (let c = are.count in let h = new.0 in omega arith) in
        subst (λ (xs : List Event). IsLastBegun xs (session_in f) (get_or (owners ++ last ∷ []) k 0)) (sym front)
        (subst (λ (m : ℕ). IsLastBegun events (session_in f) m) (sym here)
        (subst (λ (g : Event). IsLastBegun events (session_in g) last) new.1 is))
  ];
}

-- the last transaction of a session that has a pending one is this one
pub owner_pending : (events : List Event) → IsSound events → (s last : ℕ) → HasPending events s → IsLastBegun events s last → IsPending events last s
owner_pending events sound s last (k, pending) is =
    subst (λ (m : ℕ). IsPending events m s) (last_begun_unique events s k last (pending_is_last events sound k s pending) is) pending

-- the next event of the session is one of the pending transaction
pub of_front : (events : List Event) (k p : ℕ) (e : Event) → slice_get events p ≡ Some e → IsPending (take p events) k (session_in e) → IsOf events k p e
of_front events k p e is pending =
    let within : p < length events = slice_get_within events p e is in
    let long : length (take p events) ≡ p = length-take-le p events (omega arith) in
    let inside : pending.start < length (take p events) = slice_get_within (take p events) pending.start (Begin (session_in e) pending.starts.level) pending.starts.is in
    let after : pending.start < p = omega arith in
    let same : begun (take pending.start (take p events)) ≡ begun (take pending.start events) = ap begun (take-take pending.start p events (omega arith)) in
    record {
      start = pending.start;
      starts = record {
        level = pending.starts.level;
        is = sym (slice_get-take events p pending.start after) ∙ pending.starts.is;
        counts = let c = pending.starts.counts in omega arith;
      };
      after = after;
      is = is;
      running = λ q f above below at. pending.running q f above (omega arith) (slice_get-take events p q below ∙ at);
    }
