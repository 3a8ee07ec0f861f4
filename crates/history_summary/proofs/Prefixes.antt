-- The transactions of a history beside those of its first events.
use Rattle.std.proofs.Common.{◌≡◌, ℕ, ◌+◌, ◌<◌, ◌≤◌, List, [], ◌∷◌, ◌++◌, Some, length, take, min, arith, ap, sym, ◌∙◌, subst}
use Rattle.std.specs.List.{slice_get}
use Rattle.std.proofs.lemmas.List.{take-take, take_more, length-take-le, length-take}
use Rattle.std.proofs.lemmas.Option.{slice_get_within, get_or_from_slice_get}
use Rattle.cell_base.specs.declared.cell.Cell.{Cell}
use Rattle.cell_base.specs.declared.value.Value.{Value}
use Rattle.history_core.specs.declared.event.Event.{Event}
use Rattle.history_core.specs.declared.event.Event.TheVariants.{Begin, Commit}
use Rattle.history_core.specs.Events.{begun}
use Rattle.history_core.specs.Transactions.{IsStart, IsOf, IsPending}
use Rattle.history_core.specs.Legal.{IsFormed, MayCome}
use Rattle.history_core.proofs.Places.{slice_get-take}
use Rattle.history_core.proofs.Prefixes.{start_bounded}
use Rattle.history_core.proofs.KeptLemmas.{unique}

-- one event more
pub next_prefix : {X : Type 0} (xs : List X) (k : ℕ) (x : X) → slice_get xs k ≡ Some x → take (k + 1) xs ≡ take k xs ++ x ∷ []
next_prefix xs k x is =
    take_more xs k x (slice_get_within xs k x is) ∙ ap (λ y. take k xs ++ y ∷ []) (get_or_from_slice_get xs k x x is)

pub prefix_length : {X : Type 0} (xs : List X) (k : ℕ) (x : X) → slice_get xs k ≡ Some x → length (take k xs) ≡ k
prefix_length xs k x is = let within = slice_get_within xs k x is in length-take-le k xs (omega arith)

-- what stands in the first items stands in all
pub prefix_get : {X : Type 0} (xs : List X) (k p : ℕ) (x : X) → slice_get (take k xs) p ≡ Some x → (p < k) × (slice_get xs p ≡ Some x)
prefix_get xs k p x is =
    let within : p < length (take k xs) = slice_get_within (take k xs) p x is in
    let short : length (take k xs) ≡ min k (length xs) = length-take k xs in
    let below : p < k = omega arith in
    (below, sym (slice_get-take xs k p below) ∙ is)

pub start_out : (events : List Event) (k n s p : ℕ) → IsStart (take k events) n s p → IsStart events n s p
start_out events k n s p start =
    let at = prefix_get events k p (Begin s start.level) start.is in
    let below = at.0 in
    record {
      level = start.level;
      is = at.1;
      counts = start.counts ∙ ap (λ (es : List Event). begun es + 1) (take-take p k events (omega arith));
    }

start_in : (events : List Event) (k n s p : ℕ) → IsStart events n s p → p < k → IsStart (take k events) n s p
start_in events k n s p start below = record {
  level = start.level;
  is = slice_get-take events k p below ∙ start.is;
  counts = start.counts ∙ ap (λ (es : List Event). begun es + 1) (sym (take-take p k events (omega arith)));
}

-- the next event of a pending transaction is one of its own
pub pending_commits :
    (events : List Event) (k n s : ℕ) → slice_get events k ≡ Some (Commit s) → IsPending (take k events) n s → IsOf events n k (Commit s)
pending_commits events k n s is pending =
    let at = prefix_get events k pending.start (Begin s pending.starts.level) pending.starts.is in
    let long = prefix_length events k (Commit s) is in
    record {
      start = pending.start;
      starts = start_out events k n s pending.start pending.starts;
      after = at.0;
      is = is;
      running = λ q f above below there same. pending.running q f above (omega arith) (slice_get-take events k q below ∙ there) same;
    }

pub commits_pending : (events : List Event) (k n s : ℕ) → IsOf events n k (Commit s) → IsPending (take k events) n s
commits_pending events k n s of = record {
  start = of.start;
  starts = start_in events k n s of.start of.starts of.after;
  running = λ q f above below there same. let at = prefix_get events k q f there in of.running q f above at.0 at.1 same;
}

pub formed_prefix : (initial : List (Cell × Value)) (events : List Event) (k : ℕ) → IsFormed initial events → IsFormed initial (take k events)
formed_prefix initial events k formed j e there =
    let at = prefix_get events k j e there in
    let below = at.0 in
    subst (λ (front : List Event). MayCome initial front e) (sym (take-take j k events (omega arith))) (formed j e at.1)

-- one transaction commits at a place
pub one_commits :
    (initial : List (Cell × Value)) (events : List Event) (k m n s t : ℕ) → IsFormed initial events → IsOf events m k (Commit s) → IsOf events n k (Commit t) → m ≡ n
one_commits initial events k m n s t formed first second =
    let both : Some (Commit s) ≡ Some (Commit t) = sym first.is ∙ second.is in
    let same : s ≡ t = cc in
    unique initial (take k events) (formed_prefix initial events k formed) s m n (commits_pending events k m s first)
    (subst (λ (u : ℕ). IsPending (take k events) n u) (sym same) (commits_pending events k n t second))

pub pending_begun : (events : List Event) (k n s : ℕ) → IsPending (take k events) n s → n ≤ begun events
pending_begun events k n s pending = start_bounded events n s pending.start (start_out events k n s pending.start pending.starts)
