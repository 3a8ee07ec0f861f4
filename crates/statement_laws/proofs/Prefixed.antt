-- The events of a transaction in a history and in its first part.
use Rattle.std.proofs.Common.{◌≡◌, ℕ, ◌+◌, ◌<◌, zero, suc, List, [], ◌∷◌, Some, length, take, arith, ap, sym, ◌∙◌, inl, inr}
use Rattle.std.specs.List.{slice_get}
use Rattle.std.proofs.lemmas.List.{length-take-le, take-take}
use Rattle.std.proofs.lemmas.Option.{slice_get_within}
use Rattle.std.proofs.lemmas.Bool.{cases_order, false≢true}
use Rattle.cell_base.specs.declared.cell.Cell.{Cell}
use Rattle.cell_base.specs.declared.value.Value.{Value}
use Rattle.history_core.specs.declared.event.Event.{Event}
use Rattle.history_core.specs.declared.event.Event.TheVariants.{Begin, Commit, Write}
use Rattle.history_core.specs.Events.{begun, session_in}
use Rattle.history_core.specs.Transactions.{IsStart, IsOf, IsPending}
use Rattle.history_core.proofs.Places.{slice_get-take, start_unique, start_session}

pub within_take : {X : Type 0} (xs : List X) (n k : ℕ) (x : X) → slice_get (take n xs) k ≡ Some x → (k < n) × (slice_get xs k ≡ Some x)
within_take xs zero k x is = cc
within_take [] (suc n) k x is = cc
within_take (y ∷ ys) (suc n) zero x is = (omega arith, is)
within_take (y ∷ ys) (suc n) (suc k) x is = let h = within_take ys n k x is in (let a = h.0 in omega arith, h.1)

pub start_taken : (events : List Event) (n k s p : ℕ) → IsStart (take n events) k s p → (p < n) × IsStart events k s p
start_taken events n k s p start =
    let at = within_take events n p (Begin s start.level) start.is in (
      at.0,
      record {
        level = start.level;
        is = at.1;
        counts = start.counts ∙ ap (λ (front : List Event). begun front + 1) (take-take p n events (let h = at.0 in omega arith));
      },
    )

pub start_into : (events : List Event) (n k s p : ℕ) → p < n → IsStart events k s p → IsStart (take n events) k s p
start_into events n k s p under start = record {
  level = start.level;
  is = slice_get-take events n p under ∙ start.is;
  counts = start.counts ∙ sym (ap (λ (front : List Event). begun front + 1) (take-take p n events (omega arith)));
}

pub of_taken : (events : List Event) (n k p : ℕ) (e : Event) → IsOf (take n events) k p e → (p < n) × IsOf events k p e
of_taken events n k p e of =
    let at = within_take events n p e of.is in
    let starts = start_taken events n k (session_in e) of.start of.starts in (
      at.0,
      record {
        start = of.start;
        starts = starts.1;
        after = of.after;
        is = at.1;
        running = λ q f low high is same. of.running q f low high (slice_get-take events n q (let h = at.0 in omega arith) ∙ is) same;
      },
    )

pub of_into : (events : List Event) (n k p : ℕ) (e : Event) → p < n → IsOf events k p e → IsOf (take n events) k p e
of_into events n k p e under of = record {
  start = of.start;
  starts = start_into events n k (session_in e) of.start (let h = of.after in omega arith) of.starts;
  after = of.after;
  is = slice_get-take events n p under ∙ of.is;
  running = λ q f low high is same. of.running q f low high (within_take events n q f is).1 same;
}

-- the next event is one of the transaction that is pending before it
pub of_pending : (events : List Event) (k p : ℕ) (e : Event) → slice_get events p ≡ Some e → IsPending (take p events) k (session_in e) → IsOf events k p e
of_pending events k p e is pending =
    let within : p < length events = slice_get_within events p e is in
    let short : length (take p events) ≡ p = length-take-le p events (omega arith) in
    let starts = start_taken events p k (session_in e) pending.start pending.starts in
    record {
      start = pending.start;
      starts = starts.1;
      after = starts.0;
      is = is;
      running = λ q f low high at same. pending.running q f low (omega arith) (slice_get-take events p q high ∙ at) same;
    }

-- and a transaction that has an event was pending before it
pub pending_before : (events : List Event) (k p : ℕ) (e : Event) → IsOf events k p e → IsPending (take p events) k (session_in e)
pending_before events k p e of =
    let within : p < length events = slice_get_within events p e of.is in
    let short : length (take p events) ≡ p = length-take-le p events (omega arith) in
    record {
      start = of.start;
      starts = start_into events p k (session_in e) of.start of.after of.starts;
      running = λ q f low high at same. of.running q f low (omega arith) (within_take events p q f at).1 same;
    }

-- a transaction commits after its writes
pub commits_after : (events : List Event) (k p q s t : ℕ) (cell : Cell) (value : Value) → IsOf events k p (Write s cell value) → IsOf events k q (Commit t) → p < q
commits_after events k p q s t cell value write commit =
    elim (cases_order p q) [
      | inl same ↦
          let both : Some (Write s cell value) ≡ Some (Commit t) = sym write.is ∙ ap (λ (n : ℕ). slice_get events n) same ∙ commit.is in cc
      | inr apart ↦ elim apart [
        | inl less ↦ less
        | inr more ↦
            let starts : write.start ≡ commit.start = start_unique events k s t write.start commit.start write.starts commit.starts in
            let session : s ≡ t = start_session events k s t write.start commit.start write.starts commit.starts in
            let after : write.start < q = let h = commit.after in omega arith in
            absurd (false≢true (sym (write.running q (Commit t) after more commit.is (sym session))))
      ]
    ]
