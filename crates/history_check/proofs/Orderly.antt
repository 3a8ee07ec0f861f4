-- Events that are right come as the state of their sessions allows.
use Rattle.std.proofs.Common.{◌≡◌, ℕ, ◌+◌, ◌<◌, ◌≤◌, zero, suc, List, [], Some, length, take, arith, sym, subst, inl, inr}
use Rattle.std.specs.List.{slice_get}
use Rattle.std.proofs.lemmas.Option.{slice_get_within, slice_get_cases}
use Rattle.cell_base.specs.declared.cell.Cell.{Cell}
use Rattle.cell_base.specs.declared.value.Value.{Value}
use Rattle.history_core.specs.declared.event.Event.{Event}
use Rattle.history_core.specs.declared.event.Event.TheVariants.{Open, Close, Define, Look, Begin, Scan, Read, Own, Write, Commit, Rollback, Show}
use Rattle.order_test.specs.Settled.{IsSettled, HasReader, HasSettledSource, IsOrderly, HasOwner, AreOwned}
use Rattle.history_check.specs.Rules.{shape, source, IsRight, IsInShape, HasSource}
use Rattle.history_check.specs.Breaches.{AreRight}
use Rattle.history_check.proofs.EventLemmas.{take_next}
use Rattle.history_check.proofs.Settled.{settled_push}

pub none_settled : IsSettled []
none_settled = record {
  sources = λ reader place cell from reads. let none = reads.of_reader.is in cc;
  last = λ txn session other pending so. let none = pending.starts.is in cc;
}

settled_take : (initial : List (Cell × Value)) (events : List Event) → AreRight initial events → (n : ℕ) → n ≤ length events → IsSettled (take n events)
settled_take initial events right zero within = none_settled
settled_take initial events right (suc n) within =
    elim (slice_get_cases events n).1 [
      | inl found ↦
          let e : Event = found.0 in
          let is : slice_get events n ≡ Some e = found.2 in
          let here : IsRight initial (take n events) e = right n e (omega arith) is in
          let before : IsSettled (take n events) = settled_take initial events right n (omega arith) in
          let number : n + 1 ≡ suc n = omega arith in
          subst (λ (m : ℕ). IsSettled (take m events)) number
          (subst (λ (xs : List Event). IsSettled xs) (sym (take_next events n e is)) (settled_push (take n events) e before (here shape) (here source)))
      | inr none ↦ let h = none.0 in absurd (omega arith)
    ]

reader_of : (before : List Event) (e : Event) → IsInShape before e → HasReader before e
reader_of before (Read s x w n u v) fits = fits.0
reader_of before (Scan s table keys) fits = fits.0
reader_of before (Open s) fits = tt
reader_of before (Close s) fits = tt
reader_of before (Define s name) fits = tt
reader_of before (Look s count) fits = tt
reader_of before (Begin s level) fits = tt
reader_of before (Own s x v) fits = tt
reader_of before (Write s x v) fits = tt
reader_of before (Commit s) fits = tt
reader_of before (Rollback s) fits = tt
reader_of before (Show s number) fits = tt

source_of : (before : List Event) (e : Event) → HasSource before e → HasSettledSource before e
source_of before (Read s x w n u v) writes = elim writes [ inl initial ↦ inl initial | inr own ↦ inr own.0 ]
source_of before (Scan s table keys) writes = tt
source_of before (Open s) writes = tt
source_of before (Close s) writes = tt
source_of before (Define s name) writes = tt
source_of before (Look s count) writes = tt
source_of before (Begin s level) writes = tt
source_of before (Own s x v) writes = tt
source_of before (Write s x v) writes = tt
source_of before (Commit s) writes = tt
source_of before (Rollback s) writes = tt
source_of before (Show s number) writes = tt

pub orderly_from : (initial : List (Cell × Value)) (events : List Event) → AreRight initial events → IsOrderly events
orderly_from initial events right k e is =
    let within : k < length events = slice_get_within events k e is in
    let here : IsRight initial (take k events) e = right k e within is in
    record {
      settled = settled_take initial events right k (omega arith);
      reader = reader_of (take k events) e (here shape);
      source = source_of (take k events) e (here source);
    }

owner_of : (before : List Event) (e : Event) → IsInShape before e → HasOwner before e
owner_of before (Write s x v) fits = fits.0
owner_of before (Commit s) fits = fits
owner_of before (Rollback s) fits = fits
owner_of before (Read s x w n u v) fits = tt
owner_of before (Scan s table keys) fits = tt
owner_of before (Open s) fits = tt
owner_of before (Close s) fits = tt
owner_of before (Define s name) fits = tt
owner_of before (Look s count) fits = tt
owner_of before (Begin s level) fits = tt
owner_of before (Own s x v) fits = tt
owner_of before (Show s number) fits = tt

pub owned_from : (initial : List (Cell × Value)) (events : List Event) → AreRight initial events → AreOwned events
owned_from initial events right k e is = owner_of (take k events) e (right k e (slice_get_within events k e is) is shape)
