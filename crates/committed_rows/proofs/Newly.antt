-- The newest value of a cell: there is one at most, and the walk finds it.
use Rattle.std.proofs.Common.{◌≡◌, ◌≢◌, ℕ, ◌<◌, ◌≤◌, List, Some, None, true, arith, refl, ap, sym, ◌∙◌, subst, inl, inr}
use Rattle.std.specs.List.{slice_get}
use Rattle.cell_base.specs.declared.cell.Cell.{Cell}
use Rattle.cell_base.specs.declared.cell.Cell.TheVariants.{Presence, Field}
use Rattle.cell_base.specs.declared.value.Value.{Value}
use Rattle.cell_base.specs.declared.value.Value.TheVariants.{Unset, Flag}
use Rattle.history_core.specs.declared.event.Event.{Event}
use Rattle.history_core.specs.declared.event.Event.TheVariants.{Write}
use Rattle.history_core.specs.Initial.{IsAscending, WritesInitially, FitsCell, absent_value}
use Rattle.history_core.specs.Relations.{LastWrites, Writes, WritesValue}
use Rattle.history_core.specs.Chronicle.{Chronicle, IsFormedChronicle}
use Rattle.history_core.proofs.WholeRows.{one_value}
use Rattle.committed_rows.specs.declared.newest.Newest.{Newest}
use Rattle.committed_rows.specs.Rows.{IsNewest}
use Rattle.committed_rows.specs.Walk.{value_at, Fills, AreNewestAbove, AreNewest}
use Rattle.committed_rows.proofs.Noted.{some_or_none, none_is_not_some, some_of}
use Rattle.committed_rows.proofs.Above.{has_written, committed_positive}

-- ---- one value

pub last_unique : (events : List Event) (n : ℕ) (q : Cell) (v w : Value) → LastWrites events n q v → LastWrites events n q w → v ≡ w
last_unique events n q v w first second =
    let below : second.place ≤ first.place = first.last second.place second.session w second.write in
    let above : first.place ≤ second.place = second.last first.place first.session v first.write in
    let same : first.place ≡ second.place = omega arith in
    let both : Some (Write first.session q v) ≡ Some (Write second.session q w) =
    sym first.write.is ∙ ap (λ (p : ℕ). slice_get events p) same ∙ second.write.is in
    cc

initial_unique : (initial : List (Cell × Value)) (q : Cell) (v w : Value) → IsAscending initial → WritesInitially initial q v → WritesInitially initial q w → v ≡ w
initial_unique initial q v w ascending (inl first) (inl second) = one_value initial q v w ascending first second
initial_unique initial q v w ascending (inl first) (inr none) = absurd (none.0 v first)
initial_unique initial q v w ascending (inr none) (inl second) = absurd (none.0 w second)
initial_unique initial q v w ascending (inr first) (inr second) = first.1 ∙ sym second.1

value_unique : (initial : List (Cell × Value)) (events : List Event) (n : ℕ) (q : Cell) (v w : Value) → IsAscending initial →
    WritesValue initial events n q v → WritesValue initial events n q w → v ≡ w
value_unique initial events n q v w ascending (inl first) (inl second) = initial_unique initial q v w ascending first.1 second.1
value_unique initial events n q v w ascending (inl first) (inr second) =
    let some : 0 < n = committed_positive events n second.0 in let none : n ≡ 0 = first.0 in absurd (omega arith)
value_unique initial events n q v w ascending (inr first) (inl second) =
    let some : 0 < n = committed_positive events n first.0 in let none : n ≡ 0 = second.0 in absurd (omega arith)
value_unique initial events n q v w ascending (inr first) (inr second) = last_unique events n q v w first.1 second.1

writes_of : (initial : List (Cell × Value)) (events : List Event) (n : ℕ) (q : Cell) (v : Value) → WritesValue initial events n q v → Writes events n q
writes_of initial events n q v (inl first) = inl first.0
writes_of initial events n q v (inr later) = inr (later.0, has_written events n q v later.1)

pub newest_unique : (history : Chronicle) (q : Cell) (v w : Value) → IsAscending history.initial → IsNewest history q v → IsNewest history q w → v ≡ w
newest_unique history q v w ascending first second =
    let below = first.newest second.number (writes_of history.initial history.events second.number q w second.writes) in
    let above = second.newest first.number (writes_of history.initial history.events first.number q v first.writes) in
    let same : second.number ≡ first.number = omega arith in
    value_unique history.initial history.events first.number q v w ascending first.writes
    (subst (λ (n : ℕ). WritesValue history.initial history.events n q w) same second.writes)

-- ---- what the walk has found

set_there : (initial : List (Cell × Value)) (q : Cell) (v : Value) → FitsCell initial q v → v ≢ Unset
set_there initial (Presence table key) v fits unset = let both : Flag true ≡ Unset = sym fits ∙ unset in cc
set_there initial (Field table key column) v fits unset = fits.1.0 unset

set_last : (history : Chronicle) (n : ℕ) (q : Cell) (v : Value) → IsFormedChronicle history → LastWrites history.events n q v → v ≢ Unset
set_last history n q v formed last = (formed.formed last.place (Write last.session q v) last.write.is).follows.2.0

pub newest_all : (history : Chronicle) (old new : Newest) → IsFormedChronicle history → AreNewestAbove history.events 0 old →
    Fills old history.initial new → AreNewest history new
newest_all history old new formed above fills = record {
  sound = λ q v e. elim (fills.sound q v e) [
    | inl before ↦
        let found = above.sound q v before in (
          record {
            number = found.0;
            writes = inr (found.2, found.3);
            newest = λ other writes. elim writes [
              | inl zero ↦ omega arith
              | inr commits ↦ found.4 other commits
            ];
          },
          set_last history found.0 q v formed found.3,
        )
    | inr fresh ↦ (
      record {
        number = 0;
        writes = inl (refl, inl fresh.1);
        newest = λ other writes. elim writes [
          | inl zero ↦ omega arith
          | inr commits ↦
              absurd (none_is_not_some (value_at old q) fresh.0 (above.whole q other (committed_positive history.events other commits.0) commits))
        ];
      },
      set_there history.initial q v (formed.initial.fits q v fresh.1),
    )
  ];
  absent = λ q none. (
    λ v there. none_is_not_some (value_at new q) none (fills.whole q v there),
    λ n commits.
        let had = some_of (value_at old q) (above.whole q n (committed_positive history.events n commits.0) commits) in
        let clash : None ≡ Some had.0 = sym none ∙ fills.kept q had.0 had.1 in cc,
  );
}

-- what was written is found
pub newest_found : (history : Chronicle) (newest : Newest) (q : Cell) (v : Value) → IsFormedChronicle history → AreNewest history newest →
    IsNewest history q v → v ≢ absent_value q → value_at newest q ≡ Some v
newest_found history newest q v formed are is apart =
    some_or_none (value_at newest q ≡ Some v) (value_at newest q)
    (λ w there. there ∙ ap (λ (x : Value). Some x) (newest_unique history q w v formed.initial.ascending (are.sound q w there).0 is))
    (λ none. absurd (not_none none is.writes))
  where
    not_none : value_at newest q ≡ None → WritesValue history.initial history.events is.number q v → ⊥
    not_none none (inl (zero, inl there)) = (are.absent q none).0 v there
    not_none none (inl (zero, inr away)) = apart away.1
    not_none none (inr later) = (are.absent q none).1 is.number (later.0, has_written history.events is.number q v later.1)
