-- What the record of a transaction says of its writes.
use Rattle.std.proofs.Common.{◌≡◌, ℕ, ◌<◌, ◌≤◌, List, Some, arith, refl, ap, sym, ◌∙◌, subst, inl, inr}
use Rattle.std.specs.List.{slice_get, Contains, Any}
use Rattle.cell_base.specs.declared.cell.Cell.{Cell}
use Rattle.cell_base.specs.declared.value.Value.{Value}
use Rattle.history_core.specs.declared.event.Event.{Event}
use Rattle.history_core.specs.declared.event.Event.TheVariants.{Write}
use Rattle.history_core.specs.Transactions.{IsCommitted}
use Rattle.history_core.specs.Relations.{LastWrites, Writes, WritesValue}
use Rattle.history_core.specs.Events.{begun}
use Rattle.history_core.proofs.Prefixes.{start_positive, start_bounded}

-- there is one last value
pub last_unique : (events : List Event) (k : ℕ) (x : Cell) (v w : Value) → LastWrites events k x v → LastWrites events k x w → v ≡ w
last_unique events k x v w first second =
    let a = first.last second.place second.session w second.write in
    let b = second.last first.place first.session v first.write in
    let place : first.place ≡ second.place = omega arith in
    let both : Some (Write first.session x v) ≡ Some (Write second.session x w) =
    sym first.write.is ∙ ap (λ (n : ℕ). slice_get events n) place ∙ second.write.is in
    cc

-- who writes a value to a cell writes the cell
pub value_writes : (initial : List (Cell × Value)) (events : List Event) (number : ℕ) (cell : Cell) (value : Value) → WritesValue initial events number cell value → Writes events number cell
value_writes initial events number cell value (inl first) = inl first.0
value_writes initial events number cell value (inr later) = inr (later.0, record { place = later.1.place; session = later.1.session; value = value; write = later.1.write })

-- ---- the initial state, cell by cell

abbrev pub IsEntry : Cell → Value → Cell × Value → Type 0
IsEntry cell value entry = (entry.0 ≡ cell) × (entry.1 ≡ value)

pub entry_to : (initial : List (Cell × Value)) (cell : Cell) (value : Value) → Any (IsEntry cell value) initial → Contains initial (cell, value)
entry_to initial cell value (k, (x, v), within, at, is) =
    let same : ◌≡◌ {A = Cell × Value} (x, v) (cell, value) = pair_is x cell v value is.0 is.1 in
    subst (λ (e : Cell × Value). Contains initial e) same (k, within, at)
  where
    pair_is : (x y : Cell) (v w : Value) → x ≡ y → v ≡ w → ◌≡◌ {A = Cell × Value} (x, v) (y, w)
    pair_is x y v w a b = ap (λ (z : Cell). (z, v)) a ∙ ap (λ (z : Value). (y, z)) b

pub entry_from : (initial : List (Cell × Value)) (cell : Cell) (value : Value) → Contains initial (cell, value) → Any (IsEntry cell value) initial
entry_from initial cell value (k, within, at) = (k, (cell, value), within, at, (refl, refl))

abbrev pub IsAt : Cell → Cell × Value → Type 0
IsAt cell entry = entry.0 ≡ cell

pub absent_to : (initial : List (Cell × Value)) (cell : Cell) → (Any (IsAt cell) initial → ⊥) → (value : Value) → Contains initial (cell, value) → ⊥
absent_to initial cell none value (k, within, at) = none (k, (cell, value), within, at, refl)

pub absent_from : (initial : List (Cell × Value)) (cell : Cell) → ((value : Value) → Contains initial (cell, value) → ⊥) → Any (IsAt cell) initial → ⊥
absent_from initial cell none (k, (x, v), within, at, is) =
    none v (subst (λ (y : Cell). Contains initial (y, v)) is (k, within, at))

-- a committed transaction has begun
pub value_bounded : (events : List Event) (k : ℕ) → IsCommitted events k → (0 < k) × (k ≤ begun events)
value_bounded events k committed =
    let of = committed.commit in
    (start_positive events k committed.session of.start of.starts, start_bounded events k committed.session of.start of.starts)

pub last_is : (events : List Event) (k : ℕ) (x : Cell) (v w : Value) → v ≡ w → LastWrites events k x v → LastWrites events k x w
last_is events k x v w same last = subst (λ (u : Value). LastWrites events k x u) same last
