-- The breaches of a trace's events, and the first of them.
use Rattle.std.specs.Prelude.{◌≡◌, ◌<◌, ◌+◌, ℕ, Option, Some, None, List, length, slice_get, take}
use Rattle.cell_base.specs.declared.cell.Cell.{Cell}
use Rattle.cell_base.specs.declared.value.Value.{Value}
use Rattle.history_core.specs.declared.event.Event.{Event}
use Rattle.history_core.specs.declared.event.Event.TheVariants as events
use Rattle.std.specs.declared.result.Result.{Result}
use Rattle.std.specs.declared.result.Result.TheVariants.{Err}
use Rattle.history_check.specs.declared.breach.Breach.{Breach}
use Rattle.history_check.specs.declared.breach.CheckFault.{CheckFault}
use Rattle.history_check.specs.declared.breach.CheckFault.TheVariants.{Breach as IsBreach}
use Rattle.history_check.specs.declared.breach.Breach.TheVariants.{Shape, Number, Keys, Own, Source, Value as WrongValue, Count}
use Rattle.history_check.specs.Rules.{Rule, shape, number, keys, own, source, value, count, rank, Keeps, IsRight, right_number, HasCandidates}

-- the breach that is told of an event which breaks the rule
abbrev pub IsToldOf : List Event → Event → Rule → Breach → Type 0
IsToldOf before event shape breach = breach ≡ Shape (length before + 1)
IsToldOf before event number breach = (n : ℕ) × (right_number before event ≡ Some n) × (breach ≡ Number (length before + 1) n)
IsToldOf before event keys breach = breach ≡ Keys (length before + 1)
IsToldOf before event own breach = breach ≡ Own (length before + 1)
IsToldOf before event source breach = breach ≡ Source (length before + 1)
IsToldOf before event value breach = breach ≡ WrongValue (length before + 1)
IsToldOf before (events.Read s cell from offered word v) count breach = (n : ℕ) × HasCandidates before cell n × (breach ≡ Count (length before + 1) n)
IsToldOf before _ count breach = ⊥

-- the event breaks a rule, and none that comes before this one
pub record IsBreachOf (initial : List (Cell × Value)) (before : List Event) (event : Event) (breach : Breach) : Type 0 where
  pub rule : Rule
  pub broken : ¬ Keeps initial before event rule
  pub first : (other : Rule) → rank other < rank rule → Keeps initial before event other
  pub told : IsToldOf before event rule breach

-- each of the first events keeps to all rules
abbrev pub AreRightBelow : List (Cell × Value) → List Event → ℕ → Type 0
AreRightBelow initial all n = (k : ℕ) (event : Event) → k < n → slice_get all k ≡ Some event → IsRight initial (take k all) event

-- each event keeps to all rules
abbrev pub AreRight : List (Cell × Value) → List Event → Type 0
AreRight initial all = AreRightBelow initial all (length all)

-- the first event that breaks a rule
pub record IsFirstEventBreach (initial : List (Cell × Value)) (all : List Event) (breach : Breach) : Type 0 where
  pub place : ℕ
  pub event : Event
  pub is : slice_get all place ≡ Some event
  pub right : AreRightBelow initial all place
  pub breach_is : IsBreachOf initial (take place all) event breach

-- what is found of an event: nothing where it keeps to all rules, and else its breach
abbrev pub IsVerdict : List (Cell × Value) → List Event → Event → Option Breach → Type 0
IsVerdict initial before event None = IsRight initial before event
IsVerdict initial before event (Some breach) = IsBreachOf initial before event breach

-- what holds of the breach, where the answer is one
abbrev pub IfBreach : {X : Type 0} → Result X CheckFault → (Breach → Type 0) → Type 0
IfBreach (Err (IsBreach breach)) P = P breach
IfBreach _ P = Unit {0}
