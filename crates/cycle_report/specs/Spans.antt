-- Two numbers of each transaction that tell much of its causal past.
use Rattle.std.specs.Prelude.{◌≡◌, ◌<◌, ◌≤◌, ℕ, Some, List, length, slice_get}
use Rattle.history_core.specs.declared.event.Event.{Event}
use Rattle.history_core.specs.Relations.{PrecedesCausally}
use Rattle.order_test.specs.Sights.{IsNumber}
use Rattle.cycle_report.specs.declared.spans.Span.{Span}

-- all transactions after the initial one and up to the number are in the past
abbrev pub IsFloor : List Event → ℕ → ℕ → Type 0
IsFloor events number floor = (writer : ℕ) → 0 < writer → writer ≤ floor → PrecedesCausally events writer number

-- none above it is
abbrev pub IsTop : List Event → ℕ → ℕ → Type 0
IsTop events number top = (writer : ℕ) → IsNumber events writer → PrecedesCausally events writer number → writer ≤ top

pub record IsSpanOf (events : List Event) (number : ℕ) (span : Span) : Type 0 where
  pub floor : IsFloor events number span.floor
  pub top : IsTop events number span.top

-- each of the first n transactions has its span
pub record AreSpans (events : List Event) (n : ℕ) (spans : List Span) : Type 0 where
  pub count : length spans ≡ n
  pub each : (number : ℕ) (span : Span) → slice_get spans number ≡ Some span → IsSpanOf events number span
