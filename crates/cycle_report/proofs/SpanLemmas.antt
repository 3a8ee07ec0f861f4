-- Two numbers of each transaction that tell much of its causal past, and what of a list of writers they leave to look at.
use Rattle.std.proofs.Common.{◌≡◌, ℕ, ◌+◌, ◌-◌, ◌<◌, ◌≤◌, List, [], ◌∷◌, ◌++◌, length, get_or, Some, None, refl, arith, ap, sym, ◌∙◌, subst, inl, inr}
use Rattle.std.specs.List.{Contains, slice_get}
use Rattle.std.specs.List.Sorted.{IsStrictlyIncreasing}
use Rattle.std.proofs.lemmas.Bool.{cases_eq, cases_lt}
use Rattle.std.proofs.lemmas.List.{length_push, get_or_past}
use Rattle.std.proofs.lemmas.Option.{slice_get_cases, slice_get_within, get_or_from_slice_get}
use Rattle.txn_buffer.proofs.Lists.{at_contains, slice_get_push_cases}
use Rattle.graph_base.specs.declared.Edge.{Edge}
use Rattle.graph_base.proofs.Chains.{chained_on}
use Rattle.cell_base.specs.declared.level.Level.{Level}
use Rattle.indexed_history.proofs.Ascending.{increasing_less}
use Rattle.history_core.specs.declared.event.Event.{Event}
use Rattle.history_core.specs.declared.txn.Txn.{Txn}
use Rattle.history_core.specs.Kept.{StandsForTxns}
use Rattle.history_core.specs.Records.{IsRecordOf}
use Rattle.history_core.specs.Relations.{Precedes, PrecedesCausally}
use Rattle.saturation.specs.Pairs.{AddsPairs}
use Rattle.saturation.proofs.Adds.{adds_none, adds_as}
use Rattle.order_test.specs.Settled.{IsOrderly}
use Rattle.order_test.specs.Sights.{IsNumber, IsReadAt, origin_of}
use Rattle.order_test.proofs.QuickLemmas.{visible_is_causal}
use Rattle.cycle_report.specs.declared.pasts.Past.{Past}
use Rattle.cycle_report.specs.declared.spans.Span.{Span}
use Rattle.cycle_report.specs.Pasts.{IsPastOf}
use Rattle.cycle_report.specs.Spans.{IsFloor, IsTop, IsSpanOf, AreSpans}
use Rattle.cycle_report.specs.Views.{IsNews}
use Rattle.cycle_report.proofs.DemandLemmas.{demand_visible}
use Rattle.cycle_report.proofs.PairSteps.{IsNewsAmong, news_source}

-- ---- the floor

pub floor_none : (events : List Event) (number : ℕ) → IsFloor events number 0
floor_none events number writer some upto = absurd (omega arith)

pub floor_on : (events : List Event) (last number floor : ℕ) → PrecedesCausally events last number → IsFloor events last floor → IsFloor events number floor
floor_on events last number floor causal below writer some upto = chained_on (Precedes events) writer last number (below writer some upto) causal

pub floor_more : (events : List Event) (number up : ℕ) → IsFloor events number up → PrecedesCausally events (up + 1) number → IsFloor events number (up + 1)
floor_more events number up below next writer some upto = elim (cases_eq writer (up + 1)) [
  | inl same ↦ subst (λ (n : ℕ). PrecedesCausally events n number) (sym same) next
  | inr other ↦ below writer some (omega arith)
]

-- ---- the top

pub top_of_past :
    (events : List Event) (txns : List Txn) (width number top : ℕ) (past : Past) → StandsForTxns events txns → IsPastOf events width number past →
    ((at : ℕ) → get_or past.tops.items at 0 ≤ top) → IsTop events number top
top_of_past events txns width number top past stands is bounded writer within causal =
    let some = within.0 in
    let few = within.1 in
    let count = stands.count in
    elim (slice_get_cases txns (writer - 1)).1 [
      | inl found ↦
          let txn : Txn = found.0 in
          let same : (writer - 1) + 1 ≡ writer = omega arith in
          let record_of = subst (λ (k : ℕ). IsRecordOf events k txn) same (stands.each (writer - 1) txn found.2) in
          let up = (is.exact txn.session writer record_of.place record_of.started).1 causal in
          let all = bounded txn.session in
          omega arith
      | inr past_end ↦ let late = past_end.0 in absurd (omega arith)
    ]

-- what is no less than each number of a list is no less than what stands beyond it
pub bound_all : (numbers : List ℕ) (n top : ℕ) → length numbers ≤ n → ((at : ℕ) → at < n → get_or numbers at 0 ≤ top) → (at : ℕ) → get_or numbers at 0 ≤ top
bound_all numbers n top end bounded at = elim (cases_lt at (length numbers)) [
  | inl within ↦ bounded at (omega arith)
  | inr beyond ↦ let none = get_or_past numbers at 0 (omega arith) in omega arith
]

-- ---- the list

pub spans_none : (events : List Event) → AreSpans events 0 []
spans_none events = record { count = refl; each = λ number span is. let none : None ≡ Some span = is in absurd cc }

pub spans_push :
    (events : List Event) (n : ℕ) (spans : List Span) (span : Span) → IsSpanOf events n span → AreSpans events n spans → AreSpans events (n + 1) (spans ++ span ∷ [])
spans_push events n spans span is are =
    let count = are.count in
    record {
      count = length_push spans span ∙ ap (λ (k : ℕ). k + 1) are.count;
      each = λ number own there. elim (slice_get_push_cases spans span number own there) [
        | inl before ↦ are.each number own before.1
        | inr last ↦
            let same : n ≡ number = sym count ∙ sym last.0 in
            subst (λ (k : ℕ). IsSpanOf events k own) same (subst (IsSpanOf events n) last.1 is)
      ];
    }

-- ---- what is left to look at

-- writers up to the floor of the source are in its past
pub among_start :
    (level : Level) (events : List Event) (place from floor : ℕ) (event : Event) (numbers : List ℕ) (edges : List Edge) → slice_get events place ≡ Some event →
    IsFloor events (origin_of event) floor → ((k : ℕ) → k < from → get_or numbers k 0 ≤ floor) →
    AddsPairs (IsNewsAmong level events place numbers from) edges edges
among_start level events place from floor event numbers edges is below low =
    adds_none (IsNewsAmong level events place numbers from) edges (λ a b of.
    let value : get_or numbers of.at 0 ≡ a = get_or_from_slice_get numbers of.at a 0 of.is in
    let upto = low of.at of.below in
    of.news.apart (subst (λ (n : ℕ). PrecedesCausally events a n) (sym (news_source level events place event a b is of.news))
    (below a of.news.positive (omega arith))))

-- writers from one on that is above the top of the reader aren't seen
pub among_end :
    (level : Level) (events : List Event) (place at number top reader : ℕ) (event : Event) (numbers : List ℕ) (old new : List Edge) → IsOrderly events →
    IsReadAt events place event reader → IsStrictlyIncreasing numbers → ((n : ℕ) → Contains numbers n → IsNumber events n) → IsTop events reader top →
    slice_get numbers at ≡ Some number → top < number → ((a b : ℕ) → IsNews level events place a b → Contains numbers a) →
    AddsPairs (IsNewsAmong level events place numbers at) old new → AddsPairs (IsNews level events place) old new
among_end level events place at number top reader event numbers old new orderly read rises are above here late whole adds =
    adds_as (IsNewsAmong level events place numbers at) (IsNews level events place) old new
    (λ a b is. is.news)
    (λ a b is.
    let found = at_contains numbers a (whole a b is) in
    elim (cases_lt found.0 at) [
      | inl below ↦ record { at = found.0; below = below; is = found.1; news = is }
      | inr beyond ↦
          let seen = demand_visible level events place event reader is.demands.0 a b orderly read is.demands.1 in
          let upto = above a (are a (whole a b is)) (visible_is_causal events reader place a level seen) in
          let value : get_or numbers found.0 0 ≡ a = get_or_from_slice_get numbers found.0 a 0 found.1 in
          let first : get_or numbers at 0 ≡ number = get_or_from_slice_get numbers at number 0 here in
          absurd (elim (cases_eq at found.0) [
            | inl same ↦ let one : get_or numbers at 0 ≡ get_or numbers found.0 0 = ap (λ (k : ℕ). get_or numbers k 0) same in omega arith
            | inr other ↦
                let up = increasing_less numbers rises at found.0 (omega arith) (slice_get_within numbers found.0 a found.1) in omega arith
          ])
    ])
    adds
