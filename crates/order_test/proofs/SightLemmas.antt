-- What the records of transactions show of what a read sees.
use Rattle.std.proofs.Common.{◌≡◌, ℕ, ◌+◌, ◌<◌, ◌≤◌, List, [], ◌∷◌, Some, arith, sym, ◌∙◌, subst, inl, inr, ◌↔◌}
use Rattle.std.specs.List.{slice_get, Any}
use Rattle.std.proofs.lemmas.Bool.{cases_eq, cases_lt}
use Rattle.graph_base.specs.Order.{place_of}
use Rattle.std.proofs.lemmas.Bool.Decides.{nat_tests}
use Rattle.cell_base.specs.declared.level.Level.{Level}
use Rattle.history_core.specs.declared.event.Event.{Event}
use Rattle.history_core.specs.declared.txn.Txn.{Txn}
use Rattle.history_core.specs.Events.{begun}
use Rattle.history_core.specs.Transactions.{IsStart, RunsAt}
use Rattle.history_core.specs.Relations.{IsSessionOrdered, Precedes, IsVisibleAt, IsVisible}
use Rattle.history_core.specs.Records.{IsRecordOf}
use Rattle.history_core.specs.Kept.{StandsForTxns}
use Rattle.history_core.proofs.Places.{start_session, runs_unique}
use Rattle.history_core.proofs.Prefixes.{start_bounded}
use Rattle.saturation.specs.Views.{IsReadFrom}
use Rattle.saturation.proofs.Sights.{reads_from_record, record_reads_from}
use Rattle.order_test.specs.Unkept.{HoldsAll, HoldsTransactions, StandsBefore, IsOutOfSession, IsFirstOutOfSession}

-- ---- the initial transaction stands before all others

pub first_before : (size : ℕ) (order : List ℕ) → HoldsAll size order → (n : ℕ) → 0 < n → n < size → StandsBefore order 0 n
first_before size [] holds n positive small = let none = holds.first in cc
first_before size (x ∷ xs) holds n positive small =
    let first : Some x ≡ Some 0 = holds.first in
    let zero : x ≡ 0 = cc in
    let zero_place : place_of (x ∷ xs) 0 ≡ 0 = grind (arith, nat_tests) in
    let later : 0 < place_of (x ∷ xs) n = grind (arith, nat_tests) in
    omega arith

-- ---- records by number

pub record_at : (events : List Event) (txns : List Txn) → StandsForTxns events txns → (k i : ℕ) (txn : Txn) → i + 1 ≡ k → slice_get txns i ≡ Some txn → IsRecordOf events k txn
record_at events txns stands k i txn number is = subst (λ (n : ℕ). IsRecordOf events n txn) number (stands.each i txn is)

pub ordered_from_records :
    (events : List Event) (a b : ℕ) (x y : Txn) → IsRecordOf events a x → IsRecordOf events b y → a < b → x.session ≡ y.session → IsSessionOrdered events a b
ordered_from_records events a b x y is_a is_b less same = record {
  earlier = less;
  place = is_b.place;
  session = y.session;
  started = is_b.started;
  same = inr (is_a.place, subst (λ (s : ℕ). IsStart events a s is_a.place) same is_a.started);
}

pub records_from_ordered :
    (events : List Event) (a b : ℕ) (x y : Txn) → 0 < a → IsRecordOf events a x → IsRecordOf events b y → IsSessionOrdered events a b → x.session ≡ y.session
records_from_ordered events a b x y positive is_a is_b so =
    elim so.same [
      | inl initial ↦ absurd (omega arith)
      | inr other ↦
          start_session events a x.session so.session is_a.place other.0 is_a.started other.1
          ∙ start_session events b so.session y.session so.place is_b.place so.started is_b.started
    ]

-- ---- the pairs that the order doesn't have, one after another

pub out_bounds : (events : List Event) (order : List ℕ) → HoldsTransactions events order → (a b : ℕ) → IsOutOfSession events order a b → (0 < a) × (a < b) × (b ≤ begun events)
out_bounds events order holds a b out =
    let so = out.ordered in
    let h : b ≤ begun events = start_bounded events b so.session so.place so.started in
    let less = so.earlier in
    elim (cases_eq a 0) [
      | inl initial ↦ absurd (out.late (subst (λ (n : ℕ). StandsBefore order n b) (sym initial) (first_before (begun events + 1) order holds b (omega arith) (omega arith))))
      | inr other ↦ (omega arith, less, h)
    ]

abbrev pub NoneLateBelow : List Event → List ℕ → ℕ → ℕ → Type 0
NoneLateBelow events order earlier n = (other : ℕ) → other ≤ n → IsOutOfSession events order earlier other → ⊥

pub late_step :
    (events : List Event) (order : List ℕ) (earlier n : ℕ) → (IsOutOfSession events order earlier (n + 1) → ⊥) → NoneLateBelow events order earlier n →
    NoneLateBelow events order earlier (n + 1)
late_step events order earlier n none before other within out =
    elim (cases_eq other (n + 1)) [
      | inl same ↦ none (subst (λ (m : ℕ). IsOutOfSession events order earlier m) same out)
      | inr apart ↦ before other (omega arith) out
    ]

abbrev pub NoneOutBelow : List Event → List ℕ → ℕ → Type 0
NoneOutBelow events order n = (a b : ℕ) → a ≤ n → IsOutOfSession events order a b → ⊥

pub out_step :
    (events : List Event) (order : List ℕ) (n : ℕ) → ((b : ℕ) → IsOutOfSession events order (n + 1) b → ⊥) → NoneOutBelow events order n → NoneOutBelow events order (n + 1)
out_step events order n none before a b within out =
    elim (cases_eq a (n + 1)) [
      | inl same ↦ none b (subst (λ (m : ℕ). IsOutOfSession events order m b) same out)
      | inr apart ↦ before a b (omega arith) out
    ]

pub out_first :
    (events : List Event) (order : List ℕ) (n later : ℕ) → IsOutOfSession events order (n + 1) later → ((other : ℕ) → IsOutOfSession events order (n + 1) other → later ≤ other) →
    NoneOutBelow events order n → IsFirstOutOfSession events order (n + 1) later
out_first events order n later out least before = record {
  is = out;
  least = λ a b other. elim (cases_eq a (n + 1)) [
    | inl same ↦ inr (sym same, least b (subst (λ (m : ℕ). IsOutOfSession events order m b) same other))
    | inr apart ↦ elim (cases_lt a (n + 1)) [
      | inl less ↦ absurd (before a b (omega arith) other)
      | inr more ↦ inl (omega arith)
    ]
  ];
}

-- ---- what a read sees

-- the records of the writer and of the reader decide whether the one precedes the other
pub precedes_from_records :
    (events : List Event) (writer reader : ℕ) (txn : Txn) → 0 < writer → IsRecordOf events reader txn → (IsSessionOrdered events writer reader → ⊥) →
    Precedes events writer reader ↔ Any (λ s. IsReadFrom s writer) txn.seen
precedes_from_records events writer reader txn positive is none = (
  λ p. elim p [ inl so ↦ absurd (none so) | inr wr ↦ record_reads_from events reader writer txn positive is wr ],
  λ any. inr (reads_from_record events reader writer txn is any),
)

pub visible_at :
    (events : List Event) (reader place writer : ℕ) (level : Level) → RunsAt events reader level → IsVisibleAt level events reader place writer ↔ IsVisible events reader place writer
visible_at events reader place writer level runs = (
  λ sees. record { level = level; runs = runs; sees = sees },
  λ visible.
      subst (λ (l : Level). IsVisibleAt l events reader place writer) (runs_unique events reader visible.level level visible.runs runs) visible.sees,
)
