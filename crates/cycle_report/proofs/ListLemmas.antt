-- The committed writers of each cell, listed as the transactions come one after another, and what a read demands of them alone.
use Rattle.std.proofs.Common.{◌≡◌, ℕ, ◌+◌, ◌-◌, List, [], length, Some, arith, ap, sym, ◌∙◌, subst, inl, inr}
use Rattle.std.specs.List.{Contains, slice_get}
use Rattle.std.specs.List.Sorted.{IsStrictlyIncreasing}
use Rattle.std.proofs.lemmas.Bool.{cases_eq, cases_lt}
use Rattle.std.proofs.lemmas.Option.{slice_get_cases}
use Rattle.graph_base.specs.Order.{place_of}
use Rattle.graph_base.proofs.Places.{Contains-from_place, place_of-contained}
use Rattle.cell_base.specs.declared.level.Level.{Level}
use Rattle.cell_base.specs.declared.cell.Cell.{Cell}
use Rattle.cell_base.specs.declared.value.Value.{Value}
use Rattle.cell_writers.specs.declared.writers.CellWriters.{CellWriters}
use Rattle.cell_writers.specs.Writers.{numbers_at, AreAscending, GainsWrites}
use Rattle.history_core.specs.declared.event.Event.{Event}
use Rattle.history_core.specs.declared.event.Event.TheVariants.{Read}
use Rattle.history_core.specs.declared.txn.Txn.{Txn}
use Rattle.history_core.specs.declared.txn.TxnState.TheVariants.{Committed}
use Rattle.history_core.specs.Records.{IsRecordOf}
use Rattle.history_core.specs.Kept.{StandsForTxns}
use Rattle.history_core.proofs.Offers.{writer_bounded}
use Rattle.saturation.proofs.Sights.{writes_later}
use Rattle.order_test.specs.Settled.{IsOrderly}
use Rattle.order_test.specs.Sights.{IsNumber, IsReadAt, origin_of}
use Rattle.cycle_report.specs.Listed.{ListWriters}
use Rattle.cycle_report.specs.Reasons.{IsDemandedAt}
use Rattle.cycle_report.specs.Views.{IsNews}
use Rattle.cycle_report.proofs.DemandLemmas.{demand_rival, demand_source}

pub list_none : (txns : List Txn) (writers : CellWriters) → ((cell : Cell) → numbers_at writers cell ≡ []) → ListWriters txns 0 writers
list_none txns writers empty = record {
  ascending = λ cell. subst IsStrictlyIncreasing (sym (empty cell)) (λ k within. absurd (omega arith));
  sound = λ cell number there.
      let none = subst (λ (ns : List ℕ). Contains ns number) (empty cell) there in
      let within = none.1 in absurd (omega arith);
  whole = λ place txn cell value below. absurd (omega arith);
}

-- a transaction that hasn't committed
pub list_skip :
    (txns : List Txn) (n : ℕ) (txn : Txn) (writers : CellWriters) → slice_get txns n ≡ Some txn → (txn.state ≡ Committed → ⊥) → ListWriters txns n writers →
    ListWriters txns (n + 1) writers
list_skip txns n txn writers at none before = record {
  ascending = before.ascending;
  sound = λ cell number there. let h = before.sound cell number there in let few = h.1 in (h.0, omega arith);
  whole = λ place other cell value below is state member. elim (cases_eq place n) [
    | inl same ↦
        let both : Some other ≡ Some txn = sym is ∙ ap (λ (k : ℕ). slice_get txns k) same ∙ at in
        let one : other ≡ txn = cc in
        absurd (none (ap (λ (t : Txn). t.state) (sym one) ∙ state))
    | inr apart ↦ before.whole place other cell value (omega arith) is state member
  ];
}

-- one that has
pub list_note :
    (txns : List Txn) (n number : ℕ) (txn : Txn) (written : List (Cell × Value)) (old new : CellWriters) → slice_get txns n ≡ Some txn → number ≡ n + 1 →
    written ≡ txn.buffer.writes → AreAscending new → GainsWrites old written number new → ListWriters txns n old → ListWriters txns (n + 1) new
list_note txns n number txn written old new at next are ascending gains before = record {
  ascending = ascending;
  sound = λ cell other there. elim ((gains cell other).0 there) [
    | inl was ↦ let h = before.sound cell other was in let few = h.1 in (h.0, omega arith)
    | inr now ↦ let same = now.1 in (omega arith, omega arith)
  ];
  whole = λ place other cell value below is state member. (gains cell (place + 1)).1 (elim (cases_eq place n) [
    | inl same ↦
        let both : Some other ≡ Some txn = sym is ∙ ap (λ (k : ℕ). slice_get txns k) same ∙ at in
        let one : other ≡ txn = cc in
        inr (
          (value, subst (λ (ws : List (Cell × Value)). Contains ws (cell, value)) (sym are) (subst (λ (t : Txn). Contains t.buffer.writes (cell, value)) one member)),
          ap (λ (k : ℕ). k + 1) same ∙ sym next,
        )
    | inr apart ↦ inl (before.whole place other cell value (omega arith) is state member)
  ]);
}

-- a listed number is that of a transaction
pub listed_number :
    (events : List Event) (txns : List Txn) (writers : CellWriters) → StandsForTxns events txns → ListWriters txns (length txns) writers → (cell : Cell) (number : ℕ) →
    Contains (numbers_at writers cell) number → IsNumber events number
listed_number events txns writers stands lists cell number there =
    let h = lists.sound cell number there in
    let few = h.1 in
    let count = stands.count in
    (h.0, omega arith)

-- what a read demands it demands of a listed writer of its cell
pub news_listed :
    (level : Level) (events : List Event) (txns : List Txn) (writers : CellWriters) → IsOrderly events → StandsForTxns events txns →
    ListWriters txns (length txns) writers → (place s w n u : ℕ) (x : Cell) (v : Value) (reader : ℕ) → IsReadAt events place (Read s x w n u v) reader →
    (a b : ℕ) → IsNews level events place a b → Contains (numbers_at writers x) a
news_listed level events txns writers orderly stands lists place s w n u x v reader read a b news =
    elim (cases_lt (place_of (numbers_at writers x) a) (length (numbers_at writers x))) [
      | inl found ↦ Contains-from_place (numbers_at writers x) a found
      | inr missing ↦ absurd (missed (λ there. let h = place_of-contained (numbers_at writers x) a there in omega arith))
    ]
  where
    event : Event
    event = Read s x w n u v

    missed : (Contains (numbers_at writers x) a → ⊥) → ⊥
    missed none =
        let positive = news.positive in
        let cell : Cell = news.demands.0 in
        let from = demand_source level events place event a b read.of.is news.demands in
        let d : IsDemandedAt level events place cell a (origin_of event) = subst (λ (k : ℕ). IsDemandedAt level events place cell a k) from news.demands.1 in
        elim (slice_get_cases txns (a - 1)).1 [
          | inl found ↦
              let txn : Txn = found.0 in
              let number : (a - 1) + 1 ≡ a = omega arith in
              let is = subst (λ (k : ℕ). IsRecordOf events k txn) number (stands.each (a - 1) txn found.2) in
              let state = is.committed.1 (writes_later events a cell positive d.writes).0 in
              demand_rival level events place event reader txn cell a orderly read positive is d (λ rival.
              let there = lists.whole (a - 1) txn cell rival.value found.1 found.2 state rival.written in
              none (subst (λ (c : Cell). Contains (numbers_at writers c) a) (sym rival.gives.0)
              (subst (λ (k : ℕ). Contains (numbers_at writers cell) k) number there)))
          | inr past ↦
              let bounded = writer_bounded events a cell d.writes in
              let count = stands.count in
              let late = past.0 in
              absurd (omega arith)
        ]
