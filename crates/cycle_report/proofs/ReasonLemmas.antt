-- The first reason of a pair.
use Rattle.std.proofs.Common.{◌≡◌, ℕ, ◌+◌, ◌<◌, ◌≤◌, List, [], length, arith, refl, subst, inl, inr}
use Rattle.std.specs.List.{Any}
use Rattle.std.proofs.lemmas.Bool.{cases_lt, cases_order}
use Rattle.graph_base.specs.declared.Edge.{Edge}
use Rattle.cell_base.specs.declared.level.Level.{Level}
use Rattle.cell_base.specs.declared.cell.Cell.{Cell}
use Rattle.history_core.specs.declared.event.Event.{Event}
use Rattle.history_core.specs.Events.{begun}
use Rattle.saturation.specs.Pairs.{AddsPairs}
use Rattle.saturation.proofs.Sights.{any_from_contains}
use Rattle.order_test.specs.Sights.{IsNumber}
use Rattle.history_core.proofs.Offers.{writer_bounded}
use Rattle.cycle_report.specs.declared.judgement.Reason.{Reason}
use Rattle.cycle_report.specs.declared.judgement.Reason.TheVariants as reasons
use Rattle.cycle_report.specs.Reasons.{IsNext, IsReadFromAt, IsDemandedAt, HasReason, IsToldFirst, IsReasonOf}
use Rattle.cycle_report.specs.Views.{DemandsAt, IsListedAt, IsListed}
use Rattle.cycle_report.specs.Firsts.{IsFirstRead, IsFirstDemanding}
use Rattle.cycle_report.proofs.Orders.{read_place, demand_read}

-- ---- links

pub link_found : (events : List Event) (links : List Edge) (a b : ℕ) → AddsPairs (IsNext events) [] links → Any (λ e. (e.before ≡ a) × (e.after ≡ b)) links → IsNext events a b
link_found events links a b adds (k, e, within, is, same) =
    elim (adds.sound e (k, within, is)) [
      | inl none ↦ let h = none.1 in absurd (omega arith)
      | inr next ↦
          subst (λ (n : ℕ). IsNext events n b) same.0 (subst (λ (n : ℕ). IsNext events e.before n) same.1 next)
    ]

pub link_there : (events : List Event) (links : List Edge) (a b : ℕ) → AddsPairs (IsNext events) [] links → IsNext events a b → Any (λ e. (e.before ≡ a) × (e.after ≡ b)) links
link_there events links a b adds next =
    let found = adds.whole a b next in
    any_from_contains (λ e. (e.before ≡ a) × (e.after ≡ b)) links found.0 found.1.0 (found.1.1, found.1.2)

-- ---- the first read

abbrev pub NoReadBelow : List Event → ℕ → ℕ → ℕ → Type 0
NoReadBelow events source reader n = (earlier : ℕ) → earlier < n → IsReadFromAt events earlier source reader → ⊥

pub no_read_step :
    (events : List Event) (source reader n : ℕ) → (IsReadFromAt events n source reader → ⊥) → NoReadBelow events source reader n → NoReadBelow events source reader (n + 1)
no_read_step events source reader n none before earlier below read =
    elim (cases_lt earlier n) [
      | inl less ↦ before earlier less read
      | inr more ↦
          let same : earlier ≡ n = omega arith in
          none (subst (λ (p : ℕ). IsReadFromAt events p source reader) same read)
    ]

pub no_read_all :
    (events : List Event) (source reader n : ℕ) → length events ≤ n → NoReadBelow events source reader n → (place : ℕ) → IsReadFromAt events place source reader → ⊥
no_read_all events source reader n end before place read =
    let h = read_place events place source reader read in before place (omega arith) read

-- ---- the first demand

abbrev pub NoDemandBelow : Level → List Event → ℕ → ℕ → ℕ → Type 0
NoDemandBelow level events first second n = (earlier : ℕ) → earlier < n → DemandsAt level events earlier first second → ⊥

pub no_demand_step :
    (level : Level) (events : List Event) (first second n : ℕ) → (DemandsAt level events n first second → ⊥) → NoDemandBelow level events first second n →
    NoDemandBelow level events first second (n + 1)
no_demand_step level events first second n none before earlier below demand =
    elim (cases_lt earlier n) [
      | inl less ↦ before earlier less demand
      | inr more ↦
          let same : earlier ≡ n = omega arith in
          none (subst (λ (p : ℕ). DemandsAt level events p first second) same demand)
    ]

pub no_demand_all :
    (level : Level) (events : List Event) (first second n : ℕ) → length events ≤ n → NoDemandBelow level events first second n → (place : ℕ) →
    DemandsAt level events place first second → ⊥
no_demand_all level events first second n end before place (cell, d) =
    let h = read_place events place second d.reader (demand_read level events place cell first second d) in before place (omega arith) (cell, d)

-- ---- the reasons

pub session_reason : (level : Level) (events : List Event) (a b : ℕ) → IsNext events a b → IsReasonOf level events a b reasons.SessionOrder
session_reason level events a b next = record { has = next; is_first = λ other has. tt }

pub read_reason :
    (level : Level) (events : List Event) (a b number : ℕ) → (IsNext events a b → ⊥) → IsFirstRead events a b number → IsReasonOf level events a b (reasons.Read number)
read_reason level events a b number apart first = record {
  has = (first.place, first.number_is, first.is);
  is_first = λ other has. up other has;
}
  where
    up : (other : Reason) → HasReason level events a b other → IsToldFirst (reasons.Read number) other
    up reasons.SessionOrder next = apart next
    up (reasons.Read event) (place, is, read) =
        elim (cases_lt place first.place) [
          | inl less ↦ absurd (first.none_before place less read)
          | inr more ↦ let n = first.number_is in omega arith
        ]
    up (reasons.Axiom event cell) has = tt

pub axiom_reason :
    (level : Level) (events : List Event) (a b place : ℕ) (cell : Cell) → (IsNext events a b → ⊥) → ((at : ℕ) → IsReadFromAt events at a b → ⊥) →
    IsFirstDemanding level events a b place cell → IsReasonOf level events a b (reasons.Axiom (place + 1) cell)
axiom_reason level events a b place cell apart unread first = record {
  has = (place, refl, first.is.is);
  is_first = λ other has. up other has;
}
  where
    up : (other : Reason) → HasReason level events a b other → IsToldFirst (reasons.Axiom (place + 1) cell) other
    up reasons.SessionOrder next = apart next
    up (reasons.Read event) (at, is, read) = unread at read
    up (reasons.Axiom event of) (at, is, d) =
        elim (cases_order at place) [
          | inl same ↦
              let number : place + 1 ≡ event = omega arith in
              inr (number, first.is.least of (subst (λ (p : ℕ). IsDemandedAt level events p of a b) same d))
          | inr other ↦ elim other [
            | inl less ↦ absurd (first.none_before at less (of, d))
            | inr more ↦ let late : place + 1 < event = omega arith in inl late
          ]
        ]

-- a pair that is listed, of no neighbours and no read, is demanded of another than the initial transaction
pub listed_demanded :
    (level : Level) (events : List Event) (a b : ℕ) → (IsNext events a b → ⊥) → ((at : ℕ) → IsReadFromAt events at a b → ⊥) → IsListed level events a b →
    IsNumber events a × ((place : ℕ) × DemandsAt level events place a b)
listed_demanded level events a b apart unread (inl next) = absurd (apart next)
listed_demanded level events a b apart unread (inr below) = at below.place below.listed
  where
    at : (place : ℕ) → IsListedAt level events place a b → IsNumber events a × ((place : ℕ) × DemandsAt level events place a b)
    at place (inl read) = absurd (unread place read)
    at place (inr news) = by news.demands
      where
        by : DemandsAt level events place a b → IsNumber events a × ((place : ℕ) × DemandsAt level events place a b)
        by (cell, d) =
            let h : a < begun events + 1 = writer_bounded events a cell d.writes in
            let positive = news.positive in
            ((positive, omega arith), (place, (cell, d)))
