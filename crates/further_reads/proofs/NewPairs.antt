-- The pairs that a history forces with a further read of a pending transaction.
use Rattle.std.proofs.Common.{◌≡◌, ℕ, List, arith, sym, ◌∙◌, subst, inl, inr}
use Rattle.std.proofs.lemmas.Bool.{cases_eq}
use Rattle.graph_base.specs.declared.Edge.{Edge}
use Rattle.cell_base.specs.declared.level.Level.{Level}
use Rattle.cell_base.specs.declared.cell.Cell.{Cell}
use Rattle.cell_base.specs.declared.value.Value.{Value}
use Rattle.history_core.specs.declared.event.Event.{Event}
use Rattle.history_core.specs.declared.event.Event.TheVariants.{Read}
use Rattle.history_core.specs.Transactions.{RunsAt, IsPending}
use Rattle.history_core.specs.Relations.{Writes, Precedes}
use Rattle.history_core.specs.Forced.{IsForced}
use Rattle.history_core.proofs.Prefixes.{IsSound}
use Rattle.history_core.proofs.Offers.{precedes_read}
use Rattle.saturation.specs.Laws.{with_read}
use Rattle.saturation.proofs.After.{precedes_kept, precedes_now, forced_after, forced_before}
use Rattle.saturation.proofs.Decides.{initial_ordered}
use Rattle.further_reads.specs.Further.{IsNewDemand, AreNewDemands, IsForcedOrNew, PrecedesOrNew}
use Rattle.further_reads.proofs.NewDemands.{demands_with, with_demands, new_demand_apart, new_demand_range}

-- a new demand is an edge, or begins at the initial transaction, which is before all others as it is
new_demand_pair :
    (level : Level) (events : List Event) → IsSound events → (k : ℕ) (x : Cell) (w : ℕ) (edges : List Edge) → Writes events w x →
    AreNewDemands level events k x w edges → (a b : ℕ) → IsNewDemand level events k x w a b → IsForcedOrNew events edges w k a b
new_demand_pair level events sound k x w edges writes are a b new =
    elim (cases_eq a 0) [
      | inr positive ↦ inr (inl (are.whole a b (omega arith) new))
      | inl initial ↦
          let range = new_demand_range level events sound k x w writes a b new in
          let small = range.1 in
          let apart : b ≡ 0 → ⊥ = λ same. new_demand_apart level events k x w a b new (initial ∙ sym same) in
          inl (inl (inl (initial_ordered events a b initial (omega arith) (omega arith))))
    ]

pub pairs_with :
    (level : Level) (events : List Event) → IsSound events → (s k : ℕ) (x : Cell) (w n u : ℕ) (v : Value) (edges : List Edge) → IsPending events k s →
    RunsAt events k level → Writes events w x → AreNewDemands level events k x w edges → (a b : ℕ) →
    IsForced (with_read events s x w n u v) a b → IsForcedOrNew events edges w k a b
pairs_with level events sound s k x w n u v edges pending runs writes are a b forced =
    elim (forced_before events sound s k x w n u v pending writes a b forced) [
      | inl old ↦ inl old
      | inr more ↦ elim more [
        | inl link ↦ inr (inr link)
        | inr own ↦ elim (demands_with level events sound s k x w n u v pending runs a b own) [
          | inl before ↦ inl (inr before.0)
          | inr new ↦ new_demand_pair level events sound k x w edges writes are a b new
        ]
      ]
    ]

pub with_pairs :
    (level : Level) (events : List Event) (s k : ℕ) (x : Cell) (w n u : ℕ) (v : Value) (edges : List Edge) → IsPending events k s →
    RunsAt events k level → AreNewDemands level events k x w edges → (a b : ℕ) →
    IsForcedOrNew events edges w k a b → IsForced (with_read events s x w n u v) a b
with_pairs level events s k x w n u v edges pending runs are a b (inl old) = forced_after events s k x w n u v pending a b (inl old)
with_pairs level events s k x w n u v edges pending runs are a b (inr (inr link)) = forced_after events s k x w n u v pending a b (inr (inl link))
with_pairs level events s k x w n u v edges pending runs are a b (inr (inl edge)) =
    inr (with_demands level events s k x w n u v pending runs a b (inr (are.sound a b edge))).0

pub precedes_with :
    (events : List Event) → IsSound events → (s k : ℕ) (x : Cell) (w n u : ℕ) (v : Value) → IsPending events k s → (a b : ℕ) →
    Precedes (with_read events s x w n u v) a b → PrecedesOrNew events w k a b
precedes_with events sound s k x w n u v pending a b precedes = precedes_read events sound s k x w n u v pending a b precedes

pub with_precedes :
    (events : List Event) (s k : ℕ) (x : Cell) (w n u : ℕ) (v : Value) → IsPending events k s → (a b : ℕ) →
    PrecedesOrNew events w k a b → Precedes (with_read events s x w n u v) a b
with_precedes events s k x w n u v pending a b (inl old) = precedes_kept events (Read s x w n u v) a b old
with_precedes events s k x w n u v pending a b (inr link) =
    subst (λ (m : ℕ). Precedes (with_read events s x w n u v) m b) (sym link.0)
    (subst (λ (m : ℕ). Precedes (with_read events s x w n u v) w m) (sym link.1) (precedes_now events s k x w n u v pending))
