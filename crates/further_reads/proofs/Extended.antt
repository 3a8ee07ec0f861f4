-- A history with a further read is consistent exactly where the new demands close no cycle with what was forced before.
use Rattle.std.proofs.Common.{◌≡◌, ℕ, ◌+◌, ◌<◌, ◌≤◌, zero, suc, List, [], ◌∷◌, ◌++◌, Some, length, get_or, arith, refl, ap, sym, ◌∙◌, subst, inl, inr}
use Rattle.std.proofs.lemmas.List.Elements.{All-contains, Contains-get_or, Contains-append_cases, Contains-append_left, Contains-append_right, Contains-push}
use Rattle.std.proofs.lemmas.Option.{slice_get-get_or}
use Rattle.std.proofs.lemmas.Bool.{cases_order}
use Rattle.graph_base.specs.declared.Edge.{Edge}
use Rattle.graph_base.specs.Walk.{IsInRange, HasCycle, Leads, Reaches}
use Rattle.graph_base.specs.Order.{HoldsEachOnce, IsOrder, Extends, place_of}
use Rattle.graph_base.specs.Chain.{Chained}
use Rattle.graph_base.proofs.Walks.{leads_cases, reaches_edge, reaches_kept, cycle_push}
use Rattle.graph_base.proofs.Chains.{chained_one, chained_rises}
use Rattle.graph_base.proofs.Ranks.{rank_along, no_cycle_extended}
use Rattle.graph_base.proofs.Places.{place_of-first}
use Rattle.cell_base.specs.declared.level.Level.{Level}
use Rattle.cell_base.specs.declared.cell.Cell.{Cell}
use Rattle.cell_base.specs.declared.value.Value.{Value}
use Rattle.cell_base.specs.declared.value.Value.TheVariants.{Null}
use Rattle.history_core.specs.declared.event.Event.{Event}
use Rattle.history_core.specs.Events.{begun}
use Rattle.history_core.specs.Transactions.{RunsAt, IsPending}
use Rattle.history_core.specs.Relations.{Writes, Meets, IsConsistent}
use Rattle.history_core.specs.Legal.{IsPermitted}
use Rattle.history_core.specs.Forced.{IsForced}
use Rattle.history_core.proofs.Prefixes.{IsSound, found_once}
use Rattle.history_core.proofs.Offers.{writer_bounded}
use Rattle.history_core.proofs.Next.{pending_bounded}
use Rattle.saturation.specs.Laws.{with_read}
use Rattle.saturation.proofs.After.{size_after, pending_no_source, forced_after}
use Rattle.saturation.proofs.Decides.{initial_ordered}
use Rattle.saturation.proofs.Orders.{order_or_cycle}
use Rattle.further_reads.specs.Further.{AreNewDemands, IsForcedOrNew, HaveForcedClosure}
use Rattle.further_reads.proofs.NewDemands.{new_demand_writes, new_demand_range}
use Rattle.further_reads.proofs.NewPairs.{pairs_with, with_pairs}
use Rattle.further_reads.proofs.Pending.{pending_reaches_none}

-- the place rises along each walk
rises_along : (order : List ℕ) (edges : List Edge) → Extends order edges → (a b : ℕ) → Reaches edges a b → place_of order a < place_of order b
rises_along order edges extends a b on =
    let is = on.is in
    let up : place_of order on.first.before < place_of order on.first.after =
    All-contains (λ e. place_of order e.before < place_of order e.after) edges on.first extends is.1 in
    let begins : place_of order on.first.before ≡ place_of order a = ap (λ (n : ℕ). place_of order n) is.0 in
    let more : place_of order on.first.after ≤ place_of order b = rank_along (place_of order) edges extends on.first.after on.walk b is.2 in
    omega arith

-- the pairs that were forced before, the new demands, and the pair of the read
abbrev AllEdges : List Edge → List Edge → ℕ → ℕ → List Edge
AllEdges pairs edges w k = (pairs ++ edges) ++ record { before = w; after = k } ∷ []

all_in_range :
    (level : Level) (events : List Event) → IsSound events → (s k : ℕ) (x : Cell) (w : ℕ) (pairs edges : List Edge) → IsPending events k s →
    Writes events w x → HaveForcedClosure events pairs → AreNewDemands level events k x w edges → IsInRange (begun events + 1) (AllEdges pairs edges w k)
all_in_range level events sound s k x w pairs edges pending writes have are i d within =
    let all = AllEdges pairs edges w k in
    elim (Contains-append_cases (pairs ++ edges) (record { before = w; after = k } ∷ []) (get_or all i d) (Contains-get_or all i d within)) [
      | inl two ↦ elim (Contains-append_cases pairs edges (get_or all i d) two) [
        | inl old ↦ All-contains (λ e. (e.before < begun events + 1) × (e.after < begun events + 1)) pairs (get_or all i d) have.in_range old
        | inr new ↦
            new_demand_range level events sound k x w writes (get_or all i d).before (get_or all i d).after
            (are.sound (get_or all i d).before (get_or all i d).after new)
      ]
      | inr link ↦
          let small : w < begun events + 1 = writer_bounded events w x writes in
          let bounded : k ≤ begun events = pending_bounded events k s pending in
          All-contains (λ e. (e.before < begun events + 1) × (e.after < begun events + 1)) (record { before = w; after = k } ∷ []) (get_or all i d)
          (one_in_range w k small (omega arith)) link
    ]
  where
    one_in_range : (w k : ℕ) → w < begun events + 1 → k < begun events + 1 → IsInRange (begun events + 1) (record { before = w; after = k } ∷ [])
    one_in_range w k first second zero d within = (first, second)
    one_in_range w k first second (suc i) d within = absurd (omega arith)

-- nothing leads from the reader to its source
no_way_back :
    (level : Level) (events : List Event) → IsSound events → (s k : ℕ) (x : Cell) (w : ℕ) (pairs edges : List Edge) → IsPending events k s →
    Writes events w x → HaveForcedClosure events pairs → AreNewDemands level events k x w edges → Leads (pairs ++ edges) k w → ⊥
no_way_back level events sound s k x w pairs edges pending writes have are leads =
    elim (leads_cases (pairs ++ edges) k w leads) [
      | inl same ↦ pending_no_source events s k x w pending writes same
      | inr on ↦
          let is = on.is in
          elim (Contains-append_cases pairs edges on.first is.1) [
            | inl old ↦
                let chain : Chained (IsForced events) on.first.before on.first.after =
                (have.closure on.first.before on.first.after).0 (reaches_edge pairs on.first old) in
                pending_reaches_none events sound k s on.first.after pending (subst (λ (n : ℕ). Chained (IsForced events) n on.first.after) is.0 chain)
            | inr new ↦
                let wrote = new_demand_writes level events k x w on.first.before on.first.after (are.sound on.first.before on.first.after new) in
                pending_no_source events s k wrote.0 on.first.before pending wrote.1 (sym is.0)
          ]
    ]

-- an order of all these meets the history with the read
meets_with :
    (level : Level) (events : List Event) → IsSound events → (s k : ℕ) (x : Cell) (w n u : ℕ) (v : Value) (pairs edges : List Edge) (order : List ℕ) →
    IsPending events k s → RunsAt events k level → Writes events w x → HaveForcedClosure events pairs → AreNewDemands level events k x w edges →
    IsOrder (begun events + 1) (AllEdges pairs edges w k) order → Meets (with_read events s x w n u v) order
meets_with level events sound s k x w n u v pairs edges order pending runs writes have are is =
    let some : 0 < length order = let h = found_once (begun events + 1) order is.holds 0 (omega arith) in omega arith in
    let small : get_or order 0 0 < begun events + 1 =
    All-contains (λ n. n < begun events + 1) order (get_or order 0 0) is.holds.below (Contains-get_or order 0 0 some) in
    let at_front : place_of order (get_or order 0 0) ≤ 0 = place_of-first order 0 (get_or order 0 0) 0 some refl in
    record {
      holds = subst (λ (m : ℕ). HoldsEachOnce (m + 1) order) (sym (size_after events s x w n u v)) is.holds;
      first = elim (cases_order (get_or order 0 0) 0) [
        | inl initial ↦ slice_get-get_or order 0 0 some ∙ ap (λ (m : ℕ). Some m) initial
        | inr apart ↦ elim apart [
          | inl less ↦ absurd (omega arith)
          | inr more ↦
              let up : place_of order 0 < place_of order (get_or order 0 0) =
              rises 0 (get_or order 0 0) (inl (inl (inl (initial_ordered events 0 (get_or order 0 0) refl more (omega arith))))) in
              absurd (omega arith)
        ]
      ];
      precedes = λ a b p. rises a b (pairs_with level events sound s k x w n u v edges pending runs writes are a b (inl p));
      demands = λ a b d. rises a b (pairs_with level events sound s k x w n u v edges pending runs writes are a b (inr d));
    }
  where
    link : Edge
    link = record { before = w; after = k }

    rises : (a b : ℕ) → IsForcedOrNew events edges w k a b → place_of order a < place_of order b
    rises a b (inl old) =
        rises_along order (AllEdges pairs edges w k) is.extends a b
        (reaches_kept (pairs ++ edges) (link ∷ []) a b
        (reaches_kept pairs edges a b ((have.closure a b).1 (chained_one (IsForced events) a b old))))
    rises a b (inr (inl edge)) =
        All-contains (λ e. place_of order e.before < place_of order e.after) (AllEdges pairs edges w k) record { before = a; after = b } is.extends
        (Contains-append_left (pairs ++ edges) (link ∷ []) record { before = a; after = b }
        (Contains-append_right pairs edges record { before = a; after = b } edge))
    rises a b (inr (inr read)) =
        let up : place_of order w < place_of order k =
        All-contains (λ e. place_of order e.before < place_of order e.after) (AllEdges pairs edges w k) link is.extends
        (Contains-push (pairs ++ edges) link) in
        let first : place_of order a ≡ place_of order w = ap (λ (m : ℕ). place_of order m) read.0 in
        let second : place_of order b ≡ place_of order k = ap (λ (m : ℕ). place_of order m) read.1 in
        omega arith

pub consistent_with :
    (level : Level) (events : List Event) → IsSound events → (s k : ℕ) (x : Cell) (w n u : ℕ) (v : Value) (pairs edges : List Edge) → IsPending events k s →
    RunsAt events k level → Writes events w x → HaveForcedClosure events pairs → AreNewDemands level events k x w edges →
    (HasCycle (pairs ++ edges) → ⊥) → IsConsistent (with_read events s x w n u v)
consistent_with level events sound s k x w n u v pairs edges pending runs writes have are none =
    elim (order_or_cycle (begun events + 1) (AllEdges pairs edges w k) (all_in_range level events sound s k x w pairs edges pending writes have are)) [
      | inl order ↦ (order.0, meets_with level events sound s k x w n u v pairs edges order.0 pending runs writes have are order.1)
      | inr cycle ↦ elim (cycle_push (pairs ++ edges) record { before = w; after = k } cycle) [
        | inl old ↦ absurd (none old)
        | inr back ↦ absurd (no_way_back level events sound s k x w pairs edges pending writes have are back)
      ]
    ]

-- ---- and an order that meets the history with the read extends them

meets_rises :
    (events : List Event) (order : List ℕ) → Meets events order → (a b : ℕ) → IsForced events a b → place_of order a < place_of order b
meets_rises events order meets a b (inl precedes) = meets.precedes a b precedes
meets_rises events order meets a b (inr d) = meets.demands a b d

extends_with :
    (level : Level) (events : List Event) (s k : ℕ) (x : Cell) (w n u : ℕ) (v : Value) (pairs edges : List Edge) (order : List ℕ) → IsPending events k s →
    RunsAt events k level → HaveForcedClosure events pairs → AreNewDemands level events k x w edges →
    Meets (with_read events s x w n u v) order → Extends order (pairs ++ edges)
extends_with level events s k x w n u v pairs edges order pending runs have are meets i d within =
    elim (Contains-append_cases pairs edges (get_or (pairs ++ edges) i d) (Contains-get_or (pairs ++ edges) i d within)) [
      | inl old ↦
          let e = get_or (pairs ++ edges) i d in
          chained_rises (IsForced events) (place_of order)
          (λ a b forced. meets_rises (with_read events s x w n u v) order meets a b (forced_after events s k x w n u v pending a b (inl forced)))
          e.before e.after ((have.closure e.before e.after).0 (reaches_edge pairs e old))
      | inr new ↦
          let e = get_or (pairs ++ edges) i d in
          meets_rises (with_read events s x w n u v) order meets e.before e.after
          (with_pairs level events s k x w n u v edges pending runs are e.before e.after (inr (inl new)))
    ]

pub no_cycle_with :
    (level : Level) (events : List Event) (s k : ℕ) (x : Cell) (w n u : ℕ) (v : Value) (pairs edges : List Edge) → IsPending events k s →
    RunsAt events k level → HaveForcedClosure events pairs → AreNewDemands level events k x w edges →
    IsConsistent (with_read events s x w n u v) → HasCycle (pairs ++ edges) → ⊥
no_cycle_with level events s k x w n u v pairs edges pending runs have are (order, meets) (cycle, is) =
    no_cycle_extended (pairs ++ edges) order (extends_with level events s k x w n u v pairs edges order pending runs have are meets) cycle is

-- ---- the read as such, whatever its count, word and value

pub permitted_with :
    (level : Level) (events : List Event) → IsSound events → (s k : ℕ) (x : Cell) (w : ℕ) (pairs edges : List Edge) → IsPending events k s →
    RunsAt events k level → Writes events w x → HaveForcedClosure events pairs → AreNewDemands level events k x w edges →
    (HasCycle (pairs ++ edges) → ⊥) → IsPermitted events s x w
permitted_with level events sound s k x w pairs edges pending runs writes have are none =
    (writes, λ n u v. consistent_with level events sound s k x w n u v pairs edges pending runs writes have are none)

pub no_cycle_permitted :
    (level : Level) (events : List Event) (s k : ℕ) (x : Cell) (w : ℕ) (pairs edges : List Edge) → IsPending events k s → RunsAt events k level →
    HaveForcedClosure events pairs → AreNewDemands level events k x w edges → IsPermitted events s x w → HasCycle (pairs ++ edges) → ⊥
no_cycle_permitted level events s k x w pairs edges pending runs have are permitted =
    no_cycle_with level events s k x w 0 0 Null pairs edges pending runs have are (permitted.1 0 0 Null)
