-- The least order by what reaches what.
use Rattle.std.proofs.Common.{◌≡◌, ℕ, zero, suc, ◌+◌, ◌<◌, ◌≤◌, List, [], ◌∷◌, ◌↔◌, ◌⊎◌, Bool, Some, false, length, get_or, arith, refl, sym, ◌∙◌, ap, subst, inl, inr}
use Rattle.std.specs.List.{Contains}
use Rattle.std.proofs.lemmas.List.Elements.{All-contains, Contains-get_or}
use Rattle.std.proofs.lemmas.Option.{slice_get-get_or}
use Rattle.std.proofs.lemmas.Bool.{cases_Bool, cases_order}
use Rattle.graph_base.specs.declared.Edge.{Edge}
use Rattle.graph_base.specs.Walk.{IsInRange, IsWalk, Reaches}
use Rattle.graph_base.specs.Chain.{Chained}
use Rattle.graph_base.specs.Closure.{HasEdge, SameClosure}
use Rattle.graph_base.specs.Order.{place_of, HoldsEachOnce, IsLeastOrder, IsLower}
use Rattle.graph_base.proofs.Chains.{chained_one, chained_rises, chained_wider}
use Rattle.graph_base.proofs.Walks.{reaches_edge}
use Rattle.graph_base.proofs.Closures.{reaches_is_chain, reaches_in_range}
use Rattle.graph_base.proofs.Places.{Contains-from_place, place_of-first}
use Rattle.graph_base.proofs.LeastOrders.{last_edge, reaches_rises, least_first, least_kept}
use Rattle.order_witness.specs.Marks.{IsMarked, IsUnmarked, IsFree}
use Rattle.order_witness.proofs.Placing.{IsPlacing, IsMarked-from_contained, HasLeastOrder-from_placing}
use Rattle.cell_base.specs.declared.cell.Cell.{Cell}
use Rattle.cell_base.specs.declared.value.Value.{Value}
use Rattle.history_core.specs.declared.event.Event.{Event}
use Rattle.history_core.specs.Events.{begun}
use Rattle.history_core.specs.Relations.{Meets}
use Rattle.history_core.specs.Legal.{IsLegal}
use Rattle.history_core.specs.Forced.{IsForced}
use Rattle.history_core.proofs.Prefixes.{legal_consistent, found_once}
use Rattle.saturation.specs.Laws.{AreForced}
use Rattle.saturation.proofs.Decides.{initial_ordered}
use Rattle.forced_rows.specs.declared.rows.ForcedRows.{ForcedRows}
use Rattle.forced_rows.specs.Rows.{AreRowsOf}
use Rattle.forced_rows.specs.Marks.{MayBeMarked}

-- ---- by edges and by what reaches

free_from_may : (edges : List Edge) (marks : List Bool) (n : ℕ) → MayBeMarked edges marks n → IsFree edges marks n
free_from_may edges marks n may = record {
  unmarked = may.unmarked;
  ready = λ k d small into.
      let e : Edge = get_or edges k d in
      may.ready e.before (subst (λ (m : ℕ). Reaches edges e.before m) into (reaches_edge edges e (Contains-get_or edges k d small)));
}

-- what leads to a marked number is marked
walk_marked :
    (size : ℕ) (edges : List Edge) (marks : List Bool) (order : List ℕ) → IsPlacing size edges marks order → (a : ℕ) (walk : List Edge) (b : ℕ) →
    IsWalk edges a walk b → IsMarked marks b → IsMarked marks a
walk_marked size edges marks order placing a [] b same marked = subst (λ (n : ℕ). IsMarked marks n) (sym same) marked
walk_marked size edges marks order placing a (e ∷ walk) b (begins, member, rest) marked =
    let after : IsMarked marks e.after = walk_marked size edges marks order placing e.after walk b rest marked in
    let placed = placing.marked e.after after in
    let earlier = placing.extends e member after in
    subst (λ (n : ℕ). IsMarked marks n) begins
    (IsMarked-from_contained size edges marks order placing e.before (Contains-from_place order e.before (omega arith)))

may_from_free :
    (size : ℕ) (edges : List Edge) (marks : List Bool) (order : List ℕ) → IsPlacing size edges marks order → (n : ℕ) → IsFree edges marks n →
    MayBeMarked edges marks n
may_from_free size edges marks order placing n free = record {
  unmarked = free.unmarked;
  ready = λ m on.
      let last = last_edge edges m n on in
      let marked : IsMarked marks last.edge.before = All-contains (λ e. e.after ≡ n → IsMarked marks e.before) edges last.edge free.ready last.member last.ends in
      walk_marked size edges marks order placing m last.leads.walk last.edge.before last.leads.is marked;
}

pub least_free :
    (size : ℕ) (edges : List Edge) (marks : List Bool) (order : List ℕ) (n : ℕ) → IsPlacing size edges marks order →
    ((m : ℕ) → MayBeMarked edges marks m → n ≤ m) → (m : ℕ) → IsFree edges marks m → n ≤ m
least_free size edges marks order n placing least m free = least m (may_from_free size edges marks order placing m free)

pub free_of : (edges : List Edge) (marks : List Bool) (n : ℕ) → MayBeMarked edges marks n → IsFree edges marks n
free_of = free_from_may

-- ---- where none may be marked, all are

stuck :
    (edges : List Edge) (marks : List Bool) (rank : ℕ → ℕ) → IsInRange (length marks) edges → ((a b : ℕ) → Reaches edges a b → rank a < rank b) →
    ((m : ℕ) → MayBeMarked edges marks m → ⊥) → (fuel n : ℕ) → rank n < fuel → IsUnmarked marks n → ⊥
stuck edges marks rank in_range rises none zero n below unmarked = omega arith
stuck edges marks rank in_range rises none (suc fuel) n below unmarked = none n record {
  unmarked = unmarked;
  ready = λ m on. elim (cases_Bool (get_or marks m false)) [
    | inl is_true ↦ is_true
    | inr is_false ↦
        let less = rises m n on in
        absurd (stuck edges marks rank in_range rises none fuel m (omega arith) ((reaches_in_range (length marks) edges in_range m n on).0, is_false))
  ];
}

pub all_marked :
    (edges : List Edge) (marks : List Bool) (rank : ℕ → ℕ) → IsInRange (length marks) edges → ((a b : ℕ) → Reaches edges a b → rank a < rank b) →
    ((m : ℕ) → MayBeMarked edges marks m → ⊥) → (n : ℕ) → n < length marks → IsMarked marks n
all_marked edges marks rank in_range rises none n small =
    elim (cases_Bool (get_or marks n false)) [
      | inl is_true ↦ is_true
      | inr is_false ↦ absurd (stuck edges marks rank in_range rises none (rank n + 1) n (omega arith) (small, is_false))
    ]

-- ---- the forced pairs

forced_rises : (events : List Event) (order : List ℕ) → Meets events order → (a b : ℕ) → IsForced events a b → place_of order a < place_of order b
forced_rises events order meets a b (inl precedes) = meets.precedes a b precedes
forced_rises events order meets a b (inr demands) = meets.demands a b demands

edge_at : (edges : List Edge) (m n : ℕ) → (e : Edge) × (Contains edges e × (e.before ≡ m) × (e.after ≡ n)) → HasEdge edges m n
edge_at edges m n found = subst (λ (k : ℕ). HasEdge edges k n) found.1.1 (subst (λ (k : ℕ). HasEdge edges found.0.before k) found.1.2 found.1.0)

same_as_forced :
    (events : List Event) (pairs edges : List Edge) → ((a b : ℕ) → Reaches pairs a b ↔ Chained (IsForced events) a b) → AreForced events edges →
    SameClosure pairs edges
same_as_forced events pairs edges closes are a b = (
  λ on. (reaches_is_chain edges a b).1 (chained_wider (IsForced events) (HasEdge edges) (λ m n is. edge_at edges m n (are.whole m n is)) a b ((closes a b).0 on)),
  λ on. (closes a b).1 (chained_wider (HasEdge edges) (IsForced events) (λ m n edge. are.sound record { before = m; after = n } edge) a b
      ((reaches_is_chain edges a b).0 on)),
)

-- all that may be placed are: the order is the least one of the rows
pub least_done :
    (initial : List (Cell × Value)) (events : List Event) (rows : ForcedRows) (marks : List Bool) (order : List ℕ) → IsLegal initial events →
    AreRowsOf events rows → IsInRange rows.reach.size rows.reach.pairs → IsPlacing rows.reach.size rows.reach.pairs marks order →
    ((m : ℕ) → MayBeMarked rows.reach.pairs marks m → ⊥) → IsLeastOrder rows.reach.size rows.reach.pairs order
least_done initial events rows marks order legal are in_range placing none =
    let pairs = rows.reach.pairs in
    let consistent = legal_consistent initial events legal in
    let rank = place_of consistent.0 in
    let rises = λ (a b : ℕ) (on : Reaches pairs a b).
    chained_rises (IsForced events) rank (forced_rises events consistent.0 consistent.1) a b ((are.stand.forced a b).0 on) in
    let long = placing.length_marks in
    let range : IsInRange (length marks) pairs = subst (λ (n : ℕ). IsInRange n pairs) (sym long) in_range in
    let all = λ (n : ℕ) (small : n < rows.reach.size). all_marked pairs marks rank range rises none n (omega arith) in
    (HasLeastOrder-from_placing rows.reach.size pairs marks order placing all in_range).is

-- it is the least one of each list of the forced pairs
pub least_of_forced :
    (events : List Event) (rows : ForcedRows) (order : List ℕ) → AreRowsOf events rows → IsLeastOrder rows.reach.size rows.reach.pairs order →
    (edges : List Edge) → AreForced events edges → IsLeastOrder (begun events + 1) edges order
least_of_forced events rows order are least edges forced =
    subst (λ (n : ℕ). IsLeastOrder n edges order) are.size
    (least_kept rows.reach.size rows.reach.pairs edges (same_as_forced events rows.reach.pairs edges are.stand.forced forced) order least)

-- ---- the orders that meet the history

-- an order along which each forced pair rises meets the history
meets_from_rises :
    (events : List Event) (order : List ℕ) → HoldsEachOnce (begun events + 1) order →
    ((a b : ℕ) → IsForced events a b → place_of order a < place_of order b) → Meets events order
meets_from_rises events order holds rises =
    let some : 0 < length order = let h = found_once (begun events + 1) order holds 0 (omega arith) in omega arith in
    let small : get_or order 0 0 < begun events + 1 =
    All-contains (λ n. n < begun events + 1) order (get_or order 0 0) holds.below (Contains-get_or order 0 0 some) in
    let at_front : place_of order (get_or order 0 0) ≤ 0 = place_of-first order 0 (get_or order 0 0) 0 some refl in
    record {
      holds = holds;
      first = elim (cases_order (get_or order 0 0) 0) [
        | inl initial ↦ slice_get-get_or order 0 0 some ∙ ap (λ (n : ℕ). Some n) initial
        | inr apart ↦ elim apart [
          | inl less ↦ absurd (omega arith)
          | inr more ↦
              let up : place_of order 0 < place_of order (get_or order 0 0) =
              rises 0 (get_or order 0 0) (inl (inl (initial_ordered events 0 (get_or order 0 0) refl more (omega arith)))) in
              absurd (omega arith)
        ]
      ];
      precedes = λ a b p. rises a b (inl p);
      demands = λ a b d. rises a b (inr d);
    }

pub least_meets :
    (events : List Event) (rows : ForcedRows) (order : List ℕ) → AreRowsOf events rows → IsLeastOrder rows.reach.size rows.reach.pairs order →
    Meets events order
least_meets events rows order are least =
    meets_from_rises events order (subst (λ (n : ℕ). HoldsEachOnce n order) are.size least.extends.holds)
    (λ a b forced. reaches_rises order rows.reach.pairs least.extends.extends a b ((are.stand.forced a b).1 (chained_one (IsForced events) a b forced)))

-- no order that meets the history is lower
pub least_is_first :
    (events : List Event) (rows : ForcedRows) (order : List ℕ) → AreRowsOf events rows → IsLeastOrder rows.reach.size rows.reach.pairs order →
    (other : List ℕ) → Meets events other → (order ≡ other) ⊎ IsLower order other
least_is_first events rows order are least other meets =
    let pairs = rows.reach.pairs in
    least_first rows.reach.size pairs order other least record {
      holds = subst (λ (n : ℕ). HoldsEachOnce n other) (sym are.size) meets.holds;
      extends = λ k d small.
          let e : Edge = get_or pairs k d in
          chained_rises (IsForced events) (place_of other) (forced_rises events other meets) e.before e.after
          ((are.stand.forced e.before e.after).0 (reaches_edge pairs e (Contains-get_or pairs k d small)));
    }
