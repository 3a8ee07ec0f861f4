-- Edges without a cycle have an order: numbers are placed one after another, and where none may come next, a walk backwards closes.
use Rattle.std.proofs.Common.{◌≡◌, ℕ, ◌+◌, ◌<◌, ◌≤◌, zero, suc, List, [], ◌∷◌, ◌++◌, Bool, true, false, cond, length, get_or, get_or-set_other, set, replicate, sum_by, arith, refl, sym, ◌∙◌, subst, inl, inr, ◌⊎◌}
use Rattle.std.specs.List.{Contains}
use Rattle.std.proofs.lemmas.List.{length-set, length-replicate, get_or-replicate, get_or_past}
use Rattle.std.proofs.lemmas.List.Elements.{All-cons, Contains-append_left, Contains-append_right, All-contains}
use Rattle.std.proofs.lemmas.List.Sums.{sum_by-set}
use Rattle.std.proofs.lemmas.Bool.{cases_eq, cases_lt, cases_Bool, false≢true}
use Rattle.graph_base.specs.declared.Edge.{Edge}
use Rattle.graph_base.specs.Walk.{IsInRange, HasCycle, Leads}
use Rattle.history_core.specs.Forced.{HasOrder}
use Rattle.graph_base.proofs.Walks.{leads_none, leads_first, reaches_first, cycle_from_reaches}
use Rattle.order_witness.specs.Marks.{IsMarked, IsUnmarked, IsReady, IsFree}
use Rattle.order_witness.proofs.Placing.{IsPlacing, IsPlacing-push, IsPlacing-none, HasLeastOrder-from_placing}

contains_first : (e : Edge) (es : List Edge) → Contains (e ∷ es) e
contains_first e es = Contains-append_left (e ∷ []) es e (0, omega arith, refl)

contains_later : (e : Edge) (es : List Edge) (f : Edge) → Contains es f → Contains (e ∷ es) f
contains_later e es f member = Contains-append_right (e ∷ []) es f member

-- an edge into the number that comes from one without a mark
pub record IsBlocked (edges : List Edge) (marks : List Bool) (n : ℕ) : Type 0 where
  pub edge : Edge
  pub member : Contains edges edge
  pub into : edge.after ≡ n
  pub from : get_or marks edge.before false ≡ false

ready_or_blocked : (edges : List Edge) (marks : List Bool) (n : ℕ) → IsReady edges marks n ⊎ IsBlocked edges marks n
ready_or_blocked [] marks n = inl (λ k d h. absurd (omega arith))
ready_or_blocked (e ∷ es) marks n =
    elim (ready_or_blocked es marks n) [
      | inr later ↦ inr record { edge = later.edge; member = contains_later e es later.edge later.member; into = later.into; from = later.from }
      | inl ready ↦
          elim (cases_eq e.after n) [
            | inr other ↦ inl (All-cons (λ f. f.after ≡ n → IsMarked marks f.before) e es (λ into. absurd (other into)) ready)
            | inl into ↦
                elim (cases_Bool (get_or marks e.before false)) [
                  | inl marked ↦ inl (All-cons (λ f. f.after ≡ n → IsMarked marks f.before) e es (λ again. marked) ready)
                  | inr unmarked ↦ inr record { edge = e; member = contains_first e es; into = into; from = unmarked }
                ]
          ]
    ]

free_or_not : (edges : List Edge) (marks : List Bool) (n : ℕ) → n < length marks → IsFree edges marks n ⊎ (IsFree edges marks n → ⊥)
free_or_not edges marks n within =
    elim (cases_Bool (get_or marks n false)) [
      | inl marked ↦ inr (λ free. false≢true (sym free.unmarked.1 ∙ marked))
      | inr unmarked ↦
          elim (ready_or_blocked edges marks n) [
            | inl ready ↦ inl record { unmarked = (within, unmarked); ready = ready }
            | inr blocked ↦
                inr (λ free.
                let marked : IsMarked marks blocked.edge.before =
                All-contains (λ f. f.after ≡ n → IsMarked marks f.before) edges blocked.edge free.ready blocked.member blocked.into in
                false≢true (sym blocked.from ∙ marked))
          ]
    ]

-- the least number that may be marked next
pub record IsLeastFree (edges : List Edge) (marks : List Bool) (n : ℕ) : Type 0 where
  pub free : IsFree edges marks n
  pub least : (m : ℕ) → IsFree edges marks m → n ≤ m

least_free :
    (edges : List Edge) (marks : List Bool) (left i : ℕ) → left + i ≡ length marks → ((m : ℕ) → m < i → IsFree edges marks m → ⊥) →
    ((n : ℕ) × IsLeastFree edges marks n) ⊎ ((m : ℕ) → IsFree edges marks m → ⊥)
least_free edges marks zero i end none = inr (λ m free. let within = free.unmarked.0 in none m (omega arith) free)
least_free edges marks (suc left) i end none =
    elim (free_or_not edges marks i (omega arith)) [
      | inl free ↦ inl (
        i,
        record {
          free = free;
          least = λ m is. elim (cases_lt m i) [ inl less ↦ absurd (none m less is) | inr more ↦ more ];
        },
      )
      | inr busy ↦
          least_free edges marks left (i + 1) (omega arith)
          (λ m less is. elim (cases_lt m i) [
            | inl below ↦ none m below is
            | inr more ↦ let same : m ≡ i = omega arith in busy (subst (λ (k : ℕ). IsFree edges marks k) same is)
          ])
    ]

abbrev open_count : List Bool → ℕ
open_count marks = sum_by (λ mark. cond mark 0 1) marks

open_less : (marks : List Bool) (n : ℕ) → n < length marks → get_or marks n false ≡ false → open_count (set marks n true) + 1 ≡ open_count marks
open_less marks n within unmarked =
    let change : open_count (set marks n true) + cond (get_or marks n false) 0 1 ≡ open_count marks + 0 =
    sum_by-set (λ mark. cond mark 0 1) marks n true false within in
    let one : open_count (set marks n true) + 1 ≡ open_count marks + 0 =
    subst (λ (b : Bool). open_count (set marks n true) + cond b 0 1 ≡ open_count marks + 0) unmarked change in
    omega arith

-- a number before those that were met, which was not met
record IsNextBack (edges : List Edge) (marks met : List Bool) (n : ℕ) : Type 0 where
  is_open : IsUnmarked marks n
  less : open_count (set met n true) + 1 ≡ open_count met
  leads : (m : ℕ) → IsMarked (set met n true) m → Leads edges n m

one_back :
    (edges : List Edge) (marks met : List Bool) (at : ℕ) → length met ≡ length marks →
    (blocked : IsBlocked edges marks at) → blocked.edge.before < length marks → ((m : ℕ) → IsMarked met m → Leads edges at m) →
    HasCycle edges ⊎ ((n : ℕ) × IsNextBack edges marks met n)
one_back edges marks met at same blocked within leads =
    let e = blocked.edge in
    let within_met : e.before < length met = omega arith in
    let into : at ≡ e.after = sym blocked.into in
    elim (cases_Bool (get_or met e.before false)) [
      | inl marked ↦
          inl (cycle_from_reaches edges e.before
          (reaches_first edges e e.before e.before refl blocked.member (subst (λ (n : ℕ). Leads edges n e.before) into (leads e.before marked))))
      | inr unmarked ↦ inr (
        e.before,
        record {
          is_open = (within, blocked.from);
          less = open_less met e.before within_met unmarked;
          leads = λ m marked. elim (cases_eq m e.before) [
            | inl here ↦ subst (λ (n : ℕ). Leads edges e.before n) (sym here) (leads_none edges e.before)
            | inr other ↦
                let before : IsMarked met m = sym (get_or-set_other met e.before m true false other) ∙ marked in
                leads_first edges e e.before m refl blocked.member (subst (λ (n : ℕ). Leads edges n m) into (leads m before))
          ];
        },
      )
    ]

abbrev AllBlocked : List Edge → List Bool → Type 0
AllBlocked edges marks = (n : ℕ) → IsUnmarked marks n → (blocked : IsBlocked edges marks n) × (blocked.edge.before < length marks)

-- where each number without a mark is blocked, a walk backwards over numbers that were not met comes to one that was
cycle_back :
    (edges : List Edge) (marks met : List Bool) (left at : ℕ) → length met ≡ length marks → AllBlocked edges marks →
    open_count met ≤ left → IsUnmarked marks at → ((m : ℕ) → IsMarked met m → Leads edges at m) → HasCycle edges
cycle_back edges marks met zero at same stuck few is_open leads =
    let back = stuck at is_open in
    elim (one_back edges marks met at same back.0 back.1 leads) [
      | inl cycle ↦ cycle
      | inr next ↦ let less = next.1.less in absurd (omega arith)
    ]
cycle_back edges marks met (suc left) at same stuck few is_open leads =
    let back = stuck at is_open in
    elim (one_back edges marks met at same back.0 back.1 leads) [
      | inl cycle ↦ cycle
      | inr next ↦
          let less = next.1.less in
          cycle_back edges marks (set met next.0 true) left next.0 (length-set met next.0 true ∙ same) stuck (omega arith) next.1.is_open next.1.leads
    ]

-- where none may be marked next, each number without a mark is blocked
all_blocked :
    (edges : List Edge) (marks : List Bool) → IsInRange (length marks) edges → ((m : ℕ) → IsFree edges marks m → ⊥) → AllBlocked edges marks
all_blocked edges marks in_range stuck n is_open =
    elim (ready_or_blocked edges marks n) [
      | inl ready ↦ absurd (stuck n record { unmarked = is_open; ready = ready })
      | inr blocked ↦ (blocked, (All-contains (λ e. (e.before < length marks) × (e.after < length marks)) edges blocked.edge in_range blocked.member).0)
    ]

no_marks : (size n : ℕ) → IsMarked (replicate size false) n → ⊥
no_marks size n marked =
    elim (cases_lt n size) [
      | inl within ↦ false≢true (sym (get_or-replicate size n false false within) ∙ marked)
      | inr past ↦
          let same = length-replicate size false in
          false≢true (sym (get_or_past (replicate size false) n false (omega arith)) ∙ marked)
    ]

-- a number without a mark, or all have one
first_open : (marks : List Bool) (left : ℕ) → left ≤ length marks → ((n : ℕ) → left ≤ n → n < length marks → IsMarked marks n) →
    ((n : ℕ) × IsUnmarked marks n) ⊎ ((n : ℕ) → n < length marks → IsMarked marks n)
first_open marks zero within marked = inr (λ n small. marked n (omega arith) small)
first_open marks (suc left) within marked =
    elim (cases_Bool (get_or marks left false)) [
      | inr unmarked ↦ inl (left, (omega arith, unmarked))
      | inl here ↦
          first_open marks left (omega arith)
          (λ n above small. elim (cases_lt left n) [
            | inl later ↦ marked n (omega arith) small
            | inr not_later ↦ let same : left ≡ n = omega arith in subst (λ (k : ℕ). IsMarked marks k) same here
          ])
    ]

abbrev pub OrderOrCycle : ℕ → List Edge → Type 0
OrderOrCycle size edges = HasOrder size edges ⊎ HasCycle edges

stopped :
    (size : ℕ) (edges : List Edge) (marks : List Bool) (order : List ℕ) → IsInRange size edges → IsPlacing size edges marks order →
    ((m : ℕ) → IsFree edges marks m → ⊥) → OrderOrCycle size edges
stopped size edges marks order in_range placing stuck =
    let range : IsInRange (length marks) edges = subst (λ (n : ℕ). IsInRange n edges) (sym placing.length_marks) in_range in
    elim (first_open marks (length marks) (omega arith) (λ n above small. absurd (omega arith))) [
      | inr all ↦ inl (
        order,
        (HasLeastOrder-from_placing size edges marks order placing (λ n small. let same = placing.length_marks in all n (omega arith)) in_range).is.extends,
      )
      | inl some ↦
          inr (cycle_back edges marks (replicate (length marks) false) (open_count (replicate (length marks) false)) some.0
          (length-replicate (length marks) false) (all_blocked edges marks range stuck) (omega arith) some.1
          (λ m marked. absurd (no_marks (length marks) m marked)))
    ]

next_free : (edges : List Edge) (marks : List Bool) → ((n : ℕ) × IsLeastFree edges marks n) ⊎ ((m : ℕ) → IsFree edges marks m → ⊥)
next_free edges marks = least_free edges marks (length marks) 0 (omega arith) (λ m less. absurd (omega arith))

-- numbers are placed until all are, or none may be
place_all :
    (size : ℕ) (edges : List Edge) (marks : List Bool) (order : List ℕ) (left : ℕ) → IsInRange size edges → open_count marks ≤ left →
    IsPlacing size edges marks order → OrderOrCycle size edges
place_all size edges marks order zero in_range few placing =
    elim (next_free edges marks) [
      | inr stuck ↦ stopped size edges marks order in_range placing stuck
      | inl next ↦ let less = open_less marks next.0 next.1.free.unmarked.0 next.1.free.unmarked.1 in absurd (omega arith)
    ]
place_all size edges marks order (suc left) in_range few placing =
    elim (next_free edges marks) [
      | inr stuck ↦ stopped size edges marks order in_range placing stuck
      | inl next ↦
          let less = open_less marks next.0 next.1.free.unmarked.0 next.1.free.unmarked.1 in
          place_all size edges (set marks next.0 true) (order ++ next.0 ∷ []) left in_range (omega arith)
          (IsPlacing-push size edges marks order next.0 next.1.free next.1.least placing)
    ]

pub order_or_cycle : (size : ℕ) (edges : List Edge) → IsInRange size edges → OrderOrCycle size edges
order_or_cycle size edges in_range =
    let marks = replicate size false in
    place_all size edges marks [] (open_count marks) in_range (omega arith)
    (IsPlacing-none size edges marks (length-replicate size false) (λ n marked. no_marks size n marked))
