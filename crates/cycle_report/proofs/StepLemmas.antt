-- The steps of a cycle.
use Rattle.std.proofs.Common.{◌≡◌, ℕ, ◌+◌, ◌≤◌, List, [], ◌∷◌, ◌++◌, Option, None, Some, length, take, arith, refl, ap, sym, ◌∙◌, subst, inl, inr}
use Rattle.std.specs.List.{slice_get, Contains}
use Rattle.std.specs.Option.{option_map}
use Rattle.std.proofs.lemmas.List.{take_all}
use Rattle.std.proofs.lemmas.Option.{slice_get-map}
use Rattle.std.proofs.lemmas.Bool.{cases_order}
use Rattle.txn_buffer.proofs.Lists.{contains_at, at_contains, slice_get_push_cases}
use Rattle.graph_base.specs.declared.Edge.{Edge}
use Rattle.graph_base.specs.Walk.{IsCycle}
use Rattle.order_witness.proofs.Tracing.{IsCycle-from_walk}
use Rattle.cell_base.specs.declared.level.Level.{Level}
use Rattle.history_core.specs.declared.event.Event.{Event}
use Rattle.cycle_report.specs.declared.judgement.Step.{Step}
use Rattle.cycle_report.specs.Reasons.{IsReasonOf}
use Rattle.cycle_report.specs.Rings.{IsAnyRing, IsOnce}
use Rattle.history_core.specs.Events.{begun}
use Rattle.history_core.specs.Forced.{IsPairList}
use Rattle.cycle_report.specs.Views.{IsListed}
use Rattle.cycle_report.specs.Judged.{IsCycleAt, edges_of}
use Rattle.cycle_report.specs.Levels.{AreStepsOf}
use Rattle.cycle_report.proofs.RingLemmas.{walk_within, walk_head, walk_members}

edges_push : (steps : List Step) (step : Step) → edges_of (steps ++ step ∷ []) ≡ edges_of steps ++ step.edge ∷ []
edges_push [] step = refl
edges_push (s ∷ steps) step = ap (λ (xs : List Edge). s.edge ∷ xs) (edges_push steps step)

pub steps_none : (level : Level) (events : List Event) → AreStepsOf level events [] []
steps_none level events = record { edges_are = refl; reasons = λ k step is. let none : None ≡ Some step = is in absurd cc }

pub steps_push :
    (level : Level) (events : List Event) (edges next : List Edge) (edge : Edge) (steps : List Step) (step : Step) → next ≡ edges ++ edge ∷ [] → step.edge ≡ edge →
    IsReasonOf level events step.edge.before step.edge.after step.reason → AreStepsOf level events edges steps → AreStepsOf level events next (steps ++ step ∷ [])
steps_push level events edges next edge steps step more same reason are = record {
  edges_are =
      edges_push steps step ∙ ap (λ (xs : List Edge). xs ++ step.edge ∷ []) are.edges_are ∙ ap (λ (e : Edge). edges ++ e ∷ []) same ∙ sym more;
  reasons = λ k own is. elim (slice_get_push_cases steps step k own is) [
    | inl old ↦ are.reasons k own old.1
    | inr new ↦ subst (λ (s : Step). IsReasonOf level events s.edge.before s.edge.after s.reason) new.1 reason
  ];
}

pub steps_whole :
    (level : Level) (events : List Event) (ring : List Edge) (n : ℕ) (steps : List Step) → length ring ≤ n → AreStepsOf level events (take n ring) steps →
    AreStepsOf level events ring steps
steps_whole level events ring n steps end are = subst (λ (xs : List Edge). AreStepsOf level events xs steps) (take_all n ring end) are

-- the edges of a ring are listed where those of its list are
pub ring_listed :
    (level : Level) (events : List Event) (edges ring : List Edge) → IsPairList (IsListed level events) (begun events + 1) edges → IsAnyRing edges ring →
    (e : Edge) → Contains ring e → IsListed level events e.before e.after
ring_listed level events edges ring list (base, is) e member =
    let found = at_contains ring e member in
    list.sound e (walk_members edges base ring base is.walk found.0 e found.1)

-- where the edge of a step stands
edge_at : (steps : List Step) (edges : List Edge) → edges_of steps ≡ edges → (k : ℕ) (step : Step) → slice_get steps k ≡ Some step → slice_get edges k ≡ Some step.edge
edge_at steps edges are k step is =
    ap (λ (xs : List Edge). slice_get xs k) (sym are) ∙ slice_get-map (λ (s : Step). s.edge) steps k ∙ ap (λ (o : Option Step). option_map (λ (s : Step). s.edge) o) is

pub cycle_is :
    (level : Level) (events : List Event) (edges ring : List Edge) (steps : List Step) → IsAnyRing edges ring → IsOnce ring → AreStepsOf level events ring steps →
    IsCycleAt level events steps
cycle_is level events edges ring steps (base, is) alone are = record {
  closes =
      subst (λ (xs : List Edge). IsCycle xs xs) (sym are.edges_are)
      (IsCycle-from_walk ring base ring is.some (walk_within edges ring base ring base (λ e member. member) is.walk));
  reasons = are.reasons;
  once = λ i j a b is_a is_b same.
      let at_i = edge_at steps ring are.edges_are i a is_a in
      let at_j = edge_at steps ring are.edges_are j b is_b in
      elim (cases_order i j) [
        | inl equal ↦ equal
        | inr other ↦ elim other [
          | inl less ↦ absurd (alone i j record { apart = less; one = a.edge; other = b.edge; one_is = at_i; other_is = at_j; same = same })
          | inr more ↦ absurd (alone j i record { apart = more; one = b.edge; other = a.edge; one_is = at_j; other_is = at_i; same = sym same })
        ]
      ];
  least = λ k head step is_head is_step.
      let first = walk_head edges base ring base head.edge is.walk (edge_at steps ring are.edges_are 0 head is_head) in
      let up = is.least step.edge (contains_at ring k step.edge (edge_at steps ring are.edges_are k step is_step)) in
      omega arith;
}
