-- Marks on a causal past, as they are made.
use Rattle.std.proofs.Common.{◌≡◌, ℕ, ◌+◌, ◌<◌, zero, suc, List, Bool, true, false, length, get_or, get_or-set_same, get_or-set_other, set, replicate, arith, refl, sym, ◌∙◌, subst, inl, inr, ◌⊎◌, ◌↔◌}
use Rattle.std.proofs.lemmas.List.{length-set, length-replicate}
use Rattle.std.proofs.lemmas.Bool.{cases_eq, cases_lt, false≢true}
use Rattle.order_witness.specs.Marks.{IsMarked, IsUnmarked}
use Rattle.graph_base.specs.Chain.{Chained}
use Rattle.history_core.specs.declared.event.Event.{Event}
use Rattle.history_core.specs.Events.{begun}
use Rattle.history_core.specs.Relations.{Precedes}
use Rattle.history_core.proofs.Prefixes.{IsSound}
use Rattle.saturation.specs.Views.{IsPastOf}
use Rattle.saturation.proofs.Chains.{chained_first, chained_one}
use Rattle.saturation.proofs.Decides.{precedes_range}
use Rattle.axiom_cc.specs.Following.{MarksPredecessors}

marked_set : (marks : List Bool) (at : ℕ) → at < length marks → (n : ℕ) → IsMarked (set marks at true) n ↔ (IsMarked marks n ⊎ (n ≡ at))
marked_set marks at within n =
    elim (cases_eq n at) [
      | inl same ↦ (
        λ marked. inr same,
        λ either. subst (λ (m : ℕ). IsMarked (set marks at true) m) (sym same) (get_or-set_same marks at true false within),
      )
      | inr other ↦
          let stays : get_or (set marks at true) n false ≡ get_or marks n false = get_or-set_other marks at n true false other in (
            λ marked. inl (sym stays ∙ marked),
            λ either. elim either [ inl old ↦ stays ∙ old | inr same ↦ absurd (other same) ],
          )
    ]

-- ---- the predecessors of one transaction, one number after another

pub record MarksBelow (events : List Event) (second bound : ℕ) (old new : List Bool) : Type 0 where
  pub size : length new ≡ length old
  pub exact : (n : ℕ) → IsMarked new n ↔ (IsMarked old n ⊎ ((n < bound) × Precedes events n second))

pub below_none : (events : List Event) (second : ℕ) (marks : List Bool) → MarksBelow events second 0 marks marks
below_none events second marks = record {
  size = refl;
  exact = λ n. (λ marked. inl marked, λ either. elim either [ inl old ↦ old | inr new ↦ let h = new.0 in absurd (omega arith) ]);
}

pub below_mark :
    (events : List Event) (second n : ℕ) (old marks : List Bool) → n < length marks → Precedes events n second → MarksBelow events second n old marks →
    MarksBelow events second (n + 1) old (set marks n true)
below_mark events second n old marks within precedes below = record {
  size = length-set marks n true ∙ below.size;
  exact = λ k. (
    λ marked. elim ((marked_set marks n within k).0 marked) [
      | inl before ↦ elim ((below.exact k).0 before) [
        | inl first ↦ inl first
        | inr new ↦ let h = new.0 in inr (omega arith, new.1)
      ]
      | inr same ↦ inr (omega arith, subst (λ (m : ℕ). Precedes events m second) (sym same) precedes)
    ],
    λ either. (marked_set marks n within k).1 (elim either [
      | inl first ↦ inl ((below.exact k).1 (inl first))
      | inr new ↦ elim (cases_lt k n) [
        | inl less ↦ inl ((below.exact k).1 (inr (less, new.1)))
        | inr more ↦ let h = new.0 in inr (omega arith)
      ]
    ]),
  );
}

pub below_skip :
    (events : List Event) (second n : ℕ) (old marks : List Bool) → (Precedes events n second → ⊥) → MarksBelow events second n old marks →
    MarksBelow events second (n + 1) old marks
below_skip events second n old marks none below = record {
  size = below.size;
  exact = λ k. (
    λ marked. elim ((below.exact k).0 marked) [
      | inl first ↦ inl first
      | inr new ↦ let h = new.0 in inr (omega arith, new.1)
    ],
    λ either. elim either [
      | inl first ↦ (below.exact k).1 (inl first)
      | inr new ↦ elim (cases_lt k n) [
        | inl less ↦ (below.exact k).1 (inr (less, new.1))
        | inr more ↦
            let h = new.0 in
            let same : k ≡ n = omega arith in
            absurd (none (subst (λ (m : ℕ). Precedes events m second) same new.1))
      ]
    ],
  );
}

pub below_whole :
    (events : List Event) (second n : ℕ) (old marks : List Bool) → IsSound events → begun events < n → MarksBelow events second n old marks →
    MarksPredecessors events second old marks
below_whole events second n old marks sound end below = record {
  size = below.size;
  exact = λ k. (
    λ marked. elim ((below.exact k).0 marked) [ inl first ↦ inl first | inr new ↦ inr new.1 ],
    λ either. (below.exact k).1 (elim either [
      | inl first ↦ inl first
      | inr precedes ↦
          let range = precedes_range events sound k second precedes in
          let h = range.0 in inr (omega arith, precedes)
    ]),
  );
}

-- ---- one transaction after another

-- the marks are on what leads to the start, and what precedes those that are done is marked
pub record IsFollowing (events : List Event) (start marks done : List Bool) : Type 0 where
  pub size : length marks ≡ length start
  pub done_size : length done ≡ length start
  pub kept : (n : ℕ) → IsMarked start n → IsMarked marks n
  pub sound : (n : ℕ) → IsMarked marks n → IsMarked start n ⊎ ((m : ℕ) × (IsMarked start m × Chained (Precedes events) n m))
  pub followed : (a b : ℕ) → IsMarked done b → Precedes events a b → IsMarked marks a

none_marked : (size n : ℕ) → IsMarked (replicate size false) n → ⊥
none_marked zero n marked = false≢true marked
none_marked (suc size) zero marked = false≢true marked
none_marked (suc size) (suc n) marked = none_marked size n marked

pub following_none : (events : List Event) (start : List Bool) (size : ℕ) → size ≡ length start → IsFollowing events start start (replicate size false)
following_none events start size is = record {
  size = refl;
  done_size = length-replicate size false ∙ is;
  kept = λ n marked. marked;
  sound = λ n marked. inl marked;
  followed = λ a b done precedes. absurd (none_marked size b done);
}

pub following_more :
    (events : List Event) (start marks done more : List Bool) (second : ℕ) → IsMarked marks second → IsUnmarked done second →
    MarksPredecessors events second marks more → IsFollowing events start marks done → IsFollowing events start more (set done second true)
following_more events start marks done more second marked fresh marks_more is = record {
  size = marks_more.size ∙ is.size;
  done_size = length-set done second true ∙ is.done_size;
  kept = λ n begins. (marks_more.exact n).1 (inl (is.kept n begins));
  sound = λ n now. elim ((marks_more.exact n).0 now) [
    | inl old ↦ is.sound n old
    | inr precedes ↦ inr (elim (is.sound second marked) [
      | inl begins ↦ (second, (begins, chained_one (Precedes events) n second precedes))
      | inr leads ↦ (leads.0, (leads.1.0, chained_first (Precedes events) n second leads.0 precedes leads.1.1))
    ])
  ];
  followed = λ a b now precedes. (marks_more.exact a).1 (elim ((marked_set done second fresh.0 b).0 now) [
    | inl old ↦ inl (is.followed a b old precedes)
    | inr same ↦ inr (subst (λ (m : ℕ). Precedes events a m) same precedes)
  ]);
}

pub past_from_following :
    (events : List Event) (start marks done : List Bool) → ((n : ℕ) → IsMarked marks n → IsMarked done n) → IsFollowing events start marks done →
    IsPastOf events start marks
past_from_following events start marks done all is = record {
  size = is.size;
  kept = is.kept;
  sound = λ n marked. elim (is.sound n marked) [ inl begins ↦ inl begins | inr leads ↦ inr (leads.0, leads.1.0, leads.1.1) ];
  closed = λ a b within precedes marked. is.followed a b (all b marked) precedes;
}
