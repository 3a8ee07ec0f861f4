-- Marks on what precedes a reader, as they are made.
use Rattle.std.proofs.Common.{◌≡◌, ℕ, ◌+◌, ◌<◌, List, [], ◌∷◌, ◌++◌, Bool, true, false, length, get_or, get_or-set_same, get_or-set_other, set, arith, refl, ap, sym, ◌∙◌, subst, inl, inr, ◌⊎◌, ◌↔◌}
use Rattle.std.proofs.lemmas.List.{length_push, length-set, get_or_append_left, get_or_push}
use Rattle.std.proofs.lemmas.Bool.{cases_eq, cases_lt, cases_Bool}
use Rattle.graph_base.specs.Chain.{Chained}
use Rattle.order_witness.specs.Marks.{IsMarked, IsUnmarked}
use Rattle.cell_base.specs.declared.level.Level.{Level}
use Rattle.cell_base.specs.declared.level.Level.TheVariants.{Rc, Ra, Cc}
use Rattle.history_core.specs.declared.event.Event.{Event}
use Rattle.history_core.specs.declared.txn.Txn.{Txn}
use Rattle.history_core.specs.Events.{begun}
use Rattle.history_core.specs.Transactions.{IsStart}
use Rattle.history_core.specs.Relations.{Precedes, IsSessionOrdered}
use Rattle.history_core.specs.Records.{IsRecordOf}
use Rattle.history_core.proofs.Places.{start_session}
use Rattle.saturation.specs.Views.{ArePredecessors, PrecedesMarked, IsPastOf, Widens}
use Rattle.saturation.proofs.Chains.{chained_first, chained_one}

-- ---- session order by records

pub ordered_from_records :
    (events : List Event) (a b : ℕ) (first second : Txn) → a < b → IsRecordOf events a first → IsRecordOf events b second → first.session ≡ second.session →
    IsSessionOrdered events a b
ordered_from_records events a b first second less is_a is_b same = record {
  earlier = less;
  place = is_b.place;
  session = second.session;
  started = is_b.started;
  same = inr (is_a.place, subst (λ (s : ℕ). IsStart events a s is_a.place) same is_a.started);
}

pub records_ordered :
    (events : List Event) (a b : ℕ) (first second : Txn) → 0 < a → IsRecordOf events a first → IsRecordOf events b second → IsSessionOrdered events a b →
    first.session ≡ second.session
records_ordered events a b first second positive is_a is_b so =
    elim so.same [
      | inl initial ↦ absurd (omega arith)
      | inr other ↦
          start_session events a first.session so.session is_a.place other.0 is_a.started other.1
          ∙ start_session events b so.session second.session so.place is_b.place so.started is_b.started
    ]

-- ---- the predecessors, one number after another

pub record ArePredecessorsBelow (events : List Event) (reader n : ℕ) (marks : List Bool) : Type 0 where
  pub size : length marks ≡ n
  pub exact : (k : ℕ) → k < n → IsMarked marks k ↔ Precedes events k reader

pub predecessors_none : (events : List Event) (reader : ℕ) → ArePredecessorsBelow events reader 0 []
predecessors_none events reader = record { size = refl; exact = λ k less. absurd (omega arith) }

pub predecessors_push :
    (events : List Event) (reader n : ℕ) (marks : List Bool) (mark : Bool) → ((mark ≡ true) ↔ Precedes events n reader) →
    ArePredecessorsBelow events reader n marks → ArePredecessorsBelow events reader (n + 1) (marks ++ mark ∷ [])
predecessors_push events reader n marks mark exact are =
    let size = are.size in
    let longer : length (marks ++ mark ∷ []) ≡ length marks + 1 = length_push marks mark in
    record {
      size = omega arith;
      exact = λ k below. elim (cases_lt k n) [
        | inl less ↦
            let old : get_or (marks ++ mark ∷ []) k false ≡ get_or marks k false = get_or_append_left marks (mark ∷ []) false k (omega arith) in
            let before = are.exact k less in
            (λ marked. before.0 (sym old ∙ marked), λ precedes. old ∙ before.1 precedes)
        | inr more ↦
            let at : k ≡ n = omega arith in
            let at_end : length marks ≡ k = omega arith in
            let new : get_or (marks ++ mark ∷ []) k false ≡ mark = get_or_push marks mark false k at_end in (
              λ marked. subst (λ (m : ℕ). Precedes events m reader) (sym at) (exact.0 (sym new ∙ marked)),
              λ precedes. new ∙ exact.1 (subst (λ (m : ℕ). Precedes events m reader) at precedes),
            )
      ];
    }

pub predecessors_whole :
    (events : List Event) (reader n : ℕ) (marks : List Bool) → n ≡ begun events + 1 → ArePredecessorsBelow events reader n marks →
    ArePredecessors events reader marks
predecessors_whole events reader n marks all are =
    let size = are.size in
    record { size = omega arith; exact = λ k within. are.exact k (omega arith) }

-- ---- the causal past, one mark after another

pub record IsClosing (events : List Event) (start marks : List Bool) : Type 0 where
  pub size : length marks ≡ length start
  pub kept : (n : ℕ) → IsMarked start n → IsMarked marks n
  pub sound : (n : ℕ) → IsMarked marks n → IsMarked start n ⊎ ((m : ℕ) × IsMarked start m × Chained (Precedes events) n m)

pub closing_none : (events : List Event) (marks : List Bool) → IsClosing events marks marks
closing_none events marks = record { size = refl; kept = λ n marked. marked; sound = λ n marked. inl marked }

pub closing_mark :
    (events : List Event) (start marks : List Bool) (n : ℕ) → IsUnmarked marks n → PrecedesMarked events marks n → IsClosing events start marks →
    IsClosing events start (set marks n true)
closing_mark events start marks n unmarked precedes closing =
    let here : IsMarked (set marks n true) n = get_or-set_same marks n true false unmarked.0 in
    record {
      size = length-set marks n true ∙ closing.size;
      kept = λ k marked. elim (cases_eq k n) [
        | inl same ↦ subst (λ (m : ℕ). IsMarked (set marks n true) m) (sym same) here
        | inr other ↦ get_or-set_other marks n k true false other ∙ closing.kept k marked
      ];
      sound = λ k marked. elim (cases_eq k n) [
        | inr other ↦ closing.sound k (sym (get_or-set_other marks n k true false other) ∙ marked)
        | inl same ↦
            let link : Precedes events k precedes.second = subst (λ (m : ℕ). Precedes events m precedes.second) (sym same) precedes.precedes in
            inr (elim (closing.sound precedes.second precedes.marked) [
              | inl begins ↦ (precedes.second, begins, chained_one (Precedes events) k precedes.second link)
              | inr leads ↦ (leads.0, leads.1, chained_first (Precedes events) k precedes.second leads.0 link leads.2)
            ])
      ];
    }

pub past_from_closing :
    (events : List Event) (start marks : List Bool) → ((n : ℕ) → IsUnmarked marks n → PrecedesMarked events marks n → ⊥) → IsClosing events start marks →
    IsPastOf events start marks
past_from_closing events start marks none closing = record {
  size = closing.size;
  kept = closing.kept;
  sound = closing.sound;
  closed = λ a b within precedes marked. elim (cases_Bool (get_or marks a false)) [
    | inl is_true ↦ is_true
    | inr is_false ↦ absurd (none a (within, is_false) record { second = b; marked = marked; precedes = precedes })
  ];
}

-- the marks keep their number
pub widened_size : (level : Level) (events : List Event) (start marks : List Bool) → Widens level events start marks → length marks ≡ length start
widened_size Rc events start marks widens = ap length widens
widened_size Ra events start marks widens = ap length widens
widened_size Cc events start marks widens = widens.size
