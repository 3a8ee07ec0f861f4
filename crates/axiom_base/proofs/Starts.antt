-- Marks on what precedes a reader, in a history and in it with a further read.
use Rattle.std.proofs.Common.{◌≡◌, ℕ, ◌+◌, ◌<◌, ◌≤◌, List, Option, Bool, true, false, length, get_or-set_same, get_or-set_other, set, arith, sym, ◌∙◌, subst, inl, inr, ◌⊎◌, ◌↔◌}
use Rattle.std.proofs.lemmas.List.{length-set}
use Rattle.std.proofs.lemmas.Bool.{cases_eq}
use Rattle.order_witness.specs.Marks.{IsMarked}
use Rattle.cell_base.specs.declared.level.Level.{Level}
use Rattle.cell_base.specs.declared.cell.Cell.{Cell}
use Rattle.cell_base.specs.declared.value.Value.{Value}
use Rattle.history_core.specs.declared.event.Event.{Event}
use Rattle.history_core.specs.declared.event.Event.TheVariants.{Read}
use Rattle.history_core.specs.Events.{begun}
use Rattle.history_core.specs.Transactions.{IsPending}
use Rattle.history_core.specs.Relations.{Precedes, PrecedesCausally, IsVisibleAt}
use Rattle.history_core.proofs.Prefixes.{IsSound}
use Rattle.history_core.proofs.Offers.{precedes_read}
use Rattle.saturation.specs.Laws.{with_read}
use Rattle.saturation.specs.Views.{ArePredecessors, IsPastOf}
use Rattle.saturation.proofs.Chains.{marked_from_chain, chain_from_marked}
use Rattle.saturation.proofs.After.{size_after, precedes_kept, precedes_now}
use Rattle.saturation.proofs.Decides.{precedes_range}
use Rattle.saturation.proofs.Readers.{marked_within}
use Rattle.axiom_base.specs.Sights.{Sees, IsSightOf}

-- the marks are on what precedes the reader in the history `now`, whose other pairs are those of `events`
pub record AreStarts (events now : List Event) (reader : ℕ) (start : List Bool) : Type 0 where
  pub size : length start ≡ begun now + 1
  pub first : (a : ℕ) → Precedes now a reader → IsMarked start a
  pub back : (a : ℕ) → IsMarked start a → Precedes now a reader
  pub step : (a b : ℕ) → Precedes now a b → Precedes events a b ⊎ IsMarked start a
  pub on : (a b : ℕ) → Precedes events a b → Precedes now a b
  pub bounded : (a b : ℕ) → Precedes now a b → a < length start

pub starts_now : (events : List Event) (reader : ℕ) (start : List Bool) → IsSound events → ArePredecessors events reader start → AreStarts events events reader start
starts_now events reader start sound are = record {
  size = are.size;
  first = λ a precedes. let range = precedes_range events sound a reader precedes in let h = range.0 in let size = are.size in (are.exact a (omega arith)).1 precedes;
  back = λ a marked. (are.exact a (marked_within start a marked)).0 marked;
  step = λ a b precedes. inl precedes;
  on = λ a b precedes. precedes;
  bounded = λ a b precedes. let range = precedes_range events sound a b precedes in let h = range.0 in let size = are.size in omega arith;
}

-- with a further read its source is marked too
pub starts_with :
    (events : List Event) (s k : ℕ) (x : Cell) (w n u : ℕ) (v : Value) (start : List Bool) → IsSound events → IsPending events k s → w ≤ begun events →
    ArePredecessors events k start → AreStarts events (with_read events s x w n u v) k (set start w true)
starts_with events s k x w n u v start sound pending small are =
    let size = are.size in
    let longer : length (set start w true) ≡ length start = length-set start w true in
    let begins = size_after events s x w n u v in
    let here : IsMarked (set start w true) w = get_or-set_same start w true false (omega arith) in
    let at : (a : ℕ) → a ≡ w → IsMarked (set start w true) a = λ a same. subst (λ (m : ℕ). IsMarked (set start w true) m) (sym same) here in
    let kept : (a : ℕ) → IsMarked start a → IsMarked (set start w true) a =
    λ a marked. elim (cases_eq a w) [
      | inl same ↦ at a same
      | inr other ↦ get_or-set_other start w a true false other ∙ marked
    ]
    in
    record {
      size = omega arith;
      first = λ a precedes. elim (precedes_read events sound s k x w n u v pending a k precedes) [
        | inl old ↦ let range = precedes_range events sound a k old in let h = range.0 in kept a ((are.exact a (omega arith)).1 old)
        | inr new ↦ at a new.0
      ];
      back = λ a marked. elim (cases_eq a w) [
        | inl same ↦ subst (λ (m : ℕ). Precedes (with_read events s x w n u v) m k) (sym same) (precedes_now events s k x w n u v pending)
        | inr other ↦
            let before : IsMarked start a = sym (get_or-set_other start w a true false other) ∙ marked in
            precedes_kept events (Read s x w n u v) a k ((are.exact a (marked_within start a before)).0 before)
      ];
      step = λ a b precedes. elim (precedes_read events sound s k x w n u v pending a b precedes) [
        | inl old ↦ inl old
        | inr new ↦ inr (at a new.0)
      ];
      on = λ a b precedes. precedes_kept events (Read s x w n u v) a b precedes;
      bounded = λ a b precedes. elim (precedes_read events sound s k x w n u v pending a b precedes) [
        | inl old ↦ let range = precedes_range events sound a b old in let h = range.0 in omega arith
        | inr new ↦ let same = new.0 in omega arith
      ];
    }

-- the causal past of the reader
pub past_exact :
    (events now : List Event) (reader : ℕ) (start marks : List Bool) → AreStarts events now reader start → IsPastOf events start marks → (a : ℕ) →
    IsMarked marks a ↔ PrecedesCausally now a reader
past_exact events now reader start marks starts past a = (
  λ marked. chain_from_marked events (Precedes now) reader start marks past starts.on starts.back a marked,
  λ chain. marked_from_chain events (Precedes now) reader start marks past starts.first starts.step
      (λ a b link. let h = starts.bounded a b link in let same = past.size in omega arith) a chain.between chain.is,
)

-- reads that see the marked transactions, where just these are visible
pub sight_from_marks :
    (level : Level) (now : List Event) (reader limit : ℕ) (marks : List Bool) (since : List (Option ℕ)) → length marks ≡ begun now + 1 →
    length since ≡ length marks → ((place writer : ℕ) → Sees since (place + 1) writer ↔ IsMarked marks writer) →
    ((place writer : ℕ) → IsMarked marks writer ↔ IsVisibleAt level now reader place writer) → IsSightOf level now reader limit since
sight_from_marks level now reader limit marks since size same sees visible = record {
  size = same ∙ size;
  exact = λ place writer within. (
    λ seen. (visible place writer).0 ((sees place writer).0 seen),
    λ is. (sees place writer).1 ((visible place writer).1 is),
  );
}
