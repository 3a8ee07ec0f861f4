-- The steps of the loops that gather pairs and numbers.
use Rattle.std.proofs.Common.{◌≡◌, ℕ, ◌+◌, ◌<◌, List, [], ◌∷◌, ◌++◌, Bool, length, get_or, arith, refl, ap, sym, ◌∙◌, subst, inl, inr}
use Rattle.std.specs.List.{Contains}
use Rattle.std.specs.List.Sorted.{IsStrictlyIncreasing}
use Rattle.std.proofs.lemmas.List.{length_push, get_or_append_left, get_or_push}
use Rattle.std.proofs.lemmas.List.Elements.{Contains-push_cases, Contains-append_left, Contains-push}
use Rattle.std.proofs.lemmas.Bool.{cases_lt}
use Rattle.graph_base.specs.declared.Edge.{Edge}
use Rattle.order_witness.specs.Marks.{IsMarked}
use Rattle.cell_base.specs.declared.level.Level.{Level}
use Rattle.cell_base.specs.declared.cell.Cell.{Cell}
use Rattle.history_core.specs.declared.event.Event.{Event}
use Rattle.history_core.specs.declared.txn.Seen.{Seen}
use Rattle.history_core.specs.Events.{begun}
use Rattle.history_core.specs.Relations.{Writes, Precedes}
use Rattle.history_core.specs.Forced.{IsForced, AreCandidates}
use Rattle.history_core.proofs.Prefixes.{IsSound}
use Rattle.history_core.proofs.Offers.{writer_bounded}
use Rattle.saturation.specs.Laws.{AreForced}
use Rattle.saturation.specs.Views.{number_of, source_of, Sees, IsRival}
use Rattle.saturation.specs.Pairs.{AddsPairs, IsFirstBelow, IsSeenDemand, IsForcedAt, IsForcedBelow}
use Rattle.saturation.proofs.Adds.{adds_as, first_none, first_whole, forced_none, list_from_adds}
use Rattle.saturation.proofs.Decides.{forced_range, forced_initial, precedes_range, reader_bounded, reader_positive}

-- ---- the demands of one read

pub demand_one :
    (events : List Event) (level : Level) (all : List Seen) (marks : List Bool) (seen : Seen) (writer : ℕ) (old new : List Edge) → 0 < writer →
    Sees level all marks (number_of seen) writer × IsRival events seen writer → AddsPairs (λ a b. (a ≡ writer) × (b ≡ source_of seen)) old new →
    AddsPairs (λ a b. (a ≡ writer) × IsSeenDemand events level all marks seen a b) old new
demand_one events level all marks seen writer old new positive demanded adds =
    adds_as (λ a b. (a ≡ writer) × (b ≡ source_of seen)) (λ a b. (a ≡ writer) × IsSeenDemand events level all marks seen a b) old new
    (λ a b is. (
      is.0,
      subst (λ (n : ℕ). IsSeenDemand events level all marks seen n b) (sym is.0)
          record { later = positive; second_is = is.1; sees = demanded.0; rival = demanded.1 },
    ))
    (λ a b is. (is.0, is.1.second_is))
    adds

pub demand_not :
    (events : List Event) (level : Level) (all : List Seen) (marks : List Bool) (seen : Seen) (writer : ℕ) →
    (Sees level all marks (number_of seen) writer × IsRival events seen writer → ⊥) → (a b : ℕ) →
    (a ≡ writer) × IsSeenDemand events level all marks seen a b → ⊥
demand_not events level all marks seen writer none a b is =
    none (
      subst (λ (n : ℕ). Sees level all marks (number_of seen) n) is.0 is.1.sees,
      subst (λ (n : ℕ). IsRival events seen n) is.0 is.1.rival,
    )

pub seen_none :
    (events : List Event) (level : Level) (all : List Seen) (marks : List Bool) (seen : Seen) (edges : List Edge) →
    AddsPairs (IsFirstBelow (IsSeenDemand events level all marks seen) 1) edges edges
seen_none events level all marks seen edges =
    first_none (IsSeenDemand events level all marks seen) 1 edges (λ a b less is. let h = is.later in absurd (omega arith))

pub seen_whole :
    (events : List Event) (level : Level) (all : List Seen) (marks : List Bool) (seen : Seen) (n : ℕ) (old new : List Edge) → begun events < n →
    AddsPairs (IsFirstBelow (IsSeenDemand events level all marks seen) n) old new → AddsPairs (IsSeenDemand events level all marks seen) old new
seen_whole events level all marks seen n old new end adds =
    first_whole (IsSeenDemand events level all marks seen) n old new
    (λ a b is. let h : a < begun events + 1 = writer_bounded events a is.rival.cell is.rival.writes in omega arith)
    adds

-- ---- what comes before the reader

pub link_one :
    (marks : List Bool) (number reader : ℕ) (old new : List Edge) → IsMarked marks number → AddsPairs (λ a b. (a ≡ number) × (b ≡ reader)) old new →
    AddsPairs (λ a b. (a ≡ number) × ((b ≡ reader) × IsMarked marks a)) old new
link_one marks number reader old new marked adds =
    adds_as (λ a b. (a ≡ number) × (b ≡ reader)) (λ a b. (a ≡ number) × ((b ≡ reader) × IsMarked marks a)) old new
    (λ a b is. (is.0, (is.1, subst (λ (n : ℕ). IsMarked marks n) (sym is.0) marked)))
    (λ a b is. (is.0, is.1.0))
    adds

-- ---- all readers

pub nothing_at_first : (events : List Event) → (a b : ℕ) → IsForcedAt events 0 a b → ⊥
nothing_at_first events a b (inl before) = initial_last a b before.0 before.1
  where
    initial_last : (a b : ℕ) → b ≡ 0 → Precedes events a b → ⊥
    initial_last a b zero (inl so) = let h = so.earlier in absurd (omega arith)
    initial_last a b zero (inr wr) = let h = reader_positive events b wr.place wr.cell a wr.reads in absurd (omega arith)
nothing_at_first events a b (inr own) =
    let d = own.1.0 in
    let h = reader_positive events d.reader d.place d.cell b d.reads in
    let same = own.1.1 in absurd (omega arith)

pub forced_first : (events : List Event) (edges : List Edge) → AddsPairs (IsForcedBelow events 1) edges edges
forced_first events edges = forced_none events 1 edges (omega arith) (nothing_at_first events)

pub forced_whole :
    (events : List Event) (n : ℕ) (edges : List Edge) → IsSound events → begun events < n → AddsPairs (IsForcedBelow events n) [] edges → AreForced events edges
forced_whole events n edges sound end adds =
    list_from_adds (IsForced events) (begun events + 1) edges (forced_range events sound)
    (adds_as (IsForcedBelow events n) (IsForced events) [] edges
    (λ a b is. elim is.2 [ inl before ↦ inl before.1 | inr own ↦ inr own.1.0 ])
    (λ a b f. found a b f)
    adds)
  where
    precedes_found : (a b : ℕ) → Precedes events a b → IsForcedBelow events n a b
    precedes_found a b before =
        let range = precedes_range events sound a b before in
        let h = range.2 in (b, omega arith, inl (refl, before))

    found : (a b : ℕ) → IsForced events a b → IsForcedBelow events n a b
    found a b (inl before) = precedes_found a b before
    found a b (inr d) =
        let range = forced_range events sound a b (inr d) in
        elim (cases_lt 0 a) [
          | inl positive ↦
              let h = reader_bounded events d.reader d.place d.cell b d.reads in
              (d.reader, omega arith, inr (positive, (d, refl)))
          | inr initial ↦
              let zero : a ≡ 0 = omega arith in
              let h = range.1 in
              let so = forced_initial events a b zero (omega arith) (inr d) in
              precedes_found a b (inl so)
        ]

-- ---- the writers among the numbers below n, ascending

pub record AreCandidatesBelow (events : List Event) (cell : Cell) (n : ℕ) (numbers : List ℕ) : Type 0 where
  pub ascending : IsStrictlyIncreasing numbers
  pub below : (k : ℕ) → k < length numbers → get_or numbers k 0 < n
  pub whole : (number : ℕ) → number < n → Writes events number cell → Contains numbers number
  pub sound : (number : ℕ) → Contains numbers number → Writes events number cell

pub candidates_none : (events : List Event) (cell : Cell) → AreCandidatesBelow events cell 0 []
candidates_none events cell = record {
  ascending = λ k within. absurd (omega arith);
  below = λ k within. absurd (omega arith);
  whole = λ number under. absurd (omega arith);
  sound = λ number (k, within, is). absurd (omega arith);
}

pub candidates_push :
    (events : List Event) (cell : Cell) (n : ℕ) (numbers : List ℕ) → Writes events n cell → AreCandidatesBelow events cell n numbers →
    AreCandidatesBelow events cell (n + 1) (numbers ++ n ∷ [])
candidates_push events cell n numbers writes are =
    let long : length (numbers ++ n ∷ []) ≡ length numbers + 1 = length_push numbers n in
    let old : (k : ℕ) → k < length numbers → get_or (numbers ++ n ∷ []) k 0 ≡ get_or numbers k 0 = λ k within. get_or_append_left numbers (n ∷ []) 0 k within in
    let new : get_or (numbers ++ n ∷ []) (length numbers) 0 ≡ n = get_or_push numbers n 0 (length numbers) refl in
    record {
      ascending = λ k within. elim (cases_lt (k + 1) (length numbers)) [
        | inl inside ↦
            let a = old k (omega arith) in let b = old (k + 1) inside in
            let h : get_or numbers k 0 < get_or numbers (k + 1) 0 = are.ascending k inside in omega arith
        | inr last ↦
            let at : k + 1 ≡ length numbers = omega arith in
            let a = old k (omega arith) in
            let b : get_or (numbers ++ n ∷ []) (k + 1) 0 ≡ n = ap (λ (i : ℕ). get_or (numbers ++ n ∷ []) i 0) at ∙ new in
            let h = are.below k (omega arith) in omega arith
      ];
      below = λ k within. elim (cases_lt k (length numbers)) [
        | inl inside ↦ let a = old k inside in let h = are.below k inside in omega arith
        | inr last ↦
            let at : k ≡ length numbers = omega arith in
            let b : get_or (numbers ++ n ∷ []) k 0 ≡ n = ap (λ (i : ℕ). get_or (numbers ++ n ∷ []) i 0) at ∙ new in omega arith
      ];
      whole = λ number under is. elim (cases_lt number n) [
        | inl less ↦ Contains-append_left numbers (n ∷ []) number (are.whole number less is)
        | inr more ↦ let at : n ≡ number = omega arith in subst (λ (m : ℕ). Contains (numbers ++ n ∷ []) m) at (Contains-push numbers n)
      ];
      sound = λ number member. elim (Contains-push_cases numbers n number member) [
        | inl before ↦ are.sound number before
        | inr same ↦ subst (λ (m : ℕ). Writes events m cell) same writes
      ];
    }

pub candidates_skip :
    (events : List Event) (cell : Cell) (n : ℕ) (numbers : List ℕ) → (Writes events n cell → ⊥) → AreCandidatesBelow events cell n numbers →
    AreCandidatesBelow events cell (n + 1) numbers
candidates_skip events cell n numbers none are = record {
  ascending = are.ascending;
  below = λ k within. let h = are.below k within in omega arith;
  whole = λ number under is. elim (cases_lt number n) [
    | inl less ↦ are.whole number less is
    | inr more ↦ let at : number ≡ n = omega arith in absurd (none (subst (λ (m : ℕ). Writes events m cell) at is))
  ];
  sound = are.sound;
}

pub candidates_whole :
    (events : List Event) (cell : Cell) (n : ℕ) (numbers : List ℕ) → begun events < n → AreCandidatesBelow events cell n numbers → AreCandidates events cell numbers
candidates_whole events cell n numbers end are = record {
  ascending = are.ascending;
  exact = λ number. (are.sound number, λ is. let h = writer_bounded events number cell is in are.whole number (omega arith) is);
}
