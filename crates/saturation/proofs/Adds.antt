-- Lists of pairs, as they grow.
use Rattle.std.proofs.Common.{◌≡◌, ℕ, ◌+◌, ◌<◌, ◌≤◌, List, [], ◌∷◌, ◌++◌, Some, length, arith, ap, sym, ◌∙◌, subst, inl, inr, ◌⊎◌}
use Rattle.std.specs.List.{Contains, slice_get}
use Rattle.std.proofs.lemmas.List.Elements.{Contains-push_cases, Contains-append_left, Contains-push, Contains-get_or}
use Rattle.std.proofs.lemmas.Option.{slice_get_within}
use Rattle.std.proofs.lemmas.Bool.{cases_lt}
use Rattle.txn_buffer.proofs.Lists.{at_contains, contains_at}
use Rattle.graph_base.specs.declared.Edge.{Edge}
use Rattle.history_core.specs.Forced.{IsPairList}
use Rattle.history_core.specs.declared.event.Event.{Event}
use Rattle.history_core.specs.declared.txn.Seen.{Seen}
use Rattle.cell_base.specs.declared.level.Level.{Level}
use Rattle.std.specs.Prelude.{Bool}
use Rattle.saturation.specs.Pairs.{AddsPairs, IsFirstBelow, IsSeenDemand, IsDemandBelow, IsDemandIn, IsForcedAt, IsForcedBelow}

pub adds_none : (Is : ℕ → ℕ → Type 0) (edges : List Edge) → ((a b : ℕ) → Is a b → ⊥) → AddsPairs Is edges edges
adds_none Is edges none = record {
  kept = λ e member. member;
  sound = λ e member. inl member;
  whole = λ a b is. absurd (none a b is);
}

pub adds_one :
    (edges : List Edge) (e : Edge) (before after : ℕ) → e.before ≡ before → e.after ≡ after →
    AddsPairs (λ a b. (a ≡ before) × (b ≡ after)) edges (edges ++ e ∷ [])
adds_one edges e before after begins ends = record {
  kept = λ f member. Contains-append_left edges (e ∷ []) f member;
  sound = λ f member. elim (Contains-push_cases edges e f member) [
    | inl old ↦ inl old
    | inr new ↦ inr (ap (λ (g : Edge). g.before) (sym new) ∙ begins, ap (λ (g : Edge). g.after) (sym new) ∙ ends)
  ];
  whole = λ a b is. (e, (Contains-push edges e, begins ∙ sym is.0, ends ∙ sym is.1));
}

pub adds_as :
    (P Q : ℕ → ℕ → Type 0) (old new : List Edge) → ((a b : ℕ) → P a b → Q a b) → ((a b : ℕ) → Q a b → P a b) → AddsPairs P old new → AddsPairs Q old new
adds_as P Q old new on back adds = record {
  kept = adds.kept;
  sound = λ e member. elim (adds.sound e member) [ inl before ↦ inl before | inr is ↦ inr (on e.before e.after is) ];
  whole = λ a b is. adds.whole a b (back a b is);
}

-- one relation after the other
pub adds_then :
    (P Q R : ℕ → ℕ → Type 0) (xs ys zs : List Edge) → ((a b : ℕ) → P a b → R a b) → ((a b : ℕ) → Q a b → R a b) →
    ((a b : ℕ) → R a b → P a b ⊎ Q a b) → AddsPairs P xs ys → AddsPairs Q ys zs → AddsPairs R xs zs
adds_then P Q R xs ys zs of_first of_second either first second = record {
  kept = λ e member. second.kept e (first.kept e member);
  sound = λ e member. elim (second.sound e member) [
    | inr now ↦ inr (of_second e.before e.after now)
    | inl middle ↦ elim (first.sound e middle) [ inl old ↦ inl old | inr before ↦ inr (of_first e.before e.after before) ]
  ];
  whole = λ a b is. elim (either a b is) [
    | inl before ↦ let found = first.whole a b before in (found.0, (second.kept found.0 found.1.0, found.1.1, found.1.2))
    | inr now ↦ second.whole a b now
  ];
}

-- ---- the first numbers of a loop, one more at a time

below_cases : (a n : ℕ) → a < n + 1 → (a < n) ⊎ (a ≡ n)
below_cases a n below = elim (cases_lt a n) [ inl less ↦ inl less | inr more ↦ let same : a ≡ n = omega arith in inr same ]

pub first_none : (Is : ℕ → ℕ → Type 0) (n : ℕ) (edges : List Edge) → ((a b : ℕ) → a < n → Is a b → ⊥) → AddsPairs (IsFirstBelow Is n) edges edges
first_none Is n edges none = adds_none (IsFirstBelow Is n) edges (λ a b is. none a b is.0 is.1)

pub first_more :
    (Is : ℕ → ℕ → Type 0) (n : ℕ) (old middle new : List Edge) → AddsPairs (IsFirstBelow Is n) old middle →
    AddsPairs (λ a b. (a ≡ n) × Is a b) middle new → AddsPairs (IsFirstBelow Is (n + 1)) old new
first_more Is n old middle new before now =
    adds_then (IsFirstBelow Is n) (λ a b. (a ≡ n) × Is a b) (IsFirstBelow Is (n + 1)) old middle new
    (λ a b is. let h = is.0 in (omega arith, is.1))
    (λ a b is. let h = is.0 in (omega arith, is.1))
    (λ a b is. elim (below_cases a n is.0) [ inl less ↦ inl (less, is.1) | inr same ↦ inr (same, is.1) ])
    before now

pub first_whole :
    (Is : ℕ → ℕ → Type 0) (n : ℕ) (old new : List Edge) → ((a b : ℕ) → Is a b → a < n) → AddsPairs (IsFirstBelow Is n) old new → AddsPairs Is old new
first_whole Is n old new bounded adds = adds_as (IsFirstBelow Is n) Is old new (λ a b is. is.1) (λ a b is. (bounded a b is, is)) adds

-- ---- the first reads of a list

pub demand_none :
    (events : List Event) (level : Level) (all : List Seen) (marks : List Bool) (edges : List Edge) → AddsPairs (IsDemandBelow events level all marks 0) edges edges
demand_none events level all marks edges = adds_none (IsDemandBelow events level all marks 0) edges (λ a b is. let h = is.below in absurd (omega arith))

pub demand_more :
    (events : List Event) (level : Level) (all : List Seen) (marks : List Bool) (n : ℕ) (seen : Seen) (old middle new : List Edge) →
    slice_get all n ≡ Some seen → AddsPairs (IsDemandBelow events level all marks n) old middle →
    AddsPairs (IsSeenDemand events level all marks seen) middle new → AddsPairs (IsDemandBelow events level all marks (n + 1)) old new
demand_more events level all marks n seen old middle new at before now =
    adds_then (IsDemandBelow events level all marks n) (IsSeenDemand events level all marks seen) (IsDemandBelow events level all marks (n + 1)) old middle new
    (λ a b is. let h = is.below in record { place = is.place; below = omega arith; seen = is.seen; is = is.is; demands = is.demands })
    (λ a b is. record { place = n; below = omega arith; seen = seen; is = at; demands = is })
    (λ a b is. elim (below_cases is.place n is.below) [
      | inl less ↦ inl record { place = is.place; below = less; seen = is.seen; is = is.is; demands = is.demands }
      | inr same ↦
          let both : Some is.seen ≡ Some seen = sym is.is ∙ ap (λ (k : ℕ). slice_get all k) same ∙ at in
          let one : is.seen ≡ seen = cc in
          inr (subst (λ (s : Seen). IsSeenDemand events level all marks s a b) one is.demands)
    ])
    before now

pub demand_whole :
    (events : List Event) (level : Level) (all : List Seen) (marks : List Bool) (n : ℕ) (old new : List Edge) → length all ≤ n →
    AddsPairs (IsDemandBelow events level all marks n) old new → AddsPairs (IsDemandIn events level all marks) old new
demand_whole events level all marks n old new end adds =
    adds_as (IsDemandBelow events level all marks n) (IsDemandIn events level all marks) old new
    (λ a b is. record { seen = is.seen; is = contains_at all is.place is.seen is.is; demands = is.demands })
    (λ a b is.
    let at = at_contains all is.seen is.is in
    let within : at.0 < length all = slice_get_within all at.0 is.seen at.1 in
    record { place = at.0; below = omega arith; seen = is.seen; is = at.1; demands = is.demands })
    adds

-- ---- the first readers of a history

pub forced_none : (events : List Event) (n : ℕ) (edges : List Edge) → n ≤ 1 → ((a b : ℕ) → IsForcedAt events 0 a b → ⊥) → AddsPairs (IsForcedBelow events n) edges edges
forced_none events n edges few none =
    adds_none (IsForcedBelow events n) edges
    (λ a b is. let h = is.1 in let zero : is.0 ≡ 0 = omega arith in none a b (subst (λ (r : ℕ). IsForcedAt events r a b) zero is.2))

pub forced_more :
    (events : List Event) (n : ℕ) (old middle new : List Edge) → AddsPairs (IsForcedBelow events n) old middle →
    AddsPairs (IsForcedAt events n) middle new → AddsPairs (IsForcedBelow events (n + 1)) old new
forced_more events n old middle new before now =
    adds_then (IsForcedBelow events n) (IsForcedAt events n) (IsForcedBelow events (n + 1)) old middle new
    (λ a b is. let h = is.1 in (is.0, omega arith, is.2))
    (λ a b is. (n, omega arith, is))
    (λ a b is. elim (below_cases is.0 n is.1) [
      | inl less ↦ inl (is.0, less, is.2)
      | inr same ↦ inr (subst (λ (r : ℕ). IsForcedAt events r a b) same is.2)
    ])
    before now

-- ---- the whole list

pub list_from_adds :
    (Is : ℕ → ℕ → Type 0) (size : ℕ) (edges : List Edge) → ((a b : ℕ) → Is a b → (a < size) × (b < size)) → AddsPairs Is [] edges →
    IsPairList Is size edges
list_from_adds Is size edges range adds =
    let sound : (e : Edge) → Contains edges e → Is e.before e.after =
    λ e member. elim (adds.sound e member) [ inl none ↦ let h = none.1 in absurd (omega arith) | inr is ↦ is ]
    in
    record {
      sound = sound;
      whole = adds.whole;
      in_range = λ k d within.
          let e = sound _ (Contains-get_or edges k d within) in
          range _ _ e;
    }

-- more pairs after a list of pairs
pub list_more :
    (P Q R : ℕ → ℕ → Type 0) (size : ℕ) (old new : List Edge) → ((a b : ℕ) → P a b → R a b) → ((a b : ℕ) → Q a b → R a b) →
    ((a b : ℕ) → R a b → P a b ⊎ Q a b) → ((a b : ℕ) → R a b → (a < size) × (b < size)) → IsPairList P size old → AddsPairs Q old new →
    IsPairList R size new
list_more P Q R size old new of_first of_second either range list adds =
    let sound : (e : Edge) → Contains new e → R e.before e.after =
    λ e member. elim (adds.sound e member) [ inl before ↦ of_first e.before e.after (list.sound e before) | inr is ↦ of_second e.before e.after is ]
    in
    record {
      sound = sound;
      whole = λ a b is. elim (either a b is) [
        | inl before ↦ let found = list.whole a b before in (found.0, (adds.kept found.0 found.1.0, found.1.1, found.1.2))
        | inr now ↦ adds.whole a b now
      ];
      in_range = λ k d within.
          let e = sound _ (Contains-get_or new k d within) in
          range _ _ e;
    }
