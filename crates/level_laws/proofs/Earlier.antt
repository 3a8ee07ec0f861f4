-- A well formed history that is consistent was consistent before its last event.
use Rattle.std.proofs.Common.{◌≡◌, ℕ, ◌+◌, ◌<◌, ◌≤◌, zero, suc, List, [], ◌∷◌, ◌++◌, Some, false, eqb, cond, length, get_or, take, drop, if◌then◌else◌, arith, refl, sym, ◌∙◌, subst, inl, inr, ◌⊎◌, append_assoc}
use Rattle.std.specs.List.{slice_get, count_by}
use Rattle.std.proofs.lemmas.Bool.Decides.{nat_tests}
use Rattle.std.proofs.lemmas.List.{append-nil, take-append-drop}
use Rattle.std.proofs.lemmas.List.Sums.{sum_by-cons}
use Rattle.graph_base.specs.Order.{HoldsEachOnce, place_of}
use Rattle.cell_base.specs.declared.level.Level.{Level}
use Rattle.cell_base.specs.declared.cell.Cell.{Cell}
use Rattle.cell_base.specs.declared.value.Value.{Value}
use Rattle.history_core.specs.declared.event.Event.{Event}
use Rattle.history_core.specs.declared.event.Event.TheVariants.{Open, Close, Define, Look, Begin, Scan, Read, Own, Write, Commit, Rollback, Show}
use Rattle.history_core.specs.Events.{begun, session_in, is_begin}
use Rattle.history_core.specs.Relations.{Reads, Precedes, Meets, IsConsistent}
use Rattle.history_core.specs.Legal.{IsFormed}
use Rattle.history_core.proofs.Prefixes.{IsSound, sound_of, formed_back, start_bounded, begun-push_start, begun-push_other}
use Rattle.history_core.proofs.Offers.{writer_bounded}
use Rattle.saturation.proofs.After.{precedes_kept, demands_kept}

-- ---- an order without one number

abbrev without : List ℕ → ℕ → List ℕ
without [] n = []
without (x ∷ xs) n = if eqb x n then without xs n else (x ∷ without xs n)

place_of-without :
    (xs : List ℕ) (n a b : ℕ) → (a ≡ n → ⊥) → (b ≡ n → ⊥) → place_of xs a < place_of xs b → place_of (without xs n) a < place_of (without xs n) b
place_of-without [] n a b other_a other_b less = absurd (omega arith)
place_of-without (x ∷ xs) n a b other_a other_b less = grind (arith, nat_tests, place_of-without xs n a b other_a other_b)

count_by-without : (xs : List ℕ) (n k : ℕ) → (k ≡ n → ⊥) → count_by (λ m. eqb m k) (without xs n) ≡ count_by (λ m. eqb m k) xs
count_by-without [] n k other = refl
count_by-without (x ∷ xs) n k other =
    let whole : count_by (λ m. eqb m k) (x ∷ xs) ≡ cond (eqb x k) 1 0 + count_by (λ m. eqb m k) xs = sum_by-cons (λ m. cond (eqb m k) 1 0) x xs in
    let part : count_by (λ m. eqb m k) (x ∷ without xs n) ≡ cond (eqb x k) 1 0 + count_by (λ m. eqb m k) (without xs n) =
    sum_by-cons (λ m. cond (eqb m k) 1 0) x (without xs n) in
    grind (arith, nat_tests, count_by-without xs n k other, whole, part)

below-without :
    (xs : List ℕ) (n : ℕ) → ((k d : ℕ) → k < length xs → get_or xs k d < n + 1) → (k d : ℕ) → k < length (without xs n) → get_or (without xs n) k d < n
below-without [] n below k d within = absurd (omega arith)
below-without (x ∷ xs) n below k d within =
    let first : x < n + 1 = below 0 0 (omega arith) in
    let rest = below-without xs n (λ i e inside. below (suc i) e (omega arith)) in
    by_first first rest k d within
  where
    by_first :
        x < n + 1 → ((k d : ℕ) → k < length (without xs n) → get_or (without xs n) k d < n) → (k d : ℕ) → k < length (without (x ∷ xs) n) →
        get_or (without (x ∷ xs) n) k d < n
    by_first first rest zero d within = grind (arith, nat_tests, rest zero d)
    by_first first rest (suc k) d within = grind (arith, nat_tests, rest (suc k) d, rest k d)

first-without : (xs : List ℕ) (n : ℕ) → 0 < n → slice_get xs 0 ≡ Some 0 → slice_get (without xs n) 0 ≡ Some 0
first-without [] n positive is = is
first-without (x ∷ xs) n positive is = grind (arith, nat_tests, is)

holds-without : (n : ℕ) (order : List ℕ) → HoldsEachOnce (n + 1) order → HoldsEachOnce n (without order n)
holds-without n order holds = record {
  below = below-without order n holds.below;
  once = λ k small. count_by-without order n k (λ same. omega arith) ∙ holds.once k (omega arith);
}

-- ---- which transactions stand in a relation

source_bounded :
    (events : List Event) → IsSound events → (reader p : ℕ) (cell : Cell) (source : ℕ) → Reads events reader p cell source → source ≤ begun events
source_bounded events sound reader p cell source reads =
    elim (sound.sources reader p cell source reads) [
      | inl first ↦ omega arith
      | inr committed ↦ let of = committed.commit in start_bounded events source committed.session of.start of.starts
    ]

precedes_bounded : (events : List Event) → IsSound events → (a b : ℕ) → Precedes events a b → (a ≤ begun events) × (b ≤ begun events)
precedes_bounded events sound a b (inl so) =
    let high : b ≤ begun events = start_bounded events b so.session so.place so.started in
    let less = so.earlier in
    (omega arith, high)
precedes_bounded events sound a b (inr wr) =
    let of = wr.reads.of_reader in (
      source_bounded events sound b wr.place wr.cell a wr.reads,
      start_bounded events b (session_in wr.reads.event) of.start of.starts,
    )

-- ---- back by one event

begin_or_other : (e : Event) → (is_begin e ≡ false) ⊎ ((s : ℕ) × ((level : Level) × (e ≡ Begin s level)))
begin_or_other (Begin s level) = inr (s, (level, refl))
begin_or_other (Open s) = inl refl
begin_or_other (Close s) = inl refl
begin_or_other (Define s name) = inl refl
begin_or_other (Look s count) = inl refl
begin_or_other (Scan s table keys) = inl refl
begin_or_other (Read s x w n u v) = inl refl
begin_or_other (Own s x v) = inl refl
begin_or_other (Write s x v) = inl refl
begin_or_other (Commit s) = inl refl
begin_or_other (Rollback s) = inl refl
begin_or_other (Show s number) = inl refl

-- an event that begins nothing: the same order
meets_still : (events : List Event) (e : Event) (order : List ℕ) → is_begin e ≡ false → Meets (events ++ e ∷ []) order → Meets events order
meets_still events e order other meets = record {
  holds = subst (λ (n : ℕ). HoldsEachOnce (n + 1) order) (begun-push_other events e other) meets.holds;
  first = meets.first;
  precedes = λ a b p. meets.precedes a b (precedes_kept events e a b p);
  demands = λ a b d. meets.demands a b (demands_kept events e a b d);
}

-- a transaction that has just begun: the order without it
meets_unbegun :
    (events : List Event) (s : ℕ) (level : Level) (order : List ℕ) → IsSound events → Meets (events ++ Begin s level ∷ []) order →
    Meets events (without order (begun events + 1))
meets_unbegun events s level order sound meets =
    let holds : HoldsEachOnce (begun events + 1 + 1) order =
    subst (λ (n : ℕ). HoldsEachOnce (n + 1) order) (begun-push_start events s level) meets.holds in
    record {
      holds = holds-without (begun events + 1) order holds;
      first = first-without order (begun events + 1) (omega arith) meets.first;
      precedes = λ a b p.
          let bounds = precedes_bounded events sound a b p in
          let low = bounds.0 in let high = bounds.1 in
          place_of-without order (begun events + 1) a b (λ same. omega arith) (λ same. omega arith)
          (meets.precedes a b (precedes_kept events (Begin s level) a b p));
      demands = λ a b d.
          let low : a < begun events + 1 = writer_bounded events a d.cell d.writes in
          let high : b ≤ begun events = source_bounded events sound d.reader d.place d.cell b d.reads in
          place_of-without order (begun events + 1) a b (λ same. omega arith) (λ same. omega arith)
          (meets.demands a b (demands_kept events (Begin s level) a b d));
    }

pub consistent_back : (initial : List (Cell × Value)) (events : List Event) (e : Event) → IsFormed initial events → IsConsistent (events ++ e ∷ []) → IsConsistent events
consistent_back initial events e formed (order, meets) =
    elim (begin_or_other e) [
      | inl other ↦ (order, meets_still events e order other meets)
      | inr begins ↦
          let there : Meets (events ++ Begin begins.0 begins.1.0 ∷ []) order = subst (λ (f : Event). Meets (events ++ f ∷ []) order) begins.1.1 meets in
          (without order (begun events + 1), meets_unbegun events begins.0 begins.1.0 order (sound_of initial events formed) there)
    ]

-- back by any number of events
consistent_front :
    (initial : List (Cell × Value)) (xs ys : List Event) → IsFormed initial (xs ++ ys) → IsConsistent (xs ++ ys) → IsFormed initial xs × IsConsistent xs
consistent_front initial xs [] formed consistent = (
  subst (λ (es : List Event). IsFormed initial es) (append-nil xs) formed,
  subst (λ (es : List Event). IsConsistent es) (append-nil xs) consistent,
)
consistent_front initial xs (y ∷ ys) formed consistent =
    let split : xs ++ y ∷ ys ≡ (xs ++ y ∷ []) ++ ys = sym (append_assoc xs (y ∷ []) ys) in
    let on = consistent_front initial (xs ++ y ∷ []) ys (subst (λ (es : List Event). IsFormed initial es) split formed)
    (subst (λ (es : List Event). IsConsistent es) split consistent) in
    let before : IsFormed initial xs = (formed_back initial xs y on.0).0 in
    (before, consistent_back initial xs y before on.1)

pub consistent_take :
    (initial : List (Cell × Value)) (events : List Event) (k : ℕ) → IsFormed initial events → IsConsistent events → IsConsistent (take k events)
consistent_take initial events k formed consistent =
    let split : events ≡ take k events ++ drop k events = sym (take-append-drop k events) in
    (consistent_front initial (take k events) (drop k events) (subst (λ (es : List Event). IsFormed initial es) split formed)
    (subst (λ (es : List Event). IsConsistent es) split consistent)).1
