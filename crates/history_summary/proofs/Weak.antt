-- The weak reads, one event after another.
use Rattle.std.proofs.Common.{◌≡◌, ℕ, ◌+◌, ◌<◌, List, [], ◌∷◌, ◌++◌, Some, Bool, true, false, cond, length, get_or, arith, refl, sym, ◌∙◌, subst, inl, inr, ◌↔◌, add-zero}
use Rattle.std.specs.Prelude.{IsTrue}
use Rattle.std.specs.List.{slice_get, Contains}
use Rattle.std.specs.List.Sorted.{IsStrictlyIncreasing}
use Rattle.std.proofs.lemmas.Bool.{cases_lt, false≢true}
use Rattle.std.proofs.lemmas.List.{length_push, get_or_append_left, get_or_push}
use Rattle.std.proofs.lemmas.List.Elements.{Contains-push_cases, Contains-append_left, Contains-push, Contains-get_or}
use Rattle.cell_base.specs.declared.cell.Cell.{Cell}
use Rattle.cell_base.specs.declared.value.Value.{Value}
use Rattle.history_core.specs.declared.event.Event.{Event}
use Rattle.history_core.specs.declared.event.Event.TheVariants.{Open, Close, Define, Look, Begin, Scan, Read, Own, Write, Commit, Rollback, Show}
use Rattle.history_core.specs.Legal.{IsFormed}
use Rattle.history_summary.specs.declared.latest.Latest.{Latest}
use Rattle.history_summary.specs.Latest.{IsWeakAt, HasWeakBelow}
use Rattle.history_summary.specs.Walk.{writer_at, IsStale, AreLatest}
use Rattle.history_summary.proofs.Commits.{latest_unique}

-- ---- whether the next event is weak

weak_from : (events : List Event) (k : ℕ) (e : Event) (latest : Latest) → slice_get events k ≡ Some e → AreLatest events k latest → IsStale latest e → IsWeakAt events k
weak_from events k (Read s cell source count word value) latest is are stale = record {
  session = s;
  cell = cell;
  source = source;
  count = count;
  word = word;
  value = value;
  is = is;
  latest = writer_at latest cell;
  is_latest = are cell;
  other = stale;
}
weak_from events k (Open s) latest is are stale = absurd stale
weak_from events k (Close s) latest is are stale = absurd stale
weak_from events k (Define s name) latest is are stale = absurd stale
weak_from events k (Look s count) latest is are stale = absurd stale
weak_from events k (Begin s level) latest is are stale = absurd stale
weak_from events k (Scan s table keys) latest is are stale = absurd stale
weak_from events k (Own s cell value) latest is are stale = absurd stale
weak_from events k (Write s cell value) latest is are stale = absurd stale
weak_from events k (Commit s) latest is are stale = absurd stale
weak_from events k (Rollback s) latest is are stale = absurd stale
weak_from events k (Show s number) latest is are stale = absurd stale

stale_from :
    (initial : List (Cell × Value)) (events : List Event) (k : ℕ) (e : Event) (latest : Latest) → IsFormed initial events → slice_get events k ≡ Some e →
    AreLatest events k latest → IsWeakAt events k → IsStale latest e
stale_from initial events k e latest formed is are weak =
    let both : Some e ≡ Some (Read weak.session weak.cell weak.source weak.count weak.word weak.value) = sym is ∙ weak.is in
    let same : e ≡ Read weak.session weak.cell weak.source weak.count weak.word weak.value = cc in
    let one : weak.latest ≡ writer_at latest weak.cell = latest_unique initial events k weak.cell weak.latest (writer_at latest weak.cell) formed weak.is_latest (are weak.cell) in
    subst (λ (f : Event). IsStale latest f) (sym same) (λ at. weak.other (at ∙ sym one))

-- ---- how many are weak

increasing_push : (xs : List ℕ) (x : ℕ) → IsStrictlyIncreasing xs → ((y : ℕ) → Contains xs y → y < x) → IsStrictlyIncreasing (xs ++ x ∷ [])
increasing_push xs x rises above k within =
    let long : length (xs ++ x ∷ []) ≡ length xs + 1 = length_push xs x in
    let old : (i : ℕ) → i < length xs → get_or (xs ++ x ∷ []) i 0 ≡ get_or xs i 0 = λ i small. get_or_append_left xs (x ∷ []) 0 i small in
    elim (cases_lt (k + 1) (length xs)) [
      | inl inside ↦
          let a = old k (omega arith) in let b = old (k + 1) inside in
          let h : get_or xs k 0 < get_or xs (k + 1) 0 = rises k inside in omega arith
      | inr last ↦
          let at : k + 1 ≡ length xs = omega arith in
          let a = old k (omega arith) in
          let b : get_or (xs ++ x ∷ []) (k + 1) 0 ≡ x = get_or_push xs x 0 (k + 1) (sym at) in
          let h = above (get_or xs k 0) (Contains-get_or xs k 0 (omega arith)) in omega arith
    ]

pub weak_none : (events : List Event) → HasWeakBelow events 0 0
weak_none events = record {
  places = [];
  ascending = λ k within. absurd (omega arith);
  exact = λ place. (λ there. let within = there.1 in absurd (omega arith), λ both. let below = both.0 in absurd (omega arith));
  counts = refl;
}

weak_more : (events : List Event) (k number : ℕ) → IsWeakAt events k → HasWeakBelow events k number → HasWeakBelow events (k + 1) (number + 1)
weak_more events k number weak has = record {
  places = has.places ++ k ∷ [];
  ascending = increasing_push has.places k has.ascending (λ y there. ((has.exact y).0 there).0);
  exact = λ place. (
    λ there. elim (Contains-push_cases has.places k place there) [
      | inl before ↦ let both = (has.exact place).0 before in let below = both.0 in (omega arith, both.1)
      | inr last ↦ (omega arith, subst (λ (p : ℕ). IsWeakAt events p) last weak)
    ],
    λ both. elim (cases_lt place k) [
      | inl less ↦ Contains-append_left has.places (k ∷ []) place ((has.exact place).1 (less, both.1))
      | inr more ↦
          let below = both.0 in
          let same : k ≡ place = omega arith in
          subst (λ (p : ℕ). Contains (has.places ++ k ∷ []) p) same (Contains-push has.places k)
    ],
  );
  counts = let long = length_push has.places k in let counts = has.counts in omega arith;
}

weak_still : (events : List Event) (k number : ℕ) → (IsWeakAt events k → ⊥) → HasWeakBelow events k number → HasWeakBelow events (k + 1) number
weak_still events k number none has = record {
  places = has.places;
  ascending = has.ascending;
  exact = λ place. (
    λ there. let both = (has.exact place).0 there in let below = both.0 in (omega arith, both.1),
    λ both. elim (cases_lt place k) [
      | inl less ↦ (has.exact place).1 (less, both.1)
      | inr more ↦
          let below = both.0 in
          let same : place ≡ k = omega arith in
          absurd (none (subst (λ (p : ℕ). IsWeakAt events p) same both.1))
    ],
  );
  counts = has.counts;
}

next_by : (events : List Event) (k number : ℕ) (stale : Bool) → ((stale ≡ true) → IsWeakAt events k) → (IsWeakAt events k → stale ≡ true) → HasWeakBelow events k number →
    HasWeakBelow events (k + 1) (number + cond stale 1 0)
next_by events k number true sound whole has = weak_more events k number (sound refl) has
next_by events k number false sound whole has =
    subst (λ (n : ℕ). HasWeakBelow events (k + 1) n) (sym (add-zero number)) (weak_still events k number (λ weak. false≢true (whole weak)) has)

pub weak_next :
    (initial : List (Cell × Value)) (events : List Event) (k number : ℕ) (e : Event) (latest : Latest) (stale : Bool) → IsFormed initial events → slice_get events k ≡ Some e →
    AreLatest events k latest → (IsTrue stale ↔ IsStale latest e) → HasWeakBelow events k number → HasWeakBelow events (k + 1) (number + cond stale 1 0)
weak_next initial events k number e latest stale formed is are tells has =
    next_by events k number stale (λ true_now. weak_from events k e latest is are (tells.0 true_now)) (λ weak. tells.1 (stale_from initial events k e latest formed is are weak)) has
