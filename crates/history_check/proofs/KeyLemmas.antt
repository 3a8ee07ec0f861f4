-- Keys in order, and the keys that a scan lists.
use Rattle.std.proofs.Common.{◌≡◌, ℕ, ◌+◌, ◌-◌, ◌<◌, ◌≤◌, zero, suc, List, Some, length, get_or, rules, arith, refl, ap, sym, ◌∙◌, subst, inl, inr}
use Rattle.std.specs.Ordering.{nat_cmp, int_cmp, ordering_index}
use Rattle.std.specs.Cmp.{IsTotalOrder}
use Rattle.std.specs.Cmp.Lexicographic.{slice_cmp}
use Rattle.std.specs.declared.cmp.Ordering.{Ordering}
use Rattle.std.specs.declared.cmp.Ordering.TheVariants.{Less, Equal, Greater}
use Rattle.std.specs.List.{Contains, HoldsAt, slice_get}
use Rattle.std.specs.List.Sorted.{IsNonDecreasingBy, IsPartitionPoint}
use Rattle.std.proofs.lemmas.Cmp.{tied_itself}
use Rattle.std.proofs.lemmas.Map.Lookups.{CmpEqualImpliesEq, exact_signed, exact_bytes}
use Rattle.std.proofs.lemmas.Option.{slice_get_within, get_or_from_slice_get, slice_get-get_or}
use Rattle.std.proofs.lemmas.Bool.{cases_eq, cases_lt}
use Rattle.cell_base.specs.declared.cell.Cell.{Cell}
use Rattle.cell_base.specs.declared.key.Key.{Key}
use Rattle.cell_base.specs.declared.key.Key.TheVariants.{Int, Text}
use Rattle.cell_base.specs.contracts.key.KeyOrd.TheImpl as key_ord
use Rattle.cell_base.specs.contracts.key.KeyOrd.TheImpl.Laws as key_laws
use Rattle.cell_base.specs.declared.value.Value.{Value}
use Rattle.history_core.specs.declared.event.Event.{Event}
use Rattle.history_core.specs.Legal.{IsKeyBelow, ListsKeys}
use Rattle.history_check.specs.Keys.{IsAscending, IsToList, ListsNoOther}

-- ---- keys in order

abbrev pub key_cmp : Key → Key → Ordering
key_cmp = (key_ord.ghosts).cmp

key_total : IsTotalOrder key_cmp
key_total = key_laws.total-law

key_exact : CmpEqualImpliesEq key_cmp
key_exact (Int a) (Int b) is = let same : int_cmp a b ≡ Equal = search rules in ap Int (exact_signed a b same)
key_exact (Int a) (Text b) is = let both : Less ≡ Equal = search rules in cc
key_exact (Text a) (Int b) is = let both : Greater ≡ Equal = search rules in cc
key_exact (Text a) (Text b) is = let same : slice_cmp nat_cmp a b ≡ Equal = search rules in ap Text (exact_bytes a b same)

pub less_from_below : (a b : Key) → IsKeyBelow a b → key_cmp a b ≡ Less
less_from_below (Int a) (Int b) is = search rules
less_from_below (Int a) (Text b) is = search rules
less_from_below (Text a) (Int b) is = absurd is
less_from_below (Text a) (Text b) is = search rules

-- ---- ascending keys, one after another

abbrev pub IsAscendingBelow : List Key → ℕ → Type 0
IsAscendingBelow keys n = (k : ℕ) (a b : Key) → k + 1 < n → slice_get keys k ≡ Some a → slice_get keys (k + 1) ≡ Some b → IsKeyBelow a b

pub ascending_step :
    (keys : List Key) (n p : ℕ) (low high : Key) → p + 1 ≡ n → slice_get keys p ≡ Some low → slice_get keys n ≡ Some high → IsKeyBelow low high →
    IsAscendingBelow keys n → IsAscendingBelow keys (n + 1)
ascending_step keys n p low high number at_low at_high below before k a b under is_a is_b =
    elim (cases_lt (k + 1) n) [
      | inl less ↦ before k a b less is_a is_b
      | inr more ↦
          let first : k ≡ p = omega arith in
          let next : k + 1 ≡ n = omega arith in
          let both_a : Some a ≡ Some low = sym is_a ∙ ap (λ (i : ℕ). slice_get keys i) first ∙ at_low in
          let both_b : Some b ≡ Some high = sym is_b ∙ ap (λ (i : ℕ). slice_get keys i) next ∙ at_high in
          let same_a : a ≡ low = cc in
          let same_b : b ≡ high = cc in
          subst (λ (x : Key). IsKeyBelow x b) (sym same_a) (subst (λ (y : Key). IsKeyBelow low y) (sym same_b) below)
    ]

pub ascending_whole : (keys : List Key) (n : ℕ) → length keys ≤ n → IsAscendingBelow keys n → IsAscending keys
ascending_whole keys n all below k a b is_a is_b = let h = slice_get_within keys (k + 1) b is_b in below k a b (omega arith) is_a is_b

pub ascending_broken : (keys : List Key) (n p : ℕ) (low high : Key) → p + 1 ≡ n → slice_get keys p ≡ Some low → slice_get keys n ≡ Some high → (IsKeyBelow low high → ⊥) → IsAscending keys → ⊥
ascending_broken keys n p low high number at_low at_high broken ascending =
    broken (ascending p low high at_low (ap (λ (i : ℕ). slice_get keys i) number ∙ at_high))

-- ---- a key among those that ascend

ascending_less : (keys : List Key) → IsAscending keys → (i n : ℕ) (d : Key) → i + suc n < length keys → key_cmp (get_or keys i d) (get_or keys (i + suc n) d) ≡ Less
ascending_less keys ascending i zero d within =
    let next : i + suc zero ≡ i + 1 = omega arith in
    let low = slice_get-get_or keys i d (omega arith) in
    let high = slice_get-get_or keys (i + 1) d (omega arith) in
    subst (λ (k : ℕ). key_cmp (get_or keys i d) (get_or keys k d) ≡ Less) (sym next)
    (less_from_below (get_or keys i d) (get_or keys (i + 1) d) (ascending i (get_or keys i d) (get_or keys (i + 1) d) low high))
ascending_less keys ascending i (suc n) d within =
    let mid = i + suc n in
    let next : i + suc (suc n) ≡ mid + 1 = omega arith in
    let low = slice_get-get_or keys mid d (omega arith) in
    let high = slice_get-get_or keys (mid + 1) d (omega arith) in
    let step : key_cmp (get_or keys mid d) (get_or keys (mid + 1) d) ≡ Less =
    less_from_below (get_or keys mid d) (get_or keys (mid + 1) d) (ascending mid (get_or keys mid d) (get_or keys (mid + 1) d) low high) in
    subst (λ (k : ℕ). key_cmp (get_or keys i d) (get_or keys k d) ≡ Less) (sym next)
    (key_total.trans (get_or keys i d) (get_or keys mid d) (get_or keys (mid + 1) d) (ascending_less keys ascending i n d (omega arith)) step)

index_small : (o : Ordering) → ordering_index o ≤ 2
index_small Less = omega arith
index_small Equal = omega arith
index_small Greater = omega arith

index_rises : (a b key : Key) → key_cmp a b ≡ Less → ordering_index (key_cmp a key) ≤ ordering_index (key_cmp b key)
index_rises a b key less = of (key_cmp b key) refl
  where
    of : (o : Ordering) → key_cmp b key ≡ o → ordering_index (key_cmp a key) ≤ ordering_index (key_cmp b key)
    of Less is = let h : ordering_index (key_cmp a key) ≡ 0 = ap ordering_index (key_total.trans a b key less is) in omega arith
    of Equal is =
        let same : b ≡ key = key_exact b key is in
        let below : key_cmp a key ≡ Less = subst (λ (k : Key). key_cmp a k ≡ Less) same less in
        let h : ordering_index (key_cmp a key) ≡ 0 = ap ordering_index below in omega arith
    of Greater is = let g : ordering_index (key_cmp b key) ≡ 2 = ap ordering_index is in let s = index_small (key_cmp a key) in omega arith

keys_rise : (keys : List Key) (key : Key) → IsAscending keys → IsNonDecreasingBy (λ y. ordering_index (key_cmp y key)) keys
keys_rise keys key ascending i j d upto within =
    elim (cases_lt i j) [
      | inl below ↦
          let n = j - suc i in
          let at : i + suc n ≡ j = omega arith in
          index_rises (get_or keys i d) (get_or keys j d) key
          (subst (λ (k : ℕ). key_cmp (get_or keys i d) (get_or keys k d) ≡ Less) at (ascending_less keys ascending i n d (omega arith)))
      | inr not_below ↦
          let same : i ≡ j = omega arith in
          let equal : ordering_index (key_cmp (get_or keys i d) key) ≡ ordering_index (key_cmp (get_or keys j d) key) =
          ap (λ (k : ℕ). ordering_index (key_cmp (get_or keys k d) key)) same in omega arith
    ]

-- what a binary search finds
pub found_key : (keys : List Key) (key : Key) (at : ℕ) → at < length keys → HoldsAt (λ y. key_cmp y key ≡ Equal) keys at → Contains keys key
found_key keys key at within holds = (at, within, key_exact (get_or keys at key) key (holds key))

pub missed_key :
    (keys : List Key) (key : Key) (at : ℕ) → IsAscending keys →
    (IsNonDecreasingBy (λ y. ordering_index (key_cmp y key)) keys → IsPartitionPoint (λ y. key_cmp y key ≡ Less) (λ y. key_cmp y key ≡ Greater) keys at) →
    Contains keys key → ⊥
missed_key keys key at ascending point (k, within, is) =
    let parts = point (keys_rise keys key ascending) in
    let equal : key_cmp (get_or keys k key) key ≡ Equal = subst (λ (y : Key). key_cmp y key ≡ Equal) (sym is) (tied_itself key_total key) in
    elim (cases_lt k at) [
      | inl before ↦ let less = parts.0 k key (omega arith) before in let both : Less ≡ Equal = sym less ∙ equal in cc
      | inr after ↦ let more = parts.1 k key (omega arith) within in let both : Greater ≡ Equal = sym more ∙ equal in cc
    ]

-- ---- the listed keys, one after another

pub lists_others : (initial : List (Cell × Value)) (events : List Event) (session table : ℕ) (keys : List Key) → ListsKeys initial events session table keys → ListsNoOther initial events session table keys
lists_others initial events session table keys lists k key is =
    (lists.listed key).0 (k, slice_get_within keys k key is, get_or_from_slice_get keys k key key is)

abbrev pub ListsNoOtherBelow : List (Cell × Value) → List Event → ℕ → ℕ → List Key → ℕ → Type 0
ListsNoOtherBelow initial events session table keys n = (k : ℕ) (key : Key) → k < n → slice_get keys k ≡ Some key → IsToList initial events session table key

pub others_step :
    (initial : List (Cell × Value)) (events : List Event) (session table : ℕ) (keys : List Key) (n : ℕ) (x : Key) → slice_get keys n ≡ Some x →
    IsToList initial events session table x → ListsNoOtherBelow initial events session table keys n → ListsNoOtherBelow initial events session table keys (n + 1)
others_step initial events session table keys n x at here before k key under is =
    elim (cases_eq k n) [
      | inl same ↦
          let both : Some key ≡ Some x = sym is ∙ ap (λ (i : ℕ). slice_get keys i) same ∙ at in
          let one : key ≡ x = cc in
          subst (λ (y : Key). IsToList initial events session table y) (sym one) here
      | inr other ↦ before k key (omega arith) is
    ]

pub others_all :
    (initial : List (Cell × Value)) (events : List Event) (session table : ℕ) (keys : List Key) (n : ℕ) → length keys ≤ n →
    ListsNoOtherBelow initial events session table keys n → ListsNoOther initial events session table keys
others_all initial events session table keys n all below k key is = let h = slice_get_within keys k key is in below k key (omega arith) is
