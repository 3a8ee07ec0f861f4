-- The least cell of a read that another transaction writes.
use Rattle.std.proofs.Common.{◌≡◌, ℕ, ◌+◌, ◌<◌, List, Some, false, length, arith, refl, ap, sym, ◌∙◌, subst, inl, inr}
use Rattle.std.specs.List.{slice_get, Contains}
use Rattle.std.specs.Prelude.{Option, None, IfSome, IfNone}
use Rattle.std.specs.Ordering.{is_gt, ordering_reverse}
use Rattle.std.specs.Cmp.{IsTotalOrder}
use Rattle.std.specs.declared.cmp.Ordering.{Ordering}
use Rattle.std.specs.declared.cmp.Ordering.TheVariants.{Less, Equal, Greater}
use Rattle.std.proofs.lemmas.Cmp.{upto, tied_itself}
use Rattle.std.proofs.lemmas.Option.{slice_get_within, get_or_from_slice_get}
use Rattle.std.proofs.lemmas.Bool.{cases_eq, false≢true}
use Rattle.txn_buffer.proofs.Lists.{at_contains}
use Rattle.cell_base.specs.declared.cell.Cell.{Cell}
use Rattle.cell_base.specs.declared.cell.Cell.TheVariants.{Presence, Field}
use Rattle.cell_base.specs.contracts.cell.CellOrd.TheImpl as cell_order
use Rattle.cell_base.specs.contracts.cell.CellOrd.TheImpl.Laws as cell_laws
use Rattle.cell_base.specs.declared.key.Key.{Key}
use Rattle.cell_base.specs.declared.value.Value.{Value}
use Rattle.history_core.specs.declared.event.Event.TheVariants.{Read, Scan}
use Rattle.history_core.specs.Relations.{Gives}
use Rattle.history_core.proofs.Searches.{cell_exact}
use Rattle.saturation.specs.Views.{IsUnlisted}
use Rattle.order_test.specs.Sights.{IsRivalCell, IsFirstRivalCell, IsLeastUnlisted, IsFirstUnlisted}

abbrev cell_cmp : Cell → Cell → Ordering
cell_cmp = (cell_order.ghosts).cmp

-- ---- cells in order

no_gt : (o : Ordering) → (o ≡ Greater → ⊥) → is_gt o ≡ false
no_gt Less none = refl
no_gt Equal none = refl
no_gt Greater none = absurd (none refl)

gt_none : (o : Ordering) → is_gt o ≡ false → o ≡ Greater → ⊥
gt_none o none is = false≢true (sym none ∙ ap is_gt is)

less_up : (a b : Cell) → cell_cmp a b ≡ Less → cell_cmp a b ≡ Greater → ⊥
less_up a b less greater = let both : Less ≡ Greater = sym less ∙ greater in cc

pub up_itself : (a : Cell) → cell_cmp a a ≡ Greater → ⊥
up_itself a greater = let both : Equal ≡ Greater = sym (tied_itself cell_laws.total-law a) ∙ greater in cc

up_trans : (a b c : Cell) → (cell_cmp a b ≡ Greater → ⊥) → (cell_cmp b c ≡ Greater → ⊥) → cell_cmp a c ≡ Greater → ⊥
up_trans a b c first second = gt_none (cell_cmp a c) (upto cell_laws.total-law a b c (no_gt (cell_cmp a b) first) (no_gt (cell_cmp b c) second))

-- what isn't below is up
not_below_up : (a b : Cell) → (cell_cmp b a ≡ Less → ⊥) → cell_cmp a b ≡ Greater → ⊥
not_below_up a b none greater = of (cell_cmp b a) refl
  where
    total : IsTotalOrder cell_cmp
    total = cell_laws.total-law

    of : (o : Ordering) → cell_cmp b a ≡ o → ⊥
    of Less is = none is
    of Equal is = let both : Greater ≡ Equal = sym greater ∙ total.antisymm a b ∙ ap ordering_reverse is in cc
    of Greater is = let both : Greater ≡ Less = sym greater ∙ total.antisymm a b ∙ ap ordering_reverse is in cc

-- of two cells that are each up to the other there is one
pub cells_one : (a b : Cell) → (cell_cmp a b ≡ Greater → ⊥) → (cell_cmp b a ≡ Greater → ⊥) → a ≡ b
cells_one a b first second = of (cell_cmp a b) refl
  where
    total : IsTotalOrder cell_cmp
    total = cell_laws.total-law

    of : (o : Ordering) → cell_cmp a b ≡ o → a ≡ b
    of Equal is = cell_exact a b is
    of Greater is = absurd (first is)
    of Less is = absurd (second (total.antisymm b a ∙ ap ordering_reverse is))

-- ---- the least of the first writes

one_entry : (writes : List (Cell × Value)) (k : ℕ) (a b : Cell × Value) → slice_get writes k ≡ Some a → slice_get writes k ≡ Some b → a ≡ b
one_entry writes k a b is_a is_b = let both : Some a ≡ Some b = sym is_a ∙ is_b in cc

pub least_first :
    (table : ℕ) (keys : List Key) (writes : List (Cell × Value)) (n : ℕ) (e : Cell × Value) → slice_get writes n ≡ Some e → IsUnlisted table keys e.0 →
    ((k : ℕ) (other : Cell × Value) → k < n → slice_get writes k ≡ Some other → IsUnlisted table keys other.0 → ⊥) → IsLeastUnlisted table keys writes (n + 1) n
least_first table keys writes n e is unlisted none = record {
  entry = e;
  is = is;
  unlisted = unlisted;
  least = λ k other under there of. elim (cases_eq k n) [
    | inr before ↦ absurd (none k other (omega arith) there of)
    | inl same ↦
        let one : other ≡ e = one_entry writes n other e (subst (λ (i : ℕ). slice_get writes i ≡ Some other) same there) is in
        subst (λ (x : Cell × Value). cell_cmp e.0 x.0 ≡ Greater → ⊥) (sym one) (up_itself e.0)
  ];
}

pub least_new :
    (table : ℕ) (keys : List Key) (writes : List (Cell × Value)) (n best : ℕ) (e b : Cell × Value) → slice_get writes n ≡ Some e → slice_get writes best ≡ Some b →
    IsUnlisted table keys e.0 → cell_cmp e.0 b.0 ≡ Less → IsLeastUnlisted table keys writes n best → IsLeastUnlisted table keys writes (n + 1) n
least_new table keys writes n best e b is is_best unlisted below least = record {
  entry = e;
  is = is;
  unlisted = unlisted;
  least = λ k other under there of. elim (cases_eq k n) [
    | inr before ↦
        let same : least.entry ≡ b = one_entry writes best least.entry b least.is is_best in
        up_trans e.0 b.0 other.0 (less_up e.0 b.0 below)
        (subst (λ (x : Cell × Value). cell_cmp x.0 other.0 ≡ Greater → ⊥) same (least.least k other (omega arith) there of))
    | inl same ↦
        let one : other ≡ e = one_entry writes n other e (subst (λ (i : ℕ). slice_get writes i ≡ Some other) same there) is in
        subst (λ (x : Cell × Value). cell_cmp e.0 x.0 ≡ Greater → ⊥) (sym one) (up_itself e.0)
  ];
}

pub least_old :
    (table : ℕ) (keys : List Key) (writes : List (Cell × Value)) (n best : ℕ) (e b : Cell × Value) → slice_get writes n ≡ Some e → slice_get writes best ≡ Some b →
    (cell_cmp e.0 b.0 ≡ Less → ⊥) → IsLeastUnlisted table keys writes n best → IsLeastUnlisted table keys writes (n + 1) best
least_old table keys writes n best e b is is_best above least = record {
  entry = least.entry;
  is = least.is;
  unlisted = least.unlisted;
  least = λ k other under there of. elim (cases_eq k n) [
    | inr before ↦ least.least k other (omega arith) there of
    | inl same ↦
        let one : other ≡ e = one_entry writes n other e (subst (λ (i : ℕ). slice_get writes i ≡ Some other) same there) is in
        let first : b ≡ least.entry = one_entry writes best b least.entry is_best least.is in
        subst (λ (x : Cell × Value). cell_cmp x.0 other.0 ≡ Greater → ⊥) first
        (subst (λ (x : Cell × Value). cell_cmp b.0 x.0 ≡ Greater → ⊥) (sym one) (not_below_up b.0 e.0 above))
  ];
}

pub first_unlisted_is :
    (table : ℕ) (keys : List Key) (writes : List (Cell × Value)) (at : ℕ) (e : Cell × Value) → slice_get writes at ≡ Some e →
    IsLeastUnlisted table keys writes (length writes) at → IsFirstUnlisted table keys writes e.0
first_unlisted_is table keys writes at e is least =
    let same : least.entry ≡ e = one_entry writes at least.entry e least.is is in
    record {
      value = e.1;
      is = (at, slice_get_within writes at e is, get_or_from_slice_get writes at e e is);
      unlisted = subst (λ (x : Cell × Value). IsUnlisted table keys x.0) same least.unlisted;
      least = λ other v member of.
          let found = at_contains writes (other, v) member in
          subst (λ (x : Cell × Value). cell_cmp x.0 other ≡ Greater → ⊥) same
          (least.least found.0 (other, v) (slice_get_within writes found.0 (other, v) found.1) found.1 of);
    }

pub none_unlisted :
    (table : ℕ) (keys : List Key) (writes : List (Cell × Value)) →
    ((k : ℕ) (other : Cell × Value) → k < length writes → slice_get writes k ≡ Some other → IsUnlisted table keys other.0 → ⊥) →
    (cell : Cell) (value : Value) → Contains writes (cell, value) → IsUnlisted table keys cell → ⊥
none_unlisted table keys writes none cell value member of =
    let found = at_contains writes (cell, value) member in
    none found.0 (cell, value) (slice_get_within writes found.0 (cell, value) found.1) found.1 of

-- ---- of a read and of a scan

pub read_rival :
    (s : ℕ) (x : Cell) (w n u : ℕ) (v : Value) (writes : List (Cell × Value)) (cell : Cell) → cell ≡ x → (value : Value) × Contains writes (x, value) →
    IsFirstRivalCell (Read s x w n u v) writes cell
read_rival s x w n u v writes cell same written = record {
  is = record {
    gives = (sym same, refl);
    value = written.0;
    written = subst (λ (y : Cell). Contains writes (y, written.0)) (sym same) written.1;
  };
  least = λ other rival.
      let one : x ≡ other = rival.gives.0 in
      subst (λ (y : Cell). cell_cmp cell y ≡ Greater → ⊥) (same ∙ one) (up_itself cell);
}

pub read_no_rival :
    (s : ℕ) (x : Cell) (w n u : ℕ) (v : Value) (writes : List (Cell × Value)) → ((value : Value) → Contains writes (x, value) → ⊥) →
    (cell : Cell) → IsRivalCell (Read s x w n u v) writes cell → ⊥
read_no_rival s x w n u v writes absent cell rival =
    absent rival.value (subst (λ (y : Cell). Contains writes (y, rival.value)) (sym rival.gives.0) rival.written)

unlisted_gives : (s table : ℕ) (keys : List Key) (cell : Cell) → IsUnlisted table keys cell → Gives (Scan s table keys) cell 0
unlisted_gives s table keys (Presence t key) is = (is.0, is.1, refl)
unlisted_gives s table keys (Field t key c) is = absurd is

gives_unlisted : (s table : ℕ) (keys : List Key) (cell : Cell) → Gives (Scan s table keys) cell 0 → IsUnlisted table keys cell
gives_unlisted s table keys (Presence t key) gives = (gives.0, gives.1)
gives_unlisted s table keys (Field t key c) gives = absurd gives

pub scan_rival :
    (s table : ℕ) (keys : List Key) (writes : List (Cell × Value)) (cell : Cell) → IsFirstUnlisted table keys writes cell → IsFirstRivalCell (Scan s table keys) writes cell
scan_rival s table keys writes cell first = record {
  is = record { gives = unlisted_gives s table keys cell first.unlisted; value = first.value; written = first.is };
  least = λ other rival. first.least other rival.value rival.written (gives_unlisted s table keys other rival.gives);
}

pub scan_no_rival :
    (s table : ℕ) (keys : List Key) (writes : List (Cell × Value)) → ((cell : Cell) (value : Value) → Contains writes (cell, value) → IsUnlisted table keys cell → ⊥) →
    (cell : Cell) → IsRivalCell (Scan s table keys) writes cell → ⊥
scan_no_rival s table keys writes none cell rival = none cell rival.value rival.written (gives_unlisted s table keys cell rival.gives)

-- ---- answers

pub some_weaker : {X : Type 0} (P Q : X → Type 0) (o : Option X) → ((x : X) → P x → Q x) → IfSome o P → IfSome o Q
some_weaker P Q None on holds = tt
some_weaker P Q (Some x) on holds = on x holds

pub none_weaker : {X : Type 0} (P Q : Type 0) (o : Option X) → (P → Q) → IfNone o P → IfNone o Q
none_weaker P Q None on holds = on holds
none_weaker P Q (Some x) on holds = tt

pub some_both : {X : Type 0} (P Q R : X → Type 0) (o : Option X) → ((x : X) → P x → Q x → R x) → IfSome o P → IfSome o Q → IfSome o R
some_both P Q R None on first second = tt
some_both P Q R (Some x) on first second = on x first second
