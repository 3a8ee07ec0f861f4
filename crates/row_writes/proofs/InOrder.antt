-- Rows in the order of their keys: by one sort, and a key stands twice where it stands twice beside itself.
use Rattle.std.proofs.Common.{◌≡◌, Bool, true, false, ◌||◌, cond, List, [], ◌∷◌, Ok, Err, refl, sym, ap, ◌∙◌}
use Rattle.std.specs.Cmp.{IsStrictWeakOrder, eq_by_cmp_equiv, Equal-is}
use Rattle.std.specs.List.{list_any}
use Rattle.std.specs.Ordering.{is_lt, is_eq, ordering_reverse}
use Rattle.std.specs.declared.cmp.Ordering.{Ordering}
use Rattle.std.specs.declared.cmp.Ordering.TheVariants.{Less, Equal, Greater}
use Rattle.std.proofs.lemmas.List.Sorted.{ranks_by}
use Rattle.cell_base.specs.declared.key.Key.{Key}
use Rattle.cell_base.specs.contracts.key.KeyOrd.TheImpl as key_ord
use Rattle.cell_base.specs.contracts.key.KeyOrd.TheImpl.Laws as key_laws
use Rattle.row_meaning.specs.Insertion.{same_key, is_key_below, has_twice, placed, by_keys}
use Rattle.row_meaning.specs.Pictures.{TableRow}
use Rattle.row_meaning.proofs.Sorting.{placed_by, sorted_by, NoneBelow, Rises, sorted_rises}
use Rattle.typing_rules.specs.Outcome.{Outcome, and_then}
use Rattle.cell_base.specs.declared.sql_state.SqlState.TheVariants.{S23505}
use Rattle.row_writes.specs.Twins.{has_twins_after, has_twins}

-- whether the one row stands before the other
abbrev pub is_row_below : TableRow → TableRow → Bool
is_row_below a b = is_key_below a.0 b.0

pub row_order : IsStrictWeakOrder is_row_below
row_order = ranks_by key_laws.total-law (λ (r : TableRow). r.0)

placed_is : (row : TableRow) (rows : List TableRow) → placed row rows ≡ placed_by is_row_below row rows
placed_is row [] = refl
placed_is row (other ∷ others) = ap (λ l. cond (is_key_below other.0 row.0) (other ∷ l) (row ∷ other ∷ others)) (placed_is row others)

pub by_keys_is : (rows : List TableRow) → by_keys rows ≡ sorted_by is_row_below rows
by_keys_is [] = refl
by_keys_is (row ∷ rows) = placed_is row (by_keys rows) ∙ ap (placed_by is_row_below row) (by_keys_is rows)

-- ---- equal keys

same_is : (a b : Key) → same_key a b ≡ is_eq ((key_ord.ghosts).cmp a b)
same_is a b = key_laws.matches_eq-law a b

same_turned : (a b : Key) → same_key a b ≡ same_key b a
same_turned a b = same_is a b ∙ (eq_by_cmp_equiv key_laws.total-law).symm a b ∙ sym (same_is b a)

neither_is_equal : (o : Ordering) → is_lt o ≡ false → is_lt (ordering_reverse o) ≡ false → is_eq o ≡ true
neither_is_equal Less e f = cc
neither_is_equal Equal e f = refl
neither_is_equal Greater e f = cc

tie_is_same : (a b : Key) → is_key_below a b ≡ false → is_key_below b a ≡ false → same_key a b ≡ true
tie_is_same a b e f =
    same_is a b ∙ neither_is_equal ((key_ord.ghosts).cmp a b) e (ap is_lt (sym (key_laws.total-law.antisymm b a)) ∙ f)

below_same : (a b c : Key) → same_key a b ≡ true → is_key_below a c ≡ is_key_below b c
below_same a b c e = ap is_lt (key_laws.total-law.congr a b c ((Equal-is ((key_ord.ghosts).cmp a b)).0 (sym (same_is a b) ∙ e)))

-- ---- a key stands twice in any order

abbrev has_key : Key → List TableRow → Bool
has_key k rows = list_any (λ (other : TableRow). same_key k other.0) rows

four : (a b c d : Bool) → ((a || b) || (c || d)) ≡ ((a || c) || (b || d))
four true b c d = refl
four false true true d = refl
four false true false d = refl
four false false true d = refl
four false false false d = refl

three : (a b c : Bool) → (a || (b || c)) ≡ (b || (a || c))
three true true c = refl
three true false c = refl
three false b c = refl

has_key_placed : (k : Key) (row : TableRow) (rows : List TableRow) → has_key k (placed row rows) ≡ has_key k (row ∷ rows)
has_key_placed k row [] = refl
has_key_placed k row (other ∷ others) = chosen (has_key_placed k row others) (is_key_below other.0 row.0)
  where
    chosen : has_key k (placed row others) ≡ has_key k (row ∷ others) → (b : Bool)
        → has_key k (cond b (other ∷ placed row others) (row ∷ other ∷ others)) ≡ has_key k (row ∷ other ∷ others)
    chosen more true = ap (λ t. same_key k other.0 || t) more ∙ three (same_key k other.0) (same_key k row.0) (has_key k others)
    chosen more false = refl

twice_placed : (row : TableRow) (rows : List TableRow) → has_twice (placed row rows) ≡ has_twice (row ∷ rows)
twice_placed row [] = refl
twice_placed row (other ∷ others) = chosen (twice_placed row others) (is_key_below other.0 row.0)
  where
    chosen : has_twice (placed row others) ≡ has_twice (row ∷ others) → (b : Bool)
        → has_twice (cond b (other ∷ placed row others) (row ∷ other ∷ others)) ≡ has_twice (row ∷ other ∷ others)
    chosen more true =
        ap (λ t. t || has_twice (placed row others)) (has_key_placed other.0 row others)
        ∙ ap (λ t. (same_key other.0 row.0 || has_key other.0 others) || t) more
        ∙ ap (λ t. (t || has_key other.0 others) || (has_key row.0 others || has_twice others)) (same_turned other.0 row.0)
        ∙ four (same_key row.0 other.0) (has_key other.0 others) (has_key row.0 others) (has_twice others)
    chosen more false = refl

twice_sorted : (rows : List TableRow) → has_twice (by_keys rows) ≡ has_twice rows
twice_sorted [] = refl
twice_sorted (row ∷ rows) = twice_placed row (by_keys rows) ∙ either (twice_sorted rows)
  where
    keys_sorted : (k : Key) (rows : List TableRow) → has_key k (by_keys rows) ≡ has_key k rows
    keys_sorted k [] = refl
    keys_sorted k (row ∷ rows) = has_key_placed k row (by_keys rows) ∙ ap (λ t. same_key k row.0 || t) (keys_sorted k rows)

    either : has_twice (by_keys rows) ≡ has_twice rows → has_twice (row ∷ by_keys rows) ≡ has_twice (row ∷ rows)
    either more = ap (λ t. t || has_twice (by_keys rows)) (keys_sorted row.0 rows) ∙ ap (λ t. has_key row.0 rows || t) more

-- ---- in order, equal keys stand beside one another

none_same : (k : TableRow) (next : TableRow) (rows : List TableRow) → is_row_below next k ≡ false → same_key k.0 next.0 ≡ false
    → NoneBelow is_row_below row_order next rows → has_key k.0 rows ≡ false
none_same k next [] above other h = refl
none_same k next (row ∷ rows) above other h = chosen (same_key k.0 row.0) refl (none_same k next rows above other h.1)
  where
    chosen : (b : Bool) → same_key k.0 row.0 ≡ b → has_key k.0 rows ≡ false → (b || has_key k.0 rows) ≡ false
    chosen true e more =
        let same : same_key k.0 next.0 ≡ true = tie_is_same k.0 next.0 (below_same k.0 row.0 next.0 e ∙ h.0) above in
        cc
    chosen false e more = more

twins_after : (row : TableRow) (rows : List TableRow) → Rises is_row_below row_order (row ∷ rows) → has_twins_after row.0 rows ≡ has_twice (row ∷ rows)
twins_after row [] h = refl
twins_after row (next ∷ rows) h = chosen (same_key row.0 next.0) refl (twins_after next rows h.1)
  where
    chosen : (b : Bool) → same_key row.0 next.0 ≡ b → has_twins_after next.0 rows ≡ has_twice (next ∷ rows)
        → cond b true (has_twins_after next.0 rows) ≡ ((b || has_key row.0 rows) || has_twice (next ∷ rows))
    chosen true e more = refl
    chosen false e more =
        more ∙ ap (λ t. t || has_twice (next ∷ rows)) (sym (none_same row next rows h.0.0 e h.1.0))

twins_in_order : (rows : List TableRow) → Rises is_row_below row_order rows → has_twins rows ≡ has_twice rows
twins_in_order [] h = refl
twins_in_order (row ∷ rows) h = twins_after row rows h

-- a key stands twice where the sorted rows have twins
pub twins_are : (rows sorted : List TableRow) → sorted ≡ by_keys rows → has_twins sorted ≡ has_twice rows
twins_are rows sorted is =
    twins_in_order sorted (rw (is, by_keys_is rows) (sorted_rises is_row_below row_order rows)) ∙ ap has_twice is ∙ twice_sorted rows

-- ---- the rows of an INSERT

pub refused : (o : Outcome (List TableRow)) (made : List TableRow) → o ≡ Ok made → has_twice made ≡ true
    → and_then o (λ made. cond {A = Outcome (List TableRow)} (has_twice made) (Err S23505) (Ok (by_keys made))) ≡ Err S23505
refused o made e f = rw (e, f) refl

pub accepted : (o : Outcome (List TableRow)) (made : List TableRow) → o ≡ Ok made → has_twice made ≡ false
    → and_then o (λ made. cond {A = Outcome (List TableRow)} (has_twice made) (Err S23505) (Ok (by_keys made))) ≡ Ok (by_keys made)
accepted o made e f = rw (e, f) refl
