-- The rows that an INSERT makes have different keys.
use Rattle.std.proofs.Common.{◌≡◌, ◌≢◌, true, false, List, [], ◌∷◌, map, Ok, Err, refl, sym, subst, ◌∙◌}
use Rattle.std.specs.Cmp.{eq_by_cmp_equiv}
use Rattle.std.specs.List.{list_any, AllByRecursion}
use Rattle.std.proofs.lemmas.Bool.{cond_both, or_parts, false≢true}
use Rattle.std.proofs.lemmas.List.Elements.{All-contains, All-from_recursion}
use Rattle.cell_base.specs.contracts.key.KeyOrd.TheImpl.Laws as key_laws
use Rattle.cell_base.specs.declared.key.Key.{Key}
use Rattle.cell_base.specs.declared.sql_state.SqlState.TheVariants.{S23505}
use Rattle.sql_tree.specs.declared.table.Table.{Table}
use Rattle.sql_tree.specs.declared.typed_expr.TypedExpr.{TypedExpr}
use Rattle.typing_rules.specs.Outcome.{all_of}
use Rattle.typing_rules.specs.Sound.{Holds}
use Rattle.typing_rules.proofs.Numbers.{then_holds}
use Rattle.row_meaning.specs.Pictures.{TableRow}
use Rattle.row_meaning.specs.Insertion.{same_key, keyed_row, has_twice, is_key_below, placed, by_keys, rows_to_insert}
use Rattle.statement_course.specs.Laws.{AreDistinct}
use Rattle.statement_laws.proofs.Inserting.{anything}

same_self : (key : Key) → same_key key key ≡ true
same_self key = key_laws.matches_eq-law key key ∙ (eq_by_cmp_equiv key_laws.total-law).refl key

-- no row has the key
abbrev HasNone : Key → List TableRow → Type 0
HasNone key rows = AllByRecursion (λ (r : TableRow). r.0 ≢ key) rows

abbrev HaveApart : List TableRow → Type 0
HaveApart [] = Unit {0}
HaveApart (row ∷ rows) = HasNone row.0 rows × HaveApart rows

none_same : (key : Key) (rows : List TableRow) → list_any (λ (other : TableRow). same_key key other.0) rows ≡ false → HasNone key rows
none_same key [] h = tt
none_same key (r ∷ rs) h =
    let parts = or_parts (same_key key r.0) (list_any (λ (other : TableRow). same_key key other.0) rs) h in
    ((λ e. false≢true (sym parts.0 ∙ subst (λ (k : Key). same_key key k ≡ true) (sym e) (same_self key))), none_same key rs parts.1)

none_twice : (rows : List TableRow) → has_twice rows ≡ false → HaveApart rows
none_twice [] h = tt
none_twice (row ∷ rows) h =
    let parts = or_parts (list_any (λ (other : TableRow). same_key row.0 other.0) rows) (has_twice rows) h in
    (none_same row.0 rows parts.0, none_twice rows parts.1)

-- ---- in order

all_placed : (P : TableRow → Type 0) (row : TableRow) (rows : List TableRow) → P row → AllByRecursion P rows → AllByRecursion P (placed row rows)
all_placed P row [] h hs = (h, tt)
all_placed P row (other ∷ others) h hs =
    cond_both (is_key_below other.0 row.0) (other ∷ placed row others) (row ∷ other ∷ others) (AllByRecursion P)
    (λ _. (hs.0, all_placed P row others h hs.1)) (λ _. (h, hs))

all_in_order : (P : TableRow → Type 0) (rows : List TableRow) → AllByRecursion P rows → AllByRecursion P (by_keys rows)
all_in_order P [] h = tt
all_in_order P (row ∷ rows) h = all_placed P row (by_keys rows) h.0 (all_in_order P rows h.1)

placed_apart : (row : TableRow) (rows : List TableRow) → HasNone row.0 rows → HaveApart rows → HaveApart (placed row rows)
placed_apart row [] h hs = (tt, tt)
placed_apart row (other ∷ others) h hs =
    cond_both (is_key_below other.0 row.0) (other ∷ placed row others) (row ∷ other ∷ others) HaveApart
    (λ _. (all_placed (λ (r : TableRow). r.0 ≢ other.0) row others (λ e. h.0 (sym e)) hs.0, placed_apart row others h.1 hs.1)) (λ _. (h, hs))

in_order_apart : (rows : List TableRow) → HaveApart rows → HaveApart (by_keys rows)
in_order_apart [] h = tt
in_order_apart (row ∷ rows) h =
    placed_apart row (by_keys rows) (all_in_order (λ (r : TableRow). r.0 ≢ row.0) rows h.0) (in_order_apart rows h.1)

-- ---- keys

abbrev keys_of : List TableRow → List Key
keys_of rows = map (λ (r : TableRow). r.0) rows

keys_none : (key : Key) (rows : List TableRow) → HasNone key rows → AllByRecursion (λ k. k ≢ key) (keys_of rows)
keys_none key [] h = tt
keys_none key (r ∷ rs) h = (h.0, keys_none key rs h.1)

distinct_keys : (rows : List TableRow) → HaveApart rows → AreDistinct (keys_of rows)
distinct_keys [] h = tt
distinct_keys (row ∷ rows) h = (
  (λ there. All-contains (λ k. k ≢ row.0) (keys_of rows) row.0 (All-from_recursion (λ k. k ≢ row.0) (keys_of rows) (keys_none row.0 rows h.0)) there refl),
  distinct_keys rows h.1,
)

abbrev pub KeysDistinct : List TableRow → Type 0
KeysDistinct rows = AreDistinct (keys_of rows)

pub rows_distinct : (table : Table) (rows : List (List TypedExpr)) → Holds KeysDistinct (rows_to_insert table rows)
unfolding rows_to_insert
rows_distinct table rows =
    then_holds (λ (made : List TableRow). Unit {0}) KeysDistinct (all_of (map (keyed_row table) rows)) _ (anything (all_of (map (keyed_row table) rows)))
    (λ made _. cond_both (has_twice made) (Err S23505) (Ok (by_keys made)) (Holds KeysDistinct) (λ _. tt)
    (λ new. distinct_keys (by_keys made) (in_order_apart made (none_twice made new))))
