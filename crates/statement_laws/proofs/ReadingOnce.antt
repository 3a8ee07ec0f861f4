-- The reading part of a statement asks for no cell twice.
use Rattle.std.proofs.Common.{◌≡◌, ◌≢◌, ℕ, suc, Bool, List, [], ◌∷◌, ◌++◌, Option, Some, None, refl, sym, ap, subst, ◌∙◌, arith}
use Rattle.std.specs.List.{AllByRecursion, Contains}
use Rattle.std.proofs.lemmas.Bool.{cond_both}
use Rattle.std.proofs.lemmas.List.Elements.{All-contains, All-from_recursion}
use Rattle.cell_base.specs.declared.cell.Cell.{Cell}
use Rattle.cell_base.specs.declared.cell.Cell.TheVariants.{Presence, Field}
use Rattle.cell_base.specs.declared.key.Key.{Key}
use Rattle.cell_base.specs.declared.value.Value.{Value}
use Rattle.row_meaning.specs.declared.picture.TableRows.{TableRows}
use Rattle.row_meaning.specs.Combinations.{is_true}
use Rattle.row_meaning.specs.Pictures.{TableRow}
use Rattle.statement_course.specs.Course.{Course, done}
use Rattle.statement_course.specs.Laws.{TouchesOnce, AreDistinct, table_number}
use Rattle.statement_course.specs.Reading.{Part, read_columns, read_row, read_rows, read_keys, read_part, read_parts}
use Rattle.statement_course.specs.Writing.{write_all, read_presences}
use Rattle.statement_course.specs.declared.demand.Outcome.{Outcome}
use Rattle.statement_laws.proofs.MentionsOnce.{IsOnce}

-- ---- cells that were asked for

-- no cell among these is such
abbrev pub Free : (Cell → Type 0) → List Cell → Type 0
Free P before = AllByRecursion (λ cell. P cell → ⊥) before

-- after these cells, no others were asked for but such
abbrev pub Adds : (Cell → Type 0) → List Cell → List Cell → Type 1
Adds P before after = (Q : Cell → Type 0) → ((cell : Cell) → P cell → Q cell → ⊥) → Free Q before → Free Q after

free_of : (before : List Cell) (cell : Cell) → Free (λ c. c ≡ cell) before → Contains before cell → ⊥
free_of before cell free there = All-contains (λ c. c ≡ cell → ⊥) before cell (All-from_recursion (λ c. c ≡ cell → ⊥) before free) there refl

pub free_all : (P Q : Cell → Type 0) (before : List Cell) → ((cell : Cell) → Q cell → P cell) → Free P before → Free Q before
free_all P Q [] f h = tt
free_all P Q (c ∷ cs) f h = ((λ q. h.0 (f c q)), free_all P Q cs f h.1)

-- the key of a cell
abbrev pub key_of : Cell → Key
key_of (Presence table key) = key
key_of (Field table key column) = key

abbrev pub IsOf : ℕ → Key → Cell → Type 0
IsOf table key cell = (table_number cell ≡ table) × (key_of cell ≡ key)

abbrev pub IsIn : ℕ → Cell → Type 0
IsIn table cell = table_number cell ≡ table

-- ---- the columns of a row

-- no column that is still to come was asked for
abbrev ColumnsFree : ℕ → Key → List ℕ → List Cell → Type 0
ColumnsFree table key columns before = AllByRecursion (λ column. Free (λ c. c ≡ Field table key column) before) columns

columns_later : (table : ℕ) (key : Key) (column : ℕ) (columns : List ℕ) (before : List Cell) → AllByRecursion (λ n. n ≢ column) columns
    → ColumnsFree table key columns before → ColumnsFree table key columns (Field table key column ∷ before)
columns_later table key column [] before other h = tt
columns_later table key column (n ∷ ns) before other h = (((λ e. other.0 (cc)), h.0), columns_later table key column ns before other.1 h.1)

apart_from : (n : ℕ) (ns : List ℕ) (all : List ℕ) → ((m : ℕ) → Contains ns m → Contains all m) → (Contains all n → ⊥) → AllByRecursion (λ m. m ≢ n) ns
apart_from n [] all f h = tt
apart_from n (m ∷ ms) all f h =
    ((λ e. h (subst (Contains all) e (f m (0, omega arith, refl)))), apart_from n ms all (λ k there. f k (suc there.0, omega arith, there.2)) h)

pub columns_once : (table : ℕ) (key : Key) (columns : List ℕ) (before : List Cell) (read : List (ℕ × Value)) (rest : List (ℕ × Value) → Course)
    → IsOnce columns → ColumnsFree table key columns before
    → ((all : List (ℕ × Value)) (after : List Cell) → Adds (IsOf table key) before after → TouchesOnce after (rest all))
    → TouchesOnce before (read_columns table key columns read rest)
columns_once table key [] before read rest once free f = f read before (λ Q apart h. h)
columns_once table key (column ∷ columns) before read rest once free f =
    let others = apart_from column columns columns (λ m there. there) once.0 in (
      free_of before (Field table key column) free.0,
      λ v. columns_once table key columns (Field table key column ∷ before) _ rest once.1 (columns_later table key column columns before others free.1)
          (λ all after adds. f all after (λ Q apart h. adds Q apart ((λ q. apart (Field table key column) (refl, refl) q), h))),
    )

-- ---- the rows of a table

columns_free : (table : ℕ) (key : Key) (columns : List ℕ) (before : List Cell) → Free (IsOf table key) before → ColumnsFree table key columns (Presence table key ∷ before)
columns_free table key [] before free = tt
columns_free table key (column ∷ columns) before free = (
  ((λ e. absurd (cc)), free_all (IsOf table key) (λ c. c ≡ Field table key column) before (λ cell e. (ap table_number e, ap key_of e)) free),
  columns_free table key columns before free,
)

row_once : (part : Part) (key : Key) (before : List Cell) (found : List TableRow) (rest : List TableRow → Course)
    → IsOnce part.columns → Free (IsOf part.table key) before
    → ((all : List TableRow) (after : List Cell) → Adds (IsOf part.table key) before after → TouchesOnce after (rest all))
    → TouchesOnce before (read_row part key found rest)
row_once part key before found rest once free f =
    let here = Presence part.table key in (
      free_of before here (free_all (IsOf part.table key) (λ c. c ≡ here) before (λ cell e. (ap table_number e, ap key_of e)) free),
      λ present. cond_both (is_true present) _ (rest found) (TouchesOnce (here ∷ before))
          (λ _. columns_once part.table key part.columns (here ∷ before) [] _ once (columns_free part.table key part.columns before free)
          (λ read after adds. f _ after (λ Q apart h. adds Q apart ((λ q. apart here (refl, refl) q), h))))
          (λ _. f found (here ∷ before) (λ Q apart h. ((λ q. apart here (refl, refl) q), h))),
    )

-- no cell of these keys was asked for
abbrev pub KeysFree : ℕ → List Key → List Cell → Type 0
KeysFree table keys before = AllByRecursion (λ key. Free (IsOf table key) before) keys

keys_later : (table : ℕ) (key : Key) (keys : List Key) (before after : List Cell) → Adds (IsOf table key) before after
    → AllByRecursion (λ k. k ≢ key) keys → KeysFree table keys before → KeysFree table keys after
keys_later table key [] before after adds other h = tt
keys_later table key (k ∷ ks) before after adds other h =
    (adds (IsOf table k) (λ cell p q. other.0 (sym q.1 ∙ p.1)) h.0, keys_later table key ks before after adds other.1 h.1)

pub keys_apart : (k : Key) (ks : List Key) (all : List Key) → ((m : Key) → Contains ks m → Contains all m) → (Contains all k → ⊥) → AllByRecursion (λ m. m ≢ k) ks
keys_apart k [] all f h = tt
keys_apart k (m ∷ ms) all f h =
    ((λ e. h (subst (Contains all) e (f m (0, omega arith, refl)))), keys_apart k ms all (λ j there. f j (suc there.0, omega arith, there.2)) h)

rows_once : (part : Part) (keys : List Key) (before : List Cell) (found : List TableRow) (rest : List TableRow → Course)
    → IsOnce part.columns → AreDistinct keys → KeysFree part.table keys before
    → ((all : List TableRow) (after : List Cell) → Adds (IsIn part.table) before after → TouchesOnce after (rest all))
    → TouchesOnce before (read_rows part keys found rest)
rows_once part [] before found rest once distinct free f = f found before (λ Q apart h. h)
rows_once part (key ∷ keys) before found rest once distinct free f =
    let others = keys_apart key keys keys (λ m there. there) distinct.0 in
    row_once part key before found (λ more. read_rows part keys more rest) once free.0
    (λ more after adds. rows_once part keys after more rest once distinct.1 (keys_later part.table key keys before after adds others free.1)
    (λ all last further. f all last (λ Q apart h. further Q apart (adds Q (λ cell p q. apart cell p.0 q) h))))

keys_free : (table : ℕ) (keys : List Key) (before : List Cell) → Free (IsIn table) before → KeysFree table keys before
keys_free table [] before free = tt
keys_free table (key ∷ keys) before free = (free_all (IsIn table) (IsOf table key) before (λ cell p. p.0) free, keys_free table keys before free)

keys_once : (table : ℕ) (point : Option Key) (before : List Cell) (rest : List Key → Course)
    → ((keys : List Key) → AreDistinct keys → TouchesOnce before (rest keys)) → TouchesOnce before (read_keys table point rest)
keys_once table None before rest f = f
keys_once table (Some key) before rest f = f (key ∷ []) ((λ there. absurd (omega arith)), tt)

part_once : (part : Part) (before : List Cell) (rest : List TableRow → Course)
    → IsOnce part.columns → Free (IsIn part.table) before
    → ((all : List TableRow) (after : List Cell) → Adds (IsIn part.table) before after → TouchesOnce after (rest all))
    → TouchesOnce before (read_part part rest)
part_once part before rest once free f =
    keys_once part.table part.point before (λ keys. read_rows part keys [] rest) (λ keys distinct. rows_once part keys before [] rest once distinct (keys_free part.table keys before free) f)

-- ---- all tables

-- the columns of each part stand once in it, and no table stands in two
abbrev pub AreApart : List Part → Type 0
AreApart [] = Unit {0}
AreApart (part ∷ parts) = AllByRecursion (λ (p : Part). p.table ≢ part.table) parts × IsOnce part.columns × AreApart parts

abbrev pub PartsFree : List Part → List Cell → Type 0
PartsFree parts before = AllByRecursion (λ (part : Part). Free (IsIn part.table) before) parts

parts_later : (part : Part) (parts : List Part) (before after : List Cell) → Adds (IsIn part.table) before after
    → AllByRecursion (λ (p : Part). p.table ≢ part.table) parts → PartsFree parts before → PartsFree parts after
parts_later part [] before after adds other h = tt
parts_later part (p ∷ ps) before after adds other h =
    (adds (IsIn p.table) (λ cell here there. other.0 (sym there ∙ here)) h.0, parts_later part ps before after adds other.1 h.1)

pub parts_once : (parts : List Part) (before : List Cell) (picture : List TableRows) (rest : List TableRows → Course)
    → AreApart parts → PartsFree parts before
    → ((all : List TableRows) (after : List Cell) → TouchesOnce after (rest all))
    → TouchesOnce before (read_parts parts picture rest)
parts_once [] before picture rest apart free f = f picture before
parts_once (part ∷ parts) before picture rest apart free f =
    part_once part before (λ rows. read_parts parts (picture ++ record { table = part.table; rows = rows } ∷ []) rest) apart.1 free.0
    (λ rows after adds. parts_once parts after _ rest apart.2 (parts_later part parts before after adds apart.0 free.1) f)

-- ---- writes, and the presence of keys

pub writes_once : (ws : List (Cell × Value)) (before : List Cell) (outcome : Outcome) → TouchesOnce before (write_all ws (done outcome))
writes_once [] before outcome = tt
writes_once (w ∷ ws) before outcome = writes_once ws before outcome

pub presences_once : (table : ℕ) (keys : List Key) (before : List Cell) (found : Bool) (rest : Bool → Course)
    → AreDistinct keys → KeysFree table keys before → ((found : Bool) (after : List Cell) → TouchesOnce after (rest found))
    → TouchesOnce before (read_presences table keys found rest)
presences_once table [] before found rest distinct free f = f found before
presences_once table (key ∷ keys) before found rest distinct free f =
    let here = Presence table key in
    let others = keys_apart key keys keys (λ m there. there) distinct.0 in (
      free_of before here (free_all (IsOf table key) (λ c. c ≡ here) before (λ cell e. (ap table_number e, ap key_of e)) free.0),
      λ present. presences_once table keys (here ∷ before) _ rest distinct.1
          (keys_later table key keys before (here ∷ before) (λ Q apart h. ((λ q. apart here (refl, refl) q), h)) others free.1) f,
    )
