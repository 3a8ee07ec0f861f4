-- The columns of a table, one by one.
use Rattle.std.proofs.Common.{◌≡◌, ℕ, suc, ◌+◌, ◌<◌, List, [], ◌∷◌, ◌++◌, length, take, drop, get_or, Ok, Err, refl, ap, sym, ◌∙◌, append_assoc, add-one, drop-cons, arith}
use Rattle.std.proofs.Math.Seq.{take-suc}
use Rattle.cell_base.specs.declared.sql_state.SqlState.{SqlState}
use Rattle.sql_tree.specs.declared.statement.ColumnDef.{ColumnDef}
use Rattle.sql_tree.specs.declared.table.Column.{Column}
use Rattle.typing_rules.specs.Outcome.{Outcome, and_then}
use Rattle.typing_rules.specs.Building.{column_of, columns_from}
use Rattle.table_schema.specs.Columns.{names}

-- what is built, and then what is left
abbrev pub left_over : List Column → List (List ℕ) → List ColumnDef → Outcome (List Column)
left_over built before more = and_then (columns_from before more) (λ rest. Ok (built ++ rest))

joined : (o : Outcome (List Column)) (built : List Column) (c : Column)
    → and_then (and_then o (λ cs. Ok (c ∷ cs))) (λ rest. Ok (built ++ rest)) ≡ and_then o (λ rest. Ok ((built ++ c ∷ []) ++ rest))
joined (Ok cs) built c = ap Ok (sym (append_assoc built (c ∷ []) cs))
joined (Err code) built c = refl

step_more : (built : List Column) (before : List (List ℕ)) (d : ColumnDef) (ds : List ColumnDef) (c : Column) → column_of before d ≡ Ok c
    → left_over built before (d ∷ ds) ≡ left_over (built ++ c ∷ []) (before ++ d.name ∷ []) ds
step_more built before d ds c e = rw e (joined (columns_from (before ++ d.name ∷ []) ds) built c)

step_fault : (built : List Column) (before : List (List ℕ)) (d : ColumnDef) (ds : List ColumnDef) (code : SqlState) → column_of before d ≡ Err code
    → left_over built before (d ∷ ds) ≡ Err code
step_fault built before d ds code e = rw e refl

names-append : (xs ys : List ColumnDef) → names (xs ++ ys) ≡ names xs ++ names ys
names-append [] ys = refl
names-append (x ∷ xs) ys = ap (λ ns. x.name ∷ ns) (names-append xs ys)

one_name : (all : List ColumnDef) (i : ℕ) (d : ColumnDef) → i < length all → d ≡ get_or all i d → names (take i all) ++ d.name ∷ [] ≡ names (take (i + 1) all)
one_name all i d within is =
    let longer : take (i + 1) all ≡ take i all ++ d ∷ [] = rw add-one (take-suc all i d within ∙ ap (λ z. take i all ++ z ∷ []) (sym is)) in
    sym (ap names longer ∙ names-append (take i all) (d ∷ []))

cut : (all : List ColumnDef) (i : ℕ) (d : ColumnDef) → i < length all → d ≡ get_or all i d → drop i all ≡ d ∷ drop (i + 1) all
cut all i d within is = rw add-one (drop-cons all i d within ∙ ap (λ z. z ∷ drop (suc i) all) (sym is))

pub column_more : (all : List ColumnDef) (i : ℕ) (d : ColumnDef) (c : Column) (built : List Column) (o : Outcome (List Column)) → i < length all → d ≡ get_or all i d
    → column_of (names (take i all)) d ≡ Ok c → left_over built (names (take i all)) (drop i all) ≡ o → left_over (built ++ c ∷ []) (names (take (i + 1) all)) (drop (i + 1) all) ≡ o
column_more all i d c built o within is e before =
    ap (λ ns. left_over (built ++ c ∷ []) ns (drop (i + 1) all)) (sym (one_name all i d within is))
    ∙ sym (step_more built (names (take i all)) d (drop (i + 1) all) c e) ∙ ap (left_over built (names (take i all))) (sym (cut all i d within is)) ∙ before

pub column_fault : (all : List ColumnDef) (i : ℕ) (d : ColumnDef) (code : SqlState) (built : List Column) (o : Outcome (List Column)) → i < length all → d ≡ get_or all i d
    → column_of (names (take i all)) d ≡ Err code → left_over built (names (take i all)) (drop i all) ≡ o → o ≡ Err code
column_fault all i d code built o within is e before =
    sym before ∙ ap (left_over built (names (take i all))) (cut all i d within is) ∙ step_fault built (names (take i all)) d (drop (i + 1) all) code e

-- ---- how many there are

longer_by_one : (o : Outcome (List Column)) (c : Column) (cs : List Column) (n : ℕ) → ((more : List Column) → o ≡ Ok more → length more ≡ n)
    → and_then o (λ more. Ok (c ∷ more)) ≡ Ok cs → length cs ≡ n + 1
longer_by_one (Ok more) c cs n h e = let k = h more refl in let whole : c ∷ more ≡ cs = cc in omega (arith, ap length whole)
longer_by_one (Err code) c cs n h e = cc

by_column : (o : Outcome Column) (f : Column → Outcome (List Column)) (cs : List Column) (n : ℕ) → ((c : Column) → f c ≡ Ok cs → length cs ≡ n) → and_then o f ≡ Ok cs → length cs ≡ n
by_column (Ok c) f cs n h e = h c e
by_column (Err code) f cs n h e = cc

pub as_many : (before : List (List ℕ)) (ds : List ColumnDef) (cs : List Column) → columns_from before ds ≡ Ok cs → length cs ≡ length ds
as_many before [] cs e = let none : [] ≡ cs = cc in sym (ap length none)
as_many before (d ∷ ds) cs e =
    let more : length cs ≡ length ds + 1 =
    by_column (column_of before d) (λ c. and_then (columns_from (before ++ d.name ∷ []) ds) (λ more. Ok (c ∷ more))) cs (length ds + 1)
    (λ c h. longer_by_one (columns_from (before ++ d.name ∷ []) ds) c cs (length ds) (λ more k. as_many (before ++ d.name ∷ []) ds more k) h) e in
    omega arith
