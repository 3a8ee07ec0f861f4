-- Loops item by item: one item more, and an item that fails.
use Rattle.std.proofs.Common.{◌≡◌, ℕ, ◌+◌, ◌<◌, ◌==◌, Bool, true, false, cond, List, [], ◌∷◌, ◌++◌, length, drop, get_or, Option, Ok, Err, refl, ap, sym, ◌∙◌, append_assoc}
use Rattle.std.specs.Borrow.{Bor}
use Rattle.std.proofs.lemmas.List.{append-nil, map-append}
use Rattle.cell_base.specs.declared.cell.Cell.TheVariants.{Field}
use Rattle.cell_base.specs.declared.key.Key.{Key}
use Rattle.cell_base.specs.declared.sql_fault.SqlFault.{SqlFault}
use Rattle.cell_base.specs.declared.sql_fault.SqlFault.TheVariants.{State, Memory}
use Rattle.cell_base.specs.declared.sql_state.SqlState.{SqlState}
use Rattle.cell_base.specs.declared.value.Value.{Value}
use Rattle.sql_tree.specs.declared.table.Column.{Column}
use Rattle.sql_tree.specs.declared.typed_expr.TypedExpr.{TypedExpr}
use Rattle.typing_rules.specs.Assignment.{assigned}
use Rattle.typing_rules.specs.Gives.{Gives}
use Rattle.typing_rules.specs.Outcome.{Outcome, and_then}
use Rattle.typing_rules.proofs.Lists.{with_rest, step_more, step_fault, cut_at, index_more, index_fault}
use Rattle.expr_eval.specs.Values.{value_of}
use Rattle.row_meaning.specs.Changes.{Change, passes, kept_rows}
use Rattle.row_meaning.specs.Insertion.{row_of}
use Rattle.row_meaning.specs.Pictures.{TableRow}
use Rattle.statement_course.specs.Writing.{fields_of as cells_of}
use Rattle.row_writes.specs.declared.changes.RowChange.{RowChange}
use Rattle.row_writes.specs.Seen.{rows_seen, change_seen, changes_seen, GivesChange, GivesChanges}

-- ---- each item by itself

pub item_more : {A B : Type 0} (f : A → Outcome B) (all : List A) (i : ℕ) (x : A) (y : B) (done after : List B) (o : Outcome (List B))
    → i < length all → x ≡ get_or all i x → f x ≡ Ok y → after ≡ done ++ y ∷ [] → with_rest f done (drop i all) ≡ o
    → with_rest f after (drop (i + 1) all) ≡ o
item_more f all i x y done after o within is e longer so_far =
    ap (λ ys. with_rest f ys (drop (i + 1) all)) longer ∙ index_more f all i x y done o within is e so_far

pub item_failed : {A B : Type 0} (f : A → Outcome B) (all : List A) (i : ℕ) (x : A) (done : List B) (why : SqlFault) (o : Outcome (List B))
    → i < length all → x ≡ get_or all i x → Gives {A = B} (f x) (Err why) → with_rest f done (drop i all) ≡ o → Gives {A = List B} o (Err why)
item_failed f all i x done (State code) o within is e so_far = index_fault f all i x code done o within is e so_far
item_failed f all i x done Memory o within is e so_far = tt

-- ---- what is left is written after what was

pub moved : {B : Type 0} (done one after left rest o : List B) → after ≡ done ++ one → done ++ left ≡ o → left ≡ one ++ rest → after ++ rest ≡ o
moved done one after left rest o longer so_far cut =
    ap (λ l. l ++ rest) longer ∙ append_assoc done one rest ∙ ap (λ l. done ++ l) (sym cut) ∙ so_far

pub all_moved : {B : Type 0} (done left o : List B) → left ≡ [] → done ++ left ≡ o → done ≡ o
all_moved done left o none so_far = sym (append-nil done) ∙ ap (λ l. done ++ l) (sym none) ∙ so_far

-- a column of a row more
pub field_first : (table : ℕ) (key : Key) (key_column i : ℕ) (v : Value) (vs : List Value)
    → cells_of table key key_column i (v ∷ vs) ≡ cells_of table key key_column i (v ∷ []) ++ cells_of table key key_column (i + 1) vs
field_first table key key_column i v vs = chosen (i == key_column)
  where
    chosen : (b : Bool) → cond b (cells_of table key key_column (i + 1) vs) ((Field table key i, v) ∷ cells_of table key key_column (i + 1) vs)
        ≡ cond b [] ((Field table key i, v) ∷ []) ++ cells_of table key key_column (i + 1) vs
    chosen true = refl
    chosen false = refl

-- ---- the rows that WHERE keeps

next_kept : (filter : Option TypedExpr) (rows : List TableRow) (i : ℕ) (row : TableRow) (b : Bool) → i < length rows → row ≡ get_or rows i row
    → passes filter row.1 ≡ Ok b
    → kept_rows filter (drop i rows) ≡ and_then (kept_rows filter (drop (i + 1) rows)) (λ more. Ok (cond b (row ∷ more) more))
next_kept filter rows i row b within is e =
    ap (kept_rows filter) (cut_at rows i row within is)
    ∙ ap (λ (o : Outcome Bool). and_then o (λ holds. and_then (kept_rows filter (drop (i + 1) rows)) (λ more. Ok (cond holds (row ∷ more) more)))) e

kept_first : (o : Outcome (List TableRow)) (b : Bool) (row : TableRow) (done : List TableRow)
    → and_then (and_then o (λ more. Ok (cond b (row ∷ more) more))) (λ more. Ok (done ++ more)) ≡ and_then o (λ more. Ok (cond b (done ++ row ∷ []) done ++ more))
kept_first (Ok more) true row done = ap Ok (sym (append_assoc done (row ∷ []) more))
kept_first (Ok more) false row done = refl
kept_first (Err code) b row done = refl

pub kept_more : (filter : Option TypedExpr) (rows : List TableRow) (i : ℕ) (row : TableRow) (b : Bool) (done after : List TableRow)
    (o : Outcome (List TableRow)) → i < length rows → row ≡ get_or rows i row → passes filter row.1 ≡ Ok b → after ≡ cond b (done ++ row ∷ []) done
    → and_then (kept_rows filter (drop i rows)) (λ more. Ok (done ++ more)) ≡ o
    → and_then (kept_rows filter (drop (i + 1) rows)) (λ more. Ok (after ++ more)) ≡ o
kept_more filter rows i row b done after o within is e longer so_far =
    ap (λ ks. and_then (kept_rows filter (drop (i + 1) rows)) (λ more. Ok (ks ++ more))) longer
    ∙ sym (kept_first (kept_rows filter (drop (i + 1) rows)) b row done)
    ∙ ap (λ (x : Outcome (List TableRow)). and_then x (λ more. Ok (done ++ more))) (sym (next_kept filter rows i row b within is e)) ∙ so_far

pub kept_fault : (filter : Option TypedExpr) (rows : List TableRow) (i : ℕ) (row : TableRow) (code : SqlState) (done : List TableRow)
    (o : Outcome (List TableRow)) → i < length rows → row ≡ get_or rows i row → passes filter row.1 ≡ Err code
    → and_then (kept_rows filter (drop i rows)) (λ more. Ok (done ++ more)) ≡ o → o ≡ Err code
kept_fault filter rows i row code done o within is e so_far =
    sym so_far ∙ ap (λ rs. and_then (kept_rows filter rs) (λ more. Ok (done ++ more))) (cut_at rows i row within is)
    ∙ ap (λ (x : Outcome Bool). and_then (and_then x (λ holds. and_then (kept_rows filter (drop (i + 1) rows)) (λ more. Ok (cond holds (row ∷ more) more)))) (λ more. Ok (done ++ more))) e

-- ---- the changes of rows

pub change_more : (f : TableRow → Outcome Change) (rows : List (Bor TableRow)) (i : ℕ) (row : Bor TableRow) (change : RowChange) (done after : List RowChange)
    (o : Outcome (List Change)) → i < length rows → row ≡ get_or rows i row → f row.now ≡ Ok (change_seen change) → after ≡ done ++ change ∷ []
    → with_rest f (changes_seen done) (rows_seen (drop i rows)) ≡ o → with_rest f (changes_seen after) (rows_seen (drop (i + 1) rows)) ≡ o
change_more f rows i row change done after o within is e longer so_far =
    ap (λ cs. with_rest f cs (rows_seen (drop (i + 1) rows))) (ap changes_seen longer ∙ map-append change_seen done (change ∷ []))
    ∙ sym (step_more f row.now (rows_seen (drop (i + 1) rows)) (change_seen change) (changes_seen done) e)
    ∙ ap (λ rs. with_rest f (changes_seen done) (rows_seen rs)) (sym (cut_at rows i row within is)) ∙ so_far

pub change_failed : (f : TableRow → Outcome Change) (rows : List (Bor TableRow)) (i : ℕ) (row : Bor TableRow) (done : List RowChange) (why : SqlFault)
    (o : Outcome (List Change)) → i < length rows → row ≡ get_or rows i row → GivesChange (Err why) (f row.now)
    → with_rest f (changes_seen done) (rows_seen (drop i rows)) ≡ o → GivesChanges (Err why) o
change_failed f rows i row done (State code) o within is e so_far =
    sym so_far ∙ ap (λ rs. with_rest f (changes_seen done) (rows_seen rs)) (cut_at rows i row within is)
    ∙ step_fault f row.now (rows_seen (drop (i + 1) rows)) code (changes_seen done) e
change_failed f rows i row done Memory o within is e so_far = tt

-- ---- the values of a row, column by column

next_value : (n : ℕ) (cs : List Column) (es : List TypedExpr) (c : Column) (e : TypedExpr) → n < length cs → n < length es → c ≡ get_or cs n c
    → e ≡ get_or es n e → row_of (drop n cs) (drop n es)
    ≡ and_then (and_then (value_of e []) (assigned c.kind)) (λ v. and_then (row_of (drop (n + 1) cs) (drop (n + 1) es)) (λ vs. Ok (v ∷ vs)))
next_value n cs es c e in_cs in_es is_c is_e =
    ap (λ l. row_of l (drop n es)) (cut_at cs n c in_cs is_c) ∙ ap (row_of (c ∷ drop (n + 1) cs)) (cut_at es n e in_es is_e)

longer_row : (o : Outcome (List Value)) (v : Value) (done after : List Value) → after ≡ done ++ v ∷ []
    → and_then (and_then o (λ vs. Ok (v ∷ vs))) (λ rest. Ok (done ++ rest)) ≡ and_then o (λ rest. Ok (after ++ rest))
longer_row (Ok vs) v done after longer = ap Ok (sym (append_assoc done (v ∷ []) vs) ∙ ap (λ l. l ++ vs) (sym longer))
longer_row (Err code) v done after longer = refl

pub value_more : (n m : ℕ) (cs : List Column) (es : List TypedExpr) (c : Column) (e : TypedExpr) (v : Value) (done after : List Value)
    (o : Outcome (List Value)) → n < length cs → n < length es → c ≡ get_or cs n c → e ≡ get_or es n e
    → and_then (value_of e []) (assigned c.kind) ≡ Ok v → after ≡ done ++ v ∷ [] → m ≡ n + 1
    → and_then (row_of (drop n cs) (drop n es)) (λ rest. Ok (done ++ rest)) ≡ o
    → and_then (row_of (drop m cs) (drop m es)) (λ rest. Ok (after ++ rest)) ≡ o
value_more n m cs es c e v done after o in_cs in_es is_c is_e is longer next so_far =
    ap (λ k. and_then (row_of (drop k cs) (drop k es)) (λ rest. Ok (after ++ rest))) next
    ∙ sym (longer_row (row_of (drop (n + 1) cs) (drop (n + 1) es)) v done after longer)
    ∙ ap (λ (x : Outcome Value). and_then (and_then x (λ v. and_then (row_of (drop (n + 1) cs) (drop (n + 1) es)) (λ vs. Ok (v ∷ vs)))) (λ rest. Ok (done ++ rest))) (sym is)
    ∙ ap (λ (x : Outcome (List Value)). and_then x (λ rest. Ok (done ++ rest))) (sym (next_value n cs es c e in_cs in_es is_c is_e))
    ∙ so_far

pub value_failed : (n : ℕ) (cs : List Column) (es : List TypedExpr) (c : Column) (e : TypedExpr) (done : List Value) (why : SqlFault)
    (o : Outcome (List Value)) → n < length cs → n < length es → c ≡ get_or cs n c → e ≡ get_or es n e
    → Gives {A = Value} (and_then (value_of e []) (assigned c.kind)) (Err why)
    → and_then (row_of (drop n cs) (drop n es)) (λ rest. Ok (done ++ rest)) ≡ o → Gives {A = List Value} o (Err why)
value_failed n cs es c e done (State code) o in_cs in_es is_c is_e is so_far =
    sym so_far ∙ ap (λ (x : Outcome (List Value)). and_then x (λ rest. Ok (done ++ rest))) (next_value n cs es c e in_cs in_es is_c is_e)
    ∙ ap (λ (x : Outcome Value). and_then (and_then x (λ v. and_then (row_of (drop (n + 1) cs) (drop (n + 1) es)) (λ vs. Ok (v ∷ vs)))) (λ rest. Ok (done ++ rest))) is
value_failed n cs es c e done Memory o in_cs in_es is_c is_e is so_far = tt
