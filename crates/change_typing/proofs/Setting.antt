-- The right sides of SET, assignment by assignment, and the values of a row of INSERT, column by column.
use Rattle.std.proofs.Common.{◌≡◌, ℕ, ◌+◌, ◌<◌, List, ◌∷◌, [], ◌++◌, length, drop, get_or, set, Option, Some, Ok, Err, refl, ap, sym, ◌∙◌, append_assoc}
use Rattle.std.specs.Prelude.{Result}
use Rattle.cell_base.specs.declared.sql_fault.SqlFault.{SqlFault}
use Rattle.cell_base.specs.declared.sql_fault.SqlFault.TheVariants.{State, Memory}
use Rattle.sql_tree.specs.declared.expr.Expr.{Expr}
use Rattle.sql_tree.specs.declared.typed_expr.TypedExpr.{TypedExpr}
use Rattle.typing_rules.specs.Changes.{set_values}
use Rattle.typing_rules.specs.Given.{cell}
use Rattle.typing_rules.specs.Gives.{Gives}
use Rattle.typing_rules.specs.Insert.{cells}
use Rattle.typing_rules.specs.Names.{Source}
use Rattle.typing_rules.specs.Outcome.{Outcome, and_then}
use Rattle.typing_rules.specs.Tables.{Target}
use Rattle.typing_rules.proofs.Lists.{cut_at}
use Rattle.typing_parts.specs.declared.tables.ColumnAt.{ColumnAt}
use Rattle.typing_parts.specs.Numbered.{target}
use Rattle.change_typing.specs.Rows.{put, IsPlaced}
use Rattle.change_typing.specs.Targets.{targets}

-- the value of one, and those of the others
next_value : (sources : List Source) (n : ℕ) (cs : List ColumnAt) (set : List (List ℕ × Option Expr)) (c : ColumnAt) (a : List ℕ × Option Expr)
    → n < length cs → n < length set → c ≡ get_or cs n c → a ≡ get_or set n a
    → set_values sources (targets (drop n cs)) (drop n set)
    ≡ and_then (cell sources c.column.now a.1) (λ x. and_then (set_values sources (targets (drop (n + 1) cs)) (drop (n + 1) set)) (λ xs. Ok ((c.number, x) ∷ xs)))
next_value sources n cs set c a in_cs in_set is_c is_a =
    ap (λ l. set_values sources (targets l) (drop n set)) (cut_at cs n c in_cs is_c)
    ∙ ap (set_values sources (target c ∷ targets (drop (n + 1) cs))) (cut_at set n a in_set is_a)

longer_values : (o : Outcome (List (ℕ × TypedExpr))) (v : ℕ × TypedExpr) (done after : List (ℕ × TypedExpr)) → after ≡ done ++ v ∷ []
    → and_then (and_then o (λ vs. Ok (v ∷ vs))) (λ rest. Ok (done ++ rest)) ≡ and_then o (λ rest. Ok (after ++ rest))
longer_values (Ok vs) v done after longer = ap Ok (sym (append_assoc done (v ∷ []) vs) ∙ ap (λ l. l ++ vs) (sym longer))
longer_values (Err code) v done after longer = refl

-- one value more
pub value_more : (sources : List Source) (n m : ℕ) (cs : List ColumnAt) (set : List (List ℕ × Option Expr)) (c : ColumnAt) (a : List ℕ × Option Expr)
    (v : TypedExpr) (done after : List (ℕ × TypedExpr)) (o : Outcome (List (ℕ × TypedExpr)))
    → n < length cs → n < length set → c ≡ get_or cs n c → a ≡ get_or set n a
    → cell sources c.column.now a.1 ≡ Ok v → after ≡ done ++ (c.number, v) ∷ [] → m ≡ n + 1
    → and_then (set_values sources (targets (drop n cs)) (drop n set)) (λ rest. Ok (done ++ rest)) ≡ o
    → and_then (set_values sources (targets (drop m cs)) (drop m set)) (λ rest. Ok (after ++ rest)) ≡ o
value_more sources n m cs set c a v done after o in_cs in_set is_c is_a is longer next so_far =
    ap (λ k. and_then (set_values sources (targets (drop k cs)) (drop k set)) (λ rest. Ok (after ++ rest))) next
    ∙ sym (longer_values (set_values sources (targets (drop (n + 1) cs)) (drop (n + 1) set)) (c.number, v) done after longer)
    ∙ ap (λ (x : Outcome TypedExpr). and_then (and_then x (λ x. and_then (set_values sources (targets (drop (n + 1) cs)) (drop (n + 1) set)) (λ xs. Ok ((c.number, x) ∷ xs)))) (λ rest. Ok (done ++ rest))) (sym is)
    ∙ ap (λ (x : Outcome (List (ℕ × TypedExpr))). and_then x (λ rest. Ok (done ++ rest))) (sym (next_value sources n cs set c a in_cs in_set is_c is_a))
    ∙ so_far

-- a right side that fails
pub value_failed : (sources : List Source) (n : ℕ) (cs : List ColumnAt) (set : List (List ℕ × Option Expr)) (c : ColumnAt) (a : List ℕ × Option Expr)
    (done : List (ℕ × TypedExpr)) (why : SqlFault) (o : Outcome (List (ℕ × TypedExpr)))
    → n < length cs → n < length set → c ≡ get_or cs n c → a ≡ get_or set n a
    → Gives {A = TypedExpr} (cell sources c.column.now a.1) (Err why)
    → and_then (set_values sources (targets (drop n cs)) (drop n set)) (λ rest. Ok (done ++ rest)) ≡ o → Gives {A = List (ℕ × TypedExpr)} o (Err why)
value_failed sources n cs set c a done (State code) o in_cs in_set is_c is_a is so_far =
    sym so_far ∙ ap (λ (x : Outcome (List (ℕ × TypedExpr))). and_then x (λ rest. Ok (done ++ rest))) (next_value sources n cs set c a in_cs in_set is_c is_a)
    ∙ ap (λ (x : Outcome TypedExpr). and_then (and_then x (λ x. and_then (set_values sources (targets (drop (n + 1) cs)) (drop (n + 1) set)) (λ xs. Ok ((c.number, x) ∷ xs)))) (λ rest. Ok (done ++ rest))) is
value_failed sources n cs set c a done Memory o in_cs in_set is_c is_a is so_far = tt

-- ---- the slots of a row

-- the expression of one column, and those of the others
next_cell : (n : ℕ) (cs : List ColumnAt) (row : List (Option Expr)) (c : ColumnAt) (e : Option Expr)
    → n < length cs → n < length row → c ≡ get_or cs n c → e ≡ get_or row n e
    → cells (targets (drop n cs)) (drop n row)
    ≡ and_then (cell [] c.column.now e) (λ x. and_then (cells (targets (drop (n + 1) cs)) (drop (n + 1) row)) (λ xs. Ok (x ∷ xs)))
next_cell n cs row c e in_cs in_row is_c is_e =
    ap (λ l. cells (targets l) (drop n row)) (cut_at cs n c in_cs is_c) ∙ ap (cells (target c ∷ targets (drop (n + 1) cs))) (cut_at row n e in_row is_e)

-- what is left over these slots
abbrev pub slots_left : List (Option TypedExpr) → List ColumnAt → List (Option Expr) → Outcome (List (Option TypedExpr))
slots_left slots cs row = and_then (cells (targets cs) row) (λ es. Ok (put slots (targets cs) es))

next_slot : (n : ℕ) (cs : List ColumnAt) (row : List (Option Expr)) (c : ColumnAt) (e : Option Expr) (slots : List (Option TypedExpr))
    → n < length cs → n < length row → c ≡ get_or cs n c → e ≡ get_or row n e
    → slots_left slots (drop n cs) (drop n row)
    ≡ and_then (and_then (cell [] c.column.now e) (λ x. and_then (cells (targets (drop (n + 1) cs)) (drop (n + 1) row)) (λ xs. Ok (x ∷ xs))))
    (λ es. Ok (put slots (target c ∷ targets (drop (n + 1) cs)) es))
next_slot n cs row c e slots in_cs in_row is_c is_e =
    ap (λ l. and_then (cells (targets (drop n cs)) (drop n row)) (λ es. Ok (put slots (targets l) es))) (cut_at cs n c in_cs is_c)
    ∙ ap (λ (o : Outcome (List TypedExpr)). and_then o (λ es. Ok (put slots (target c ∷ targets (drop (n + 1) cs)) es))) (next_cell n cs row c e in_cs in_row is_c is_e)

put_first : (o : Outcome (List TypedExpr)) (c : ColumnAt) (ts : List Target) (x : TypedExpr) (slots : List (Option TypedExpr))
    → and_then (and_then o (λ xs. Ok (x ∷ xs))) (λ es. Ok (put slots (target c ∷ ts) es)) ≡ and_then o (λ es. Ok (put (set slots c.number (Some x)) ts es))
put_first (Ok xs) c ts x slots = refl
put_first (Err code) c ts x slots = refl

-- one expression more
cell_more : (n m : ℕ) (cs : List ColumnAt) (row : List (Option Expr)) (c : ColumnAt) (e : Option Expr) (x : TypedExpr)
    (slots after : List (Option TypedExpr)) (o : Outcome (List (Option TypedExpr)))
    → n < length cs → n < length row → c ≡ get_or cs n c → e ≡ get_or row n e
    → cell [] c.column.now e ≡ Ok x → after ≡ set slots c.number (Some x) → m ≡ n + 1
    → slots_left slots (drop n cs) (drop n row) ≡ o → slots_left after (drop m cs) (drop m row) ≡ o
cell_more n m cs row c e x slots after o in_cs in_row is_c is_e is stands next so_far =
    ap (λ k. slots_left after (drop k cs) (drop k row)) next
    ∙ ap (λ ss. slots_left ss (drop (n + 1) cs) (drop (n + 1) row)) stands
    ∙ sym (put_first (cells (targets (drop (n + 1) cs)) (drop (n + 1) row)) c (targets (drop (n + 1) cs)) x slots)
    ∙ ap (λ (v : Outcome TypedExpr). and_then (and_then v (λ x. and_then (cells (targets (drop (n + 1) cs)) (drop (n + 1) row)) (λ xs. Ok (x ∷ xs)))) (λ es. Ok (put slots (target c ∷ targets (drop (n + 1) cs)) es))) (sym is)
    ∙ sym (next_slot n cs row c e slots in_cs in_row is_c is_e) ∙ so_far

pub cell_placed : (n m : ℕ) (cs : List ColumnAt) (row : List (Option Expr)) (c : ColumnAt) (e : Option Expr) (made : Result TypedExpr SqlFault)
    (slots after : List (Option TypedExpr)) (o : Outcome (List (Option TypedExpr)))
    → n < length cs → n < length row → c ≡ get_or cs n c → e ≡ get_or row n e
    → Gives (cell [] c.column.now e) made → IsPlaced made c.number slots after → m ≡ n + 1
    → slots_left slots (drop n cs) (drop n row) ≡ o → slots_left after (drop m cs) (drop m row) ≡ o
cell_placed n m cs row c e (Ok x) slots after o in_cs in_row is_c is_e is stands next so_far =
    cell_more n m cs row c e x slots after o in_cs in_row is_c is_e is stands next so_far
cell_placed n m cs row c e (Err why) slots after o in_cs in_row is_c is_e is stands next so_far = absurd stands

-- an expression that fails
pub cell_failed : (n : ℕ) (cs : List ColumnAt) (row : List (Option Expr)) (c : ColumnAt) (e : Option Expr) (slots : List (Option TypedExpr))
    (why : SqlFault) (o : Outcome (List (Option TypedExpr)))
    → n < length cs → n < length row → c ≡ get_or cs n c → e ≡ get_or row n e
    → Gives {A = TypedExpr} (cell [] c.column.now e) (Err why)
    → slots_left slots (drop n cs) (drop n row) ≡ o → Gives {A = List (Option TypedExpr)} o (Err why)
cell_failed n cs row c e slots (State code) o in_cs in_row is_c is_e is so_far =
    sym so_far ∙ next_slot n cs row c e slots in_cs in_row is_c is_e
    ∙ ap (λ (v : Outcome TypedExpr). and_then (and_then v (λ x. and_then (cells (targets (drop (n + 1) cs)) (drop (n + 1) row)) (λ xs. Ok (x ∷ xs)))) (λ es. Ok (put slots (target c ∷ targets (drop (n + 1) cs)) es))) is
cell_failed n cs row c e slots Memory o in_cs in_row is_c is_e is so_far = tt
