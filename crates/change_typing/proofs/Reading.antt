-- The columns that UPDATE and DELETE read, by their marks.
use Rattle.std.proofs.Common.{◌≡◌, ℕ, ◌<◌, ◌==◌, Bool, false, ◌||◌, ◌&&◌, not, List, [], ◌∷◌, length, get_or, replicate, Option, Ok, Err, refl, ap, ◌∙◌}
use Rattle.std.specs.Prelude.{Result, IfOk}
use Rattle.std.specs.List.{list_any}
use Rattle.cell_base.specs.declared.memory.Memory.{Memory}
use Rattle.cell_base.specs.declared.sql_fault.SqlFault.{SqlFault}
use Rattle.sql_tree.specs.declared.expr.Expr.{Expr}
use Rattle.sql_tree.specs.declared.table.Table.{Table}
use Rattle.sql_tree.specs.declared.typed_expr.TypedExpr.{TypedExpr}
use Rattle.typing_rules.specs.Gives.{Gives}
use Rattle.typing_rules.specs.Outcome.{Outcome, and_then}
use Rattle.typing_rules.specs.Names.{Source}
use Rattle.typing_rules.specs.Given.{cell}
use Rattle.typing_rules.specs.Tables.{Target}
use Rattle.typing_rules.specs.Changes.{set_values, update_reads}
use Rattle.typing_rules.specs.Mentions.{mentions, in_filter, kept, numbers_from, columns_where}
use Rattle.typing_parts.specs.Marked.{IsMarked}
use Rattle.typing_parts.proofs.Marking.{marked_then, marked_at, columns_marked}
use Rattle.change_typing.specs.Targets.{AreColumns}
use Rattle.change_typing.specs.Reads.{AreWithin}

-- what is answered of marks is the columns of the table
pub columns_answered : (t : Table) (n : ℕ) (before after : List Bool) (p : ℕ → Bool) (r : Result (List ℕ) Memory) → n ≡ length t.columns
    → before ≡ replicate {A = Bool} n false
    → IsMarked before after p → IfOk r (λ columns. columns ≡ kept (λ c. not (c == t.key) && get_or after c false) (numbers_from 0 (length after)))
    → IfOk r (λ columns. columns ≡ columns_where t p)
columns_answered t n before after p (Err memory) many none marked h = tt
columns_answered t n before after p (Ok columns) many none marked h = h ∙ columns_marked t after p (rw (none, many) at marked)

-- the marks of an UPDATE
pub update_marked : (t : Table) (set : List (ℕ × TypedExpr)) (filter : Option TypedExpr) (a b d e : List Bool)
    → IsMarked a b (λ c. list_any (λ x. mentions 0 c x.1) set)
    → IsMarked b d (λ c. in_filter 0 c filter)
    → IsMarked d e (λ c. list_any (λ check. mentions 0 c check && list_any (λ x. mentions 0 x.0 check) set) t.checks)
    → IsMarked a e (update_reads t set filter)
update_marked t set filter a b d e values where_is checks =
    marked_then a d e (λ c. list_any (λ x. mentions 0 c x.1) set || in_filter 0 c filter)
    (λ c. list_any (λ check. mentions 0 c check && list_any (λ x. mentions 0 x.0 check) set) t.checks)
    (marked_then a b d (λ c. list_any (λ x. mentions 0 c x.1) set) (λ c. in_filter 0 c filter) values where_is) checks

-- the assigned columns that are marked
pub any_marked : (n : ℕ) (marks : List Bool) (p : ℕ → Bool) (set : List (ℕ × TypedExpr)) → AreWithin n set
    → IsMarked (replicate {A = Bool} n false) marks p
    → list_any (λ a. get_or marks a.0 false) set ≡ list_any (λ a. p a.0) set
any_marked n marks p [] within marked = refl
any_marked n marks p (a ∷ more) within marked =
    ap (λ m. m || list_any (λ a. get_or marks a.0 false) more) (marked_at n marks p a.0 marked within.0)
    ∙ ap (λ m. p a.0 || m) (any_marked n marks p more within.1 marked)

value_within : (n : ℕ) (number : ℕ) (x : Outcome TypedExpr) (more : Outcome (List (ℕ × TypedExpr))) (set : List (ℕ × TypedExpr)) → number < n
    → ((rest : List (ℕ × TypedExpr)) → more ≡ Ok rest → AreWithin n rest) → and_then x (λ x. and_then more (λ xs. Ok ((number, x) ∷ xs)))
    ≡ Ok set → AreWithin n set
value_within n number (Err code) more set within later e = cc
value_within n number (Ok x) (Err code) set within later e = cc
value_within n number (Ok x) (Ok rest) set within later e =
    let is : (number, x) ∷ rest ≡ set = cc in
    rw (← is) (within, later rest refl)

-- the assigned columns are columns of the table
pub set_within : (sources : List Source) (n : ℕ) (ts : List Target) (assignments : List (List ℕ × Option Expr)) (set : List (ℕ × TypedExpr))
    → AreColumns n ts
    → set_values sources ts assignments ≡ Ok set → AreWithin n set
set_within sources n [] more set are e = let none : [] ≡ set = cc in rw (← none) tt
set_within sources n (t ∷ ts) [] set are e = let none : [] ≡ set = cc in rw (← none) tt
set_within sources n (t ∷ ts) (a ∷ more) set are e =
    value_within n t.number (cell sources t.column a.1) (set_values sources ts more) set are.0
    (λ rest h. set_within sources n ts more rest are.1.1 h) e

pub all_within : (sources : List Source) (n : ℕ) (ts : List Target) (assignments : List (List ℕ × Option Expr)) (r : Result (List (ℕ × TypedExpr)) SqlFault)
    → AreColumns n ts → Gives (set_values sources ts assignments) r → IfOk r (λ set. AreWithin n set)
all_within sources n ts assignments (Ok set) are e = set_within sources n ts assignments set are e
all_within sources n ts assignments (Err why) are e = tt
