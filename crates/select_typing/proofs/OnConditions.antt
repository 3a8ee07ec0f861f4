-- The conditions of JOIN, entry by entry.
use Rattle.std.proofs.Common.{◌≡◌, ℕ, ◌+◌, ◌<◌, List, [], ◌∷◌, ◌++◌, length, take, drop, get_or, Option, Some, None, Ok, Err, refl, ap, sym, ◌∙◌, append_assoc, arith}
use Rattle.std.proofs.lemmas.List.{append-nil, length-take, get_or-take}
use Rattle.cell_base.specs.declared.sql_fault.SqlFault.{SqlFault}
use Rattle.cell_base.specs.declared.sql_fault.SqlFault.TheVariants.{State, Memory}
use Rattle.cell_base.specs.declared.sql_state.SqlState.{SqlState}
use Rattle.sql_tree.specs.declared.expr.Expr.{Expr}
use Rattle.sql_tree.specs.declared.statement.TableRef.{TableRef}
use Rattle.sql_tree.specs.declared.typed_expr.TypedExpr.{TypedExpr}
use Rattle.expr_typing.specs.declared.entry.Entry.{Entry}
use Rattle.typing_rules.specs.Gives.{Gives}
use Rattle.expr_typing.specs.Scope.{IsNarrow}
use Rattle.typing_rules.specs.Names.{Source}
use Rattle.typing_rules.specs.Expressions.{flag}
use Rattle.typing_rules.specs.Outcome.{Outcome, and_then}
use Rattle.typing_rules.specs.Select.{on_before, ons_from}
use Rattle.typing_rules.proofs.Lists.{cut_at}

-- what is typed, and then what is left
abbrev pub ons_left : List TypedExpr → List Source → ℕ → List TableRef → Outcome (List TypedExpr)
ons_left done sources seen more = and_then (ons_from sources seen more) (λ rest. Ok (done ++ rest))

rest_more : (o : Outcome (List TypedExpr)) (done : List TypedExpr) (x : TypedExpr) (after : List TypedExpr) → done ++ x ∷ [] ≡ after
    → and_then (and_then o (λ xs. Ok (x ∷ xs))) (λ rest. Ok (done ++ rest)) ≡ and_then o (λ rest. Ok (after ++ rest))
rest_more (Ok xs) done x after e = ap Ok (sym (append_assoc done (x ∷ []) xs) ∙ ap (λ ys. ys ++ xs) e)
rest_more (Err code) done x after e = refl

first_more : (f : Outcome TypedExpr) (o : Outcome (List TypedExpr)) (done after : List TypedExpr)
    → and_then (and_then f (λ x. Ok (x ∷ []))) (λ more. Ok (done ++ more)) ≡ Ok after
    → and_then (and_then f (λ x. and_then o (λ xs. Ok (x ∷ xs)))) (λ rest. Ok (done ++ rest)) ≡ and_then o (λ rest. Ok (after ++ rest))
first_more (Ok x) o done after e = let same : done ++ x ∷ [] ≡ after = cc in rest_more o done x after same
first_more (Err code) o done after e = cc

on_more : (seen : List Source) (on : Option Expr) (o : Outcome (List TypedExpr)) (done after : List TypedExpr)
    → and_then (on_before seen on (Ok [])) (λ more. Ok (done ++ more)) ≡ Ok after
    → and_then (on_before seen on o) (λ rest. Ok (done ++ rest)) ≡ and_then o (λ rest. Ok (after ++ rest))
on_more seen None o done after e =
    let same : done ++ [] ≡ after = cc in
    ap (λ ys. and_then o (λ rest. Ok (ys ++ rest))) (sym (append-nil done) ∙ same)
on_more seen (Some x) o done after e = first_more (flag seen x) o done after e

first_fault : (f : Outcome TypedExpr) (o : Outcome (List TypedExpr)) (done : List TypedExpr) (code : SqlState)
    → and_then (and_then f (λ x. Ok (x ∷ []))) (λ more. Ok (done ++ more)) ≡ Err code
    → and_then (and_then f (λ x. and_then o (λ xs. Ok (x ∷ xs)))) (λ rest. Ok (done ++ rest)) ≡ Err code
first_fault (Ok x) o done code e = cc
first_fault (Err other) o done code e = e

on_fault : (seen : List Source) (on : Option Expr) (o : Outcome (List TypedExpr)) (done : List TypedExpr) (code : SqlState)
    → and_then (on_before seen on (Ok [])) (λ more. Ok (done ++ more)) ≡ Err code
    → and_then (on_before seen on o) (λ rest. Ok (done ++ rest)) ≡ Err code
on_fault seen None o done code e = cc
on_fault seen (Some x) o done code e = first_fault (flag seen x) o done code e

pub ons_more : (sources : List Source) (all : List TableRef) (i : ℕ) (r : TableRef) (done after : List TypedExpr) (o : Outcome (List TypedExpr))
    → i < length all → r ≡ get_or all i r
    → and_then (on_before (take (i + 1) sources) r.on (Ok [])) (λ more. Ok (done ++ more)) ≡ Ok after
    → ons_left done sources (i + 1) (drop i all) ≡ o → ons_left after sources (i + 1 + 1) (drop (i + 1) all) ≡ o
ons_more sources all i r done after o within is e was =
    sym (on_more (take (i + 1) sources) r.on (ons_from sources (i + 1 + 1) (drop (i + 1) all)) done after e)
    ∙ ap (ons_left done sources (i + 1)) (sym (cut_at all i r within is)) ∙ was

pub ons_fault : (sources : List Source) (all : List TableRef) (i : ℕ) (r : TableRef) (done : List TypedExpr) (code : SqlState)
    (o : Outcome (List TypedExpr)) → i < length all → r ≡ get_or all i r
    → and_then (on_before (take (i + 1) sources) r.on (Ok [])) (λ more. Ok (done ++ more)) ≡ Err code
    → ons_left done sources (i + 1) (drop i all) ≡ o → o ≡ Err code
ons_fault sources all i r done code o within is e was =
    sym was ∙ ap (ons_left done sources (i + 1)) (cut_at all i r within is)
    ∙ on_fault (take (i + 1) sources) r.on (ons_from sources (i + 1 + 1) (drop (i + 1) all)) done code e

-- the first entries are as narrow
pub take_narrow : (entries : List Entry) (n : ℕ) → IsNarrow entries → IsNarrow (take n entries)
take_narrow entries n h = record {
  few = let e = length-take n entries in let few = h.few in omega arith;
  narrow = λ i d within.
      let e = length-take n entries in
      let below : i < n = omega arith in
      let here : i < length entries = omega arith in
      rw (get_or-take n entries i d below) (h.narrow i d here);
}

pub ons_failed : (sources : List Source) (all : List TableRef) (i : ℕ) (r : TableRef) (done : List TypedExpr) (why : SqlFault)
    (o : Outcome (List TypedExpr)) → i < length all → r ≡ get_or all i r
    → Gives {A = List TypedExpr} (and_then (on_before (take (i + 1) sources) r.on (Ok [])) (λ more. Ok (done ++ more))) (Err why)
    → ons_left done sources (i + 1) (drop i all) ≡ o → Gives {A = List TypedExpr} o (Err why)
ons_failed sources all i r done (State code) o within is e was = ons_fault sources all i r done code o within is e was
ons_failed sources all i r done Memory o within is e was = tt
