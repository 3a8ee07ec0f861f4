-- The columns of a result, item by item.
use Rattle.std.proofs.Common.{◌≡◌, ℕ, ◌+◌, ◌<◌, false, true, List, [], ◌∷◌, ◌++◌, length, drop, get_or, Ok, Err, refl, ap, sym, ◌∙◌, append_assoc}
use Rattle.std.specs.Prelude.{nat_lt}
use Rattle.std.proofs.lemmas.List.{map-append, length-map}
use Rattle.cell_base.specs.declared.sql_fault.SqlFault.{SqlFault}
use Rattle.cell_base.specs.declared.sql_fault.SqlFault.TheVariants.{State, Memory}
use Rattle.cell_base.specs.declared.sql_state.SqlState.{SqlState}
use Rattle.cell_base.specs.declared.sql_state.SqlState.TheVariants.{S54000}
use Rattle.sql_tree.specs.declared.statement.Item.{Item}
use Rattle.select_typing.specs.declared.output.Output.{Output}
use Rattle.select_typing.specs.Outputs.{output, outputs}
use Rattle.typing_rules.specs.declared.place.Place.{Place}
use Rattle.typing_rules.specs.Names.{Source}
use Rattle.typing_rules.specs.Gives.{GivesBy}
use Rattle.typing_rules.specs.Outcome.{Outcome, and_then}
use Rattle.typing_rules.specs.Select.{Output as Column, width, outputs_of, items_from}
use Rattle.typing_rules.proofs.Lists.{cut_at}

-- one column more
pub outputs_more : (before : List Output) (o : Output) (rest : List Column) → outputs (before ++ o ∷ []) ++ rest ≡ outputs before ++ output o ∷ rest
outputs_more before o rest = ap (λ cs. cs ++ rest) (map-append output before (o ∷ [])) ∙ append_assoc (outputs before) (output o ∷ []) rest

step : (place : Place) (sources : List Source) (before : List Column) (is : List Item) (o : Outcome (List Column)) (after : List Column)
    → and_then o (λ more. Ok (before ++ more)) ≡ Ok after
    → and_then o (λ os. items_from place sources (before ++ os) is) ≡ items_from place sources after is
step place sources before is (Ok os) after e = let same : before ++ os ≡ after = cc in ap (λ cs. items_from place sources cs is) same
step place sources before is (Err code) after e = cc

fault : (place : Place) (sources : List Source) (before : List Column) (is : List Item) (o : Outcome (List Column)) (code : SqlState)
    → and_then o (λ more. Ok (before ++ more)) ≡ Err code → and_then o (λ os. items_from place sources (before ++ os) is) ≡ Err code
fault place sources before is (Ok os) code e = cc
fault place sources before is (Err other) code e = cc

pub items_more : (place : Place) (sources : List Source) (all : List Item) (i : ℕ) (x : Item) (before after : List Output)
    (o : Outcome (List Column)) → i < length all → x ≡ get_or all i x
    → nat_lt 1664 (length before + width sources x) ≡ false
    → and_then (outputs_of place sources x) (λ more. Ok (outputs before ++ more)) ≡ Ok (outputs after)
    → items_from place sources (outputs before) (drop i all) ≡ o → items_from place sources (outputs after) (drop (i + 1) all) ≡ o
items_more place sources all i x before after o within is narrow e was =
    let narrow' : nat_lt 1664 (length (outputs before) + width sources x) ≡ false = rw (length-map before output) narrow in
    let one : items_from place sources (outputs before) (x ∷ drop (i + 1) all) ≡ items_from place sources (outputs after) (drop (i + 1) all) =
    rw narrow' (step place sources (outputs before) (drop (i + 1) all) (outputs_of place sources x) (outputs after) e) in
    sym one ∙ ap (items_from place sources (outputs before)) (sym (cut_at all i x within is)) ∙ was

pub items_fault : (place : Place) (sources : List Source) (all : List Item) (i : ℕ) (x : Item) (before : List Output) (code : SqlState)
    (o : Outcome (List Column)) → i < length all → x ≡ get_or all i x
    → nat_lt 1664 (length before + width sources x) ≡ false → and_then (outputs_of place sources x) (λ more. Ok (outputs before ++ more)) ≡ Err code
    → items_from place sources (outputs before) (drop i all) ≡ o → o ≡ Err code
items_fault place sources all i x before code o within is narrow e was =
    let narrow' : nat_lt 1664 (length (outputs before) + width sources x) ≡ false = rw (length-map before output) narrow in
    let one : items_from place sources (outputs before) (x ∷ drop (i + 1) all) ≡ Err code =
    rw narrow' (fault place sources (outputs before) (drop (i + 1) all) (outputs_of place sources x) code e) in
    sym was ∙ ap (items_from place sources (outputs before)) (cut_at all i x within is) ∙ one

pub items_wide : (place : Place) (sources : List Source) (all : List Item) (i : ℕ) (x : Item) (before : List Output) (o : Outcome (List Column))
    → i < length all → x ≡ get_or all i x
    → nat_lt 1664 (length before + width sources x) ≡ true → items_from place sources (outputs before) (drop i all) ≡ o → o ≡ Err S54000
items_wide place sources all i x before o within is wide was =
    let wide' : nat_lt 1664 (length (outputs before) + width sources x) ≡ true = rw (length-map before output) wide in
    let one : items_from place sources (outputs before) (x ∷ drop (i + 1) all) ≡ Err S54000 = rw wide' refl in
    sym was ∙ ap (items_from place sources (outputs before)) (cut_at all i x within is) ∙ one

pub items_failed : (place : Place) (sources : List Source) (all : List Item) (i : ℕ) (x : Item) (before : List Output) (why : SqlFault)
    (o : Outcome (List Column)) → i < length all → x ≡ get_or all i x
    → nat_lt 1664 (length before + width sources x) ≡ false
    → GivesBy outputs (and_then (outputs_of place sources x) (λ more. Ok (outputs before ++ more))) (Err why)
    → items_from place sources (outputs before) (drop i all) ≡ o → GivesBy outputs o (Err why)
items_failed place sources all i x before (State code) o within is narrow e was = items_fault place sources all i x before code o within is narrow e was
items_failed place sources all i x before Memory o within is narrow e was = tt
