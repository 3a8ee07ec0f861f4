-- The course of a statement over no tables is done at once.
use Rattle.std.proofs.Common.{◌≡◌, ℕ, List, [], ◌∷◌, refl, ◌∙◌, ap, arith, Option, Some, None}
use Rattle.std.specs.Prelude.{◌==◌, slice_get}
use Rattle.std.specs.List.{list_any}
use Rattle.std.proofs.lemmas.Bool.{cond_both}
use Rattle.std.proofs.lemmas.Option.{slice_get_within}
use Rattle.cell_base.specs.declared.key.Key.{Key}
use Rattle.cell_base.specs.declared.sql_state.SqlState.TheVariants as states
use Rattle.sql_tree.specs.declared.table.Table.{Table}
use Rattle.sql_tree.specs.declared.typed.Typed.{Typed}
use Rattle.sql_tree.specs.declared.typed.Typed.TheVariants.{Select, Insert, Change}
use Rattle.sql_tree.specs.declared.typed.TypedChange.{TypedChange}
use Rattle.sql_tree.specs.declared.typed.TypedInsert.{TypedInsert}
use Rattle.row_meaning.specs.Selection.{selected}
use Rattle.statement_course.specs.Course as course
use Rattle.statement_course.specs.declared.demand.Outcome.{Outcome}
use Rattle.statement_course.specs.declared.demand.Outcome.TheVariants as outcomes
use Rattle.statement_course.specs.Reading.{Part, part_before, parts_from, read_parts}
use Rattle.statement_course.specs.Statements.{rows_outcome, course_of_insert, course_of_change, course_of}

-- none stands where there are no tables
abbrev no_tables : List Table
no_tables = []

no_table : (n : ℕ) (table : Table) → slice_get no_tables n ≡ Some table → ⊥
no_table n table is = absurd (omega (arith, slice_get_within no_tables n table is))

part_none : (number : ℕ) (found : Option Table) (columns : List ℕ) (point : Option Key) (parts : List Part) → ((table : Table) → found ≡ Some table → ⊥) → part_before number found columns point parts ≡ parts
part_none number None columns point parts h = refl
part_none number (Some table) columns point parts h = absurd (h table refl)

parts_none : (before numbers : List ℕ) (columns : List (List ℕ)) (points : List (Option Key)) → parts_from [] before numbers columns points ≡ []
parts_none before (number ∷ numbers) (columns ∷ more) (point ∷ points) =
    cond_both (list_any (λ n. n == number) before) _ _ (λ (parts : List Part). parts ≡ [])
    (λ _. parts_none before numbers more points)
    (λ _. part_none number (slice_get no_tables number) columns point _ (no_table number) ∙ parts_none (number ∷ before) numbers more points)
parts_none before _ _ _ = refl

insert_none : (insert : TypedInsert) (found : Option Table) → ((table : Table) → found ≡ Some table → ⊥) → course_of_insert insert found ≡ course.done (outcomes.Failed states.S42P01)
insert_none insert None h = refl
insert_none insert (Some table) h = absurd (h table refl)

change_none : (change : TypedChange) (found : Option Table) → ((table : Table) → found ≡ Some table → ⊥) → course_of_change change found ≡ course.done (outcomes.Failed states.S42P01)
change_none change None h = refl
change_none change (Some table) h = absurd (h table refl)

pub alone_done : (t : Typed) → (outcome : Outcome) × (course_of [] t ≡ course.done outcome)
unfolding course_of
alone_done (Select s) = (
  rows_outcome s (selected s []),
  ap (λ (parts : List Part). read_parts parts [] (λ picture. course.done (rows_outcome s (selected s picture)))) (parts_none [] s.tables s.mentioned s.points),
)
alone_done (Insert s) = (outcomes.Failed states.S42P01, insert_none s (slice_get no_tables s.table) (no_table s.table))
alone_done (Change s) = (outcomes.Failed states.S42P01, change_none s (slice_get no_tables s.table) (no_table s.table))
