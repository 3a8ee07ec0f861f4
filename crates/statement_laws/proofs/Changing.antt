-- What an UPDATE or a DELETE demands, and what an INSERT does.
use Rattle.std.proofs.Common.{◌≡◌, ℕ, ◌==◌, List, [], ◌∷◌, ◌++◌, Option, refl, ap, ◌∙◌}
use Rattle.std.proofs.lemmas.Bool.{cond_both, eqb-false}
use Rattle.sql_tree.specs.declared.table.Table.{Table}
use Rattle.row_meaning.specs.Changes.{changes_of}
use Rattle.row_meaning.specs.Insertion.{rows_to_insert}
use Rattle.row_meaning.specs.Pictures.{TableRow, shown_of}
use Rattle.statement_course.specs.Statements.{part_of_change, course_of_changes, course_of_change, course_of_insert, course_of}
use Rattle.statement_laws.specs.Demands.{demands_of}
use Rattle.statement_laws.specs.Shown.{shown_rows}
use Rattle.statement_laws.specs.Asked.{asks_part}
use Rattle.statement_laws.specs.PictureLaws.{ChangeAnswersPicture, InsertAnswersRows}
use Rattle.statement_laws.proofs.Reading.{part_read}
use Rattle.statement_laws.proofs.Writing.{changes_written, rows_written}

shown_alone : (number : ℕ) (rows : List TableRow) → shown_of number (record { table = number; rows = rows } ∷ []) ≡ rows
shown_alone number rows = cond_both (number == number) rows [] (λ shown. shown ≡ rows) (λ _. refl) (λ no. absurd (eqb-false number number no refl))

pub change_answers : ChangeAnswersPicture
unfolding course_of
change_answers listed value tables change table is =
    let part = part_of_change table change in
    let rows = shown_rows listed value part in
    ap (λ (found : Option Table). demands_of listed value (course_of_change change found)) is
    ∙ (part_read listed value part (λ rows. course_of_changes change (changes_of table change (shown_of change.table (record { table = change.table; rows = rows } ∷ []))))
    ∙ ap (λ ds. asks_part listed value part ++ ds)
    (ap (λ shown. demands_of listed value (course_of_changes change (changes_of table change shown))) (shown_alone change.table rows)
    ∙ changes_written listed value change (changes_of table change rows)))

pub insert_answers : InsertAnswersRows
unfolding course_of
insert_answers listed value tables insert table is =
    ap (λ (found : Option Table). demands_of listed value (course_of_insert insert found)) is
    ∙ rows_written listed value insert.table table (rows_to_insert table insert.rows)
