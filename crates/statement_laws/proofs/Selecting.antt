-- What a SELECT demands.
use Rattle.std.proofs.Common.{List, [], ◌∷◌, ◌++◌, ap, ◌∙◌}
use Rattle.std.specs.Prelude.{flat_map}
use Rattle.row_meaning.specs.Selection.{selected}
use Rattle.statement_course.specs.declared.demand.Demand.TheVariants.{Reply}
use Rattle.statement_course.specs.Course.{done}
use Rattle.statement_course.specs.Reading.{Part}
use Rattle.statement_course.specs.Statements.{parts_of_select, rows_outcome, course_of}
use Rattle.statement_laws.specs.Shown.{picture_of}
use Rattle.statement_laws.specs.Asked.{asks_part}
use Rattle.statement_laws.specs.PictureLaws.{SelectAnswersPicture}
use Rattle.statement_laws.proofs.Parts.{parts_first}
use Rattle.statement_laws.proofs.Reading.{parts_read}

pub select_answers : SelectAnswersPicture
unfolding course_of
select_answers listed value tables select =
    parts_read listed value (parts_of_select tables select) [] (λ picture. done (rows_outcome select (selected select picture)))
    ∙ ap (λ (parts : List Part). flat_map (asks_part listed value) parts ++ Reply (rows_outcome select (selected select (picture_of listed value parts))) ∷ [])
    (parts_first tables select.tables select.mentioned select.points)
