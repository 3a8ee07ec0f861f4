-- What holds of all that follows the reading and writing of a statement holds of all that it comes to.
use Rattle.std.proofs.Common.{ℕ, Bool, List, [], ◌∷◌, ◌++◌, Option, Some, None}
use Rattle.std.proofs.lemmas.Bool.{cond_both}
use Rattle.cell_base.specs.declared.cell.Cell.{Cell}
use Rattle.cell_base.specs.declared.key.Key.{Key}
use Rattle.cell_base.specs.declared.value.Value.{Value}
use Rattle.row_meaning.specs.declared.picture.TableRows.{TableRows}
use Rattle.row_meaning.specs.Combinations.{is_true}
use Rattle.row_meaning.specs.Pictures.{TableRow}
use Rattle.statement_course.specs.declared.demand.Outcome.{Outcome}
use Rattle.statement_course.specs.Course.{Course}
use Rattle.statement_course.specs.Reading.{Part, read_columns, read_row, read_rows, read_keys, read_part, read_parts}
use Rattle.statement_course.specs.Writing.{write_all, read_presences}
use Rattle.outcome_replies.specs.Ends.{EndsIn}

pub ends_written : (P : Outcome → Type 0) (ws : List (Cell × Value)) (rest : Course) → EndsIn P rest → EndsIn P (write_all ws rest)
ends_written P [] rest h = h
ends_written P (w ∷ ws) rest h = ends_written P ws rest h

ends_columns : (P : Outcome → Type 0) (table : ℕ) (key : Key) (columns : List ℕ) (read : List (ℕ × Value)) (rest : List (ℕ × Value) → Course)
    → ((all : List (ℕ × Value)) → EndsIn P (rest all)) → EndsIn P (read_columns table key columns read rest)
ends_columns P table key [] read rest f = f read
ends_columns P table key (column ∷ columns) read rest f = λ v. ends_columns P table key columns (read ++ (column, v) ∷ []) rest f

ends_row : (P : Outcome → Type 0) (part : Part) (key : Key) (found : List TableRow) (rest : List TableRow → Course)
    → ((all : List TableRow) → EndsIn P (rest all)) → EndsIn P (read_row part key found rest)
ends_row P part key found rest f = λ present.
    cond_both (is_true present) _ (rest found) (EndsIn P) (λ _. ends_columns P part.table key part.columns [] _ (λ read. f _)) (λ _. f found)

ends_rows : (P : Outcome → Type 0) (part : Part) (keys : List Key) (found : List TableRow) (rest : List TableRow → Course)
    → ((all : List TableRow) → EndsIn P (rest all)) → EndsIn P (read_rows part keys found rest)
ends_rows P part [] found rest f = f found
ends_rows P part (key ∷ keys) found rest f = ends_row P part key found (λ x. read_rows part keys x rest) (λ more. ends_rows P part keys more rest f)

ends_keys : (P : Outcome → Type 0) (table : ℕ) (point : Option Key) (rest : List Key → Course)
    → ((keys : List Key) → EndsIn P (rest keys)) → EndsIn P (read_keys table point rest)
ends_keys P table None rest f = f
ends_keys P table (Some key) rest f = f (key ∷ [])

ends_part : (P : Outcome → Type 0) (part : Part) (rest : List TableRow → Course)
    → ((all : List TableRow) → EndsIn P (rest all)) → EndsIn P (read_part part rest)
ends_part P part rest f = ends_keys P part.table part.point _ (λ keys. ends_rows P part keys [] rest f)

pub ends_parts : (P : Outcome → Type 0) (parts : List Part) (picture : List TableRows) (rest : List TableRows → Course)
    → ((all : List TableRows) → EndsIn P (rest all)) → EndsIn P (read_parts parts picture rest)
ends_parts P [] picture rest f = f picture
ends_parts P (part ∷ parts) picture rest f = ends_part P part _ (λ rows. ends_parts P parts _ rest f)

pub ends_presences : (P : Outcome → Type 0) (table : ℕ) (keys : List Key) (found : Bool) (rest : Bool → Course)
    → ((found : Bool) → EndsIn P (rest found)) → EndsIn P (read_presences table keys found rest)
ends_presences P table [] found rest f = f found
ends_presences P table (key ∷ keys) found rest f = λ present. ends_presences P table keys _ rest f
