-- What a statement that writes demands and what it comes to, each by itself.
use Rattle.std.specs.Prelude.{ℕ, Bool, if◌then◌else◌, List, [], ◌++◌, map, flat_map, length, Ok, Err}
use Rattle.std.specs.List.{list_any}
use Rattle.cell_base.specs.declared.cell.Cell.{Cell}
use Rattle.cell_base.specs.declared.cell.Cell.TheVariants.{Presence}
use Rattle.cell_base.specs.declared.sql_state.SqlState.TheVariants.{S23505}
use Rattle.cell_base.specs.declared.value.Value.{Value}
use Rattle.sql_tree.specs.declared.table.Table.{Table}
use Rattle.sql_tree.specs.declared.typed.TypedChange.{TypedChange}
use Rattle.typing_rules.specs.Outcome.{Outcome as Result}
use Rattle.row_meaning.specs.Pictures.{TableRow}
use Rattle.row_meaning.specs.Changes as changes
use Rattle.statement_course.specs.declared.demand.Demand.{Demand}
use Rattle.statement_course.specs.declared.demand.Demand.TheVariants.{Touch}
use Rattle.statement_course.specs.declared.demand.Outcome.{Outcome}
use Rattle.statement_course.specs.declared.demand.Outcome.TheVariants as outcomes
use Rattle.statement_laws.specs.Shown.{is_there}
use Rattle.statement_laws.specs.Asked.{writes_change, writes_row}

-- ---- UPDATE and DELETE

-- the changes; none where there is a code
abbrev pub change_writes : TypedChange → Result (List changes.Change) → List Demand
change_writes change (Err code) = []
change_writes change (Ok made) = flat_map (writes_change change) made

-- the number of the changes, or the code
abbrev pub change_outcome : TypedChange → Result (List changes.Change) → Outcome
change_outcome change (Err code) = outcomes.Failed code
change_outcome change (Ok made) = if change.delete then outcomes.Deleted (length made) else outcomes.Updated (length made)

-- ---- INSERT

-- whether a row of any of these keys is there
abbrev pub has_any : (Cell → Value) → ℕ → List TableRow → Bool
has_any value table rows = list_any (λ (r : TableRow). is_there value table r.0) rows

-- the presence of each key, and the rows where none of them is there; nothing where there is a code
abbrev pub insert_asks : (Cell → Value) → ℕ → Table → Result (List TableRow) → List Demand
insert_asks value number table (Err code) = []
insert_asks value number table (Ok rows) =
    map (λ (r : TableRow). Touch (Presence number r.0)) rows
    ++ (if has_any value number rows then [] else flat_map (writes_row number table.key) rows)

-- the number of the rows, or the code
abbrev pub insert_outcome : (Cell → Value) → ℕ → Result (List TableRow) → Outcome
insert_outcome value number (Err code) = outcomes.Failed code
insert_outcome value number (Ok rows) =
    if has_any value number rows then outcomes.Failed S23505 else outcomes.Inserted (length rows)
