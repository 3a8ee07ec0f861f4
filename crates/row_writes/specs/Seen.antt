-- How clauses see rows that are kept, and the changes of rows.
use Rattle.std.specs.Prelude.{◌≡◌, ⊤, List, map, Result, Ok, Err}
use Rattle.std.specs.Borrow.{Bor}
use Rattle.cell_base.specs.declared.sql_fault.SqlFault.{SqlFault}
use Rattle.cell_base.specs.declared.sql_fault.SqlFault.TheVariants.{State, Memory}
use Rattle.typing_rules.specs.Outcome.{Outcome}
use Rattle.row_meaning.specs.Changes.{Change}
use Rattle.row_meaning.specs.Pictures.{TableRow}
use Rattle.row_writes.specs.declared.changes.RowChange.{RowChange}

-- the rows that were lent
abbrev pub rows_seen : List (Bor TableRow) → List TableRow
rows_seen rows = map (λ (r : Bor TableRow). r.now) rows

-- exactly these rows or the code, unless memory runs out
abbrev pub GivesRows : Result (List (Bor TableRow)) SqlFault → Outcome (List TableRow) → Type 0
GivesRows (Ok rows) outcome = outcome ≡ Ok (rows_seen rows)
GivesRows (Err (State code)) outcome = outcome ≡ Err code
GivesRows (Err Memory) outcome = ⊤

abbrev pub change_seen : RowChange → Change
change_seen change = record { key = change.key; fields = change.fields }

abbrev pub changes_seen : List RowChange → List Change
changes_seen = map change_seen

-- the same of a change
abbrev pub GivesChange : Result RowChange SqlFault → Outcome Change → Type 0
GivesChange (Ok change) outcome = outcome ≡ Ok (change_seen change)
GivesChange (Err (State code)) outcome = outcome ≡ Err code
GivesChange (Err Memory) outcome = ⊤

-- the same of several
abbrev pub GivesChanges : Result (List RowChange) SqlFault → Outcome (List Change) → Type 0
GivesChanges (Ok changes) outcome = outcome ≡ Ok (changes_seen changes)
GivesChanges (Err (State code)) outcome = outcome ≡ Err code
GivesChanges (Err Memory) outcome = ⊤
