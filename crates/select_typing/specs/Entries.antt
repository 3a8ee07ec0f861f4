-- The entries of FROM, as the definitions name them.
use Rattle.std.specs.Prelude.{List, map, Result, Ok, Err, if◌then◌else◌}
use Rattle.std.specs.List.{list_any}
use Rattle.std.specs.Str.{bytes_eq}
use Rattle.cell_base.specs.declared.sql_state.SqlState.{SqlState}
use Rattle.cell_base.specs.declared.sql_state.SqlState.TheVariants.{S42712}
use Rattle.sql_tree.specs.declared.statement.TableRef.{TableRef}
use Rattle.sql_tree.specs.declared.table.Table.{Table}
use Rattle.typing_rules.specs.Outcome.{Outcome, and_then}
use Rattle.typing_rules.specs.Tables.{table_named}
use Rattle.typing_rules.specs.Select.{Entry, name_or}
use Rattle.expr_typing.specs.declared.entry.Entry.{Entry as Seen}
use Rattle.typing_parts.specs.Numbered.{numbered}
use Rattle.select_typing.specs.declared.from.FromEntry.{FromEntry}

abbrev pub entry : FromEntry → Entry
entry e = record { name = e.name.now; found = numbered e.found }

abbrev pub entries : List FromEntry → List Entry
entries = map entry

abbrev pub entry_or : Result FromEntry SqlState → Outcome Entry
entry_or (Ok e) = Ok (entry e)
entry_or (Err code) = Err code

-- as names are looked up in it
abbrev pub seen : FromEntry → Seen
seen e = record { name = e.name; table = e.found.table }

-- an entry after those that stand before
abbrev pub entry_of : List Table → List Entry → TableRef → Outcome Entry
entry_of tables before r =
    and_then (table_named tables r.name) (λ t.
    if list_any (λ e. bytes_eq e.name (name_or r.name r.alias)) before then Err S42712
    else Ok (record { name = name_or r.name r.alias; found = t }))
