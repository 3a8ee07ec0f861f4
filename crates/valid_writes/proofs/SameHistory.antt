-- Two histories of the same parts are one.
use Rattle.std.proofs.Common.{◌≡◌, List, ap, ◌∙◌}
use Rattle.cell_base.specs.declared.cell.Cell.{Cell}
use Rattle.cell_base.specs.declared.level.Level.{Level}
use Rattle.cell_base.specs.declared.value.Value.{Value}
use Rattle.sql_tree.specs.declared.table.Table.{Table}
use Rattle.history_core.specs.declared.event.Event.{Event}
use Rattle.history_core.specs.Chronicle.{Chronicle}

pub same_chronicle : (a b : Chronicle) → a.level ≡ b.level → a.initial ≡ b.initial → a.events ≡ b.events → a.tables ≡ b.tables → a ≡ b
same_chronicle a b level initial events tables =
    ap (λ (l : Level). record { level = l; initial = a.initial; events = a.events; tables = a.tables }) level
    ∙ ap (λ (i : List (Cell × Value)). record { level = b.level; initial = i; events = a.events; tables = a.tables }) initial
    ∙ ap (λ (es : List Event). record { level = b.level; initial = b.initial; events = es; tables = a.tables }) events
    ∙ ap (λ (ts : List Table). record { level = b.level; initial = b.initial; events = b.events; tables = ts }) tables
