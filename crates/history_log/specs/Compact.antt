-- What cells, values and events of few digits stand for.
use Rattle.std.specs.Prelude.{pos}
use Rattle.cell_base.specs.declared.cell.Cell.{Cell}
use Rattle.cell_base.specs.declared.cell.Cell.TheVariants as cells
use Rattle.cell_base.specs.declared.key.Key.TheVariants as keys
use Rattle.cell_base.specs.declared.value.Value.{Value}
use Rattle.cell_base.specs.declared.value.Value.TheVariants as values
use Rattle.history_core.specs.declared.event.Event.{Event}
use Rattle.history_core.specs.declared.event.Event.TheVariants.{Read, Own, Write}
use Rattle.history_log.specs.declared.compact.CompactAccess.{CompactAccess}
use Rattle.history_log.specs.declared.compact.CompactCell.{CompactCell}
use Rattle.history_log.specs.declared.compact.CompactCell.TheVariants as compact_cells
use Rattle.history_log.specs.declared.compact.CompactRead.{CompactRead}
use Rattle.history_log.specs.declared.compact.CompactValue.{CompactValue}
use Rattle.history_log.specs.declared.compact.CompactValue.TheVariants as compact_values

abbrev pub compact_cell : CompactCell → Cell
compact_cell (compact_cells.Presence table key) = cells.Presence table (keys.Int (pos key))
compact_cell (compact_cells.Field table key column) = cells.Field table (keys.Int (pos key)) column

abbrev pub compact_value : CompactValue → Value
compact_value compact_values.Unset = values.Unset
compact_value compact_values.Null = values.Null
compact_value (compact_values.Flag flag) = values.Flag flag
compact_value (compact_values.Int number) = values.Int (pos number)

abbrev pub compact_read : CompactRead → Event
compact_read r = Read r.session (compact_cell r.cell) r.source r.count r.word (compact_value r.value)

abbrev pub compact_write : CompactAccess → Event
compact_write a = Write a.session (compact_cell a.cell) (compact_value a.value)

abbrev pub compact_own : CompactAccess → Event
compact_own a = Own a.session (compact_cell a.cell) (compact_value a.value)
