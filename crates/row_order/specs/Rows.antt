-- A row of a result, for the definition of the order.
use Rattle.row_meaning.specs.Ordering.{Sorted}
use Rattle.row_order.specs.declared.sorting.SortedRow.{SortedRow}

abbrev pub sorted_of : SortedRow → Sorted
sorted_of row = record { values = row.values; terms = row.terms }
