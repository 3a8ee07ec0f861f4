-- The slots that are left fill the columns that are left.
use Rattle.std.proofs.Common.{◌≡◌, ◌++◌, ◌+◌, drop, length}
use Rattle.std.specs.Vec.Iter.{into_iter_items}
use Rattle.change_typing.specs.Rows.{filled}
use Rattle.change_typing.proofs.row.filled.Given as goal

abbrev pub invariant-loop-slot : goal.invariant-loop-slot
invariant-loop-slot l =
    (l.row ++ filled (into_iter_items l.slot-iterator) (drop (length l.row) l.columns) ≡ filled l.fn.slots l.columns)
    × (length l.row + length (into_iter_items l.slot-iterator) ≡ length l.columns)
