-- The rows don't stand before this place.
use Rattle.std.proofs.Common.{◌≡◌, drop}
use Rattle.row_meaning.specs.Pictures.{shown_of}
use Rattle.cell_compile.proofs.ending.shown.Given as goal

abbrev pub invariant-loop-rows : goal.invariant-loop-rows
invariant-loop-rows l = shown_of l.number l.picture ≡ shown_of l.number (drop l.rows-index l.picture)
