-- The keys so far.
use Rattle.std.proofs.Common.{◌≡◌, map, take}
use Rattle.row_meaning.specs.Pictures.{TableRow}
use Rattle.cell_compile.proofs.beginning.keys_of.Given as goal

abbrev pub invariant-loop-key : goal.invariant-loop-key
invariant-loop-key l = l.keys ≡ map (λ (r : TableRow). r.0) (take l.key-index l.rows)
