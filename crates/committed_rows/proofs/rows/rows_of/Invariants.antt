use Rattle.std.specs.BTreeMap.{btree_map_len}
use Rattle.committed_rows.proofs.Gathered.{IsGathering}
use Rattle.committed_rows.proofs.rows.rows_of.Given as goal

abbrev pub invariant-loop-cell : goal.invariant-loop-cell
invariant-loop-cell l = IsGathering l.fn.newest.values.entries l.cells.items l.newest.values.entries

abbrev pub decreases-loop-cell : goal.decreases-loop-cell
decreases-loop-cell l = btree_map_len l.newest.values
