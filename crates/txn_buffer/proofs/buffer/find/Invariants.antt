use Rattle.txn_buffer.proofs.IndexLemmas.{IsSought}
use Rattle.txn_buffer.proofs.buffer.find.Given as goal

abbrev pub invariant-loop-place : goal.invariant-loop-place
invariant-loop-place l = IsSought l.entries l.cell l.place

abbrev pub decreases-loop-place : goal.decreases-loop-place
decreases-loop-place l = l.place
