use Rattle.std.proofs.Common.{subst}
use Rattle.cell_writers.specs.Pairs.{IsStrictlySorted}
use Rattle.cell_writers.proofs.PairPlaces.{sorted_set, sets_only_set, sorted_insert, sets_only_insert}
use Rattle.cell_writers.proofs.txn_places.TxnPlaces.set.Goals as goal

-- the key was there, and its pair is written over
pub invariant_of-self : goal.invariant_of-self
invariant_of-self c = sorted_set _ c.self.invariant _ _ (rw c.self.view_is c.in-Ok.ensures.found) _

pub returns-in-Ok-clause-ok : goal.returns-in-Ok-clause-ok
returns-in-Ok-clause-ok c = rw c.self.view_is (sets_only_set _ (subst IsStrictlySorted c.self.view_is c.self.invariant) _ _ c.in-Ok.ensures.found _)

-- the pair is added in the gap
pub invariant_of-self-in-Err : goal.invariant_of-self-in-Err
invariant_of-self-in-Err c = rw c.in_ok-insert-in-Err.ensures.items (sorted_insert _ _ _ (rw c.self.view_is c.in-Err.ensures.absent) _ c.self.invariant)

pub returns-in_ok-insert-in-Err-clause-ok : goal.returns-in_ok-insert-in-Err-clause-ok
returns-in_ok-insert-in-Err-clause-ok c = rw (c.in_ok-insert-in-Err.ensures.items, c.self.view_is) (sets_only_insert _ _ _ c.in-Err.ensures.absent _)
