use Rattle.txn_buffer.proofs.BufferLemmas.{map_push, puts_push, order_push}
use Rattle.txn_buffer.proofs.buffer.append.Goals as goal

pub returns-clause-map : goal.returns-clause-map
returns-clause-map c = rw c.push_in_room.ensures.items (map_push _ _ _ c.requires.map c.requires.absent)

pub returns-clause-value : goal.returns-clause-value
returns-clause-value c = rw c.push_in_room.ensures.items (puts_push _ _ _ c.requires.absent)

pub returns-clause-order : goal.returns-clause-order
returns-clause-order c = rw c.push_in_room.ensures.items (order_push _ _ _)
