-- A book of a shared history may go to another thread, where its waiting may be shared: each type that the state under the lock is made
-- of may. An expression of a table holds expressions, and Rattle says nothing by itself of such a type, nor of a type that holds one. So
-- these are shown here: first the expressions, by one layer of each, then what holds them, from below.
use denote.RattleType.{RattleType}
use denote.Ref.{NamedLft}
use denote.Hole.FixSend.{Sends, fix_send}
use denote.Param.Send.{IsSend, IsSync, sendable}
use denote.Param.SendFields.{declared_send, variants_send}
use Rattle.std.proofs.Crossing.{send as heap_send, Vec-send}
use Rattle.cell_base.proofs.boxed.Boxed.TheSendSync as boxed
use Rattle.cell_base.proofs.items.Items.TheSendSync as items
use Rattle.cell_base.proofs.level.Level.TheSendSync as level
use Rattle.cell_base.proofs.sql_type.SqlType.TheSendSync as sql_type
use Rattle.cell_base.proofs.text.Text.TheSendSync as text
use Rattle.cell_base.proofs.value.Value.TheSendSync as value
use Rattle.sql_tree.proofs.op.Aggregate.TheSendSync as aggregate
use Rattle.sql_tree.proofs.op.Op.TheSendSync as op
use Rattle.sql_tree.proofs.table.Column.TheSendSync as column
use Rattle.sql_tree.specs.contracts.table.Table as Table
use Rattle.sql_tree.specs.contracts.typed_expr.TypedExpr as TypedExpr
use Rattle.sql_tree.specs.contracts.typed_expr.TypedNode as TypedNode
use Rattle.sql_tree.specs.contracts.typed_expr.TypedNode.TheKnot as knot
use Rattle.sql_tree.specs.declared.typed_expr.TypedNode.TheBlock.{the_members, member-TypedNode, member-TypedExpr}
use Rattle.history_core.proofs.event.Event.TheSendSync as event
use Rattle.history_core.proofs.initial.InitialState.TheSendSync as initial
use Rattle.history_core.proofs.kept.SessionRecord.TheSendSync as session
use Rattle.history_core.proofs.txn.Txn.TheSendSync as txn
use Rattle.history_core.specs.contracts.history.History as History
use Rattle.history_core.specs.contracts.kept.Kept as HistoryKept
use Rattle.indexed_history.proofs.index.Index.TheSendSync as index
use Rattle.indexed_history.proofs.keys.KeyIndex.TheSendSync as keys
use Rattle.indexed_history.specs.contracts.indexed.IndexedHistory as IndexedHistory
use Rattle.indexed_history.specs.contracts.parts.Parts as Parts
use Rattle.forced_rows.proofs.rows.ForcedRows.TheSendSync as rows
use Rattle.valid_writes.specs.contracts.kept.Kept as StoreKept
use Rattle.valid_writes.specs.contracts.store.Store as Store
use Rattle.turn_lock.proofs.lock.Pass.TheSendSync as pass
use Rattle.turn_lock.proofs.lock.TurnLock.TheSendSync as lock
use Rattle.turn_lock.specs.contracts.lock.Pass as Pass
use Rattle.turn_lock.specs.contracts.lock.TurnLock as TurnLock
use Rattle.shared_book.proofs.place.Place.TheSendSync as place
use Rattle.shared_book.specs.contracts.book.SharedBook as SharedBook
use Rattle.shared_book.specs.contracts.entry.Entry as Entry
use Rattle.shared_book.specs.contracts.kept.Kept as Kept
use Rattle.shared_book.specs.contracts.kept.KeptLogged.TheImpl.{ghosts}

-- ---- expressions: one layer of each, over any rows for the expressions within
expr_layer : (node : RattleType) → IsSend node → IsSend (knot.layer-TypedExpr node)
expr_layer node within = search (sendable, declared_send, sql_type.the_send) depth 20

node_layer : (expr : RattleType) → IsSend expr → IsSend (knot.layer-TypedNode expr expr expr expr expr expr expr expr)
node_layer expr within = variants_send (knot.type-TypedNode expr expr expr expr expr expr expr expr) (search (sendable, boxed.the_send, items.the_send, value.the_send, op.the_send, aggregate.the_send) depth 20)

layers : (member : the_members) → Sends knot.ring member
layers member-TypedNode = record { send = λ hole within. node_layer (hole member-TypedExpr) (within member-TypedExpr) }
layers member-TypedExpr = record { send = λ hole within. expr_layer (hole member-TypedNode) (within member-TypedNode) }

expr_hole : IsSend TypedExpr.the_hole
expr_hole = fix_send knot.ring layers member-TypedExpr

pub typed_node_send : IsSend TypedNode.the_row
typed_node_send = variants_send TypedNode.enum (search (sendable, boxed.the_send, items.the_send, value.the_send, op.the_send, aggregate.the_send, expr_hole) depth 20)

pub typed_expr_send : IsSend TypedExpr.the_row
typed_expr_send = declared_send TypedExpr.the_type (sql_type.the_send, (typed_node_send, tt))

pub table_send : IsSend Table.the_row
table_send = search (sendable, declared_send, text.the_send, items.the_send, column.the_send, typed_expr_send) depth 20

-- ---- a history and a store
history_kept_send : IsSend HistoryKept.the_row
history_kept_send = search (sendable, declared_send, heap_send, Vec-send, level.the_send, event.the_send, initial.the_send, txn.the_send, session.the_send, table_send) depth 20

pub history_send : IsSend History.the_row
history_send = search (sendable, declared_send, history_kept_send) depth 20

parts_send : IsSend Parts.the_row
parts_send = search (sendable, declared_send, heap_send, history_send, index.the_send, keys.the_send) depth 20

pub indexed_send : IsSend IndexedHistory.the_row
indexed_send = search (sendable, declared_send, parts_send) depth 20

store_kept_send : IsSend StoreKept.the_row
store_kept_send = search (sendable, declared_send, heap_send, indexed_send, rows.the_send) depth 20

pub store_send : IsSend Store.the_row
store_send = search (sendable, declared_send, store_kept_send) depth 20

-- ---- what is under the lock, the lock that threads share, a pass and a book
pub kept_send : IsSend Kept.the_row
kept_send = search (sendable, declared_send, store_send) depth 20

pub lock_sync : IsSync (TurnLock.the_row Kept.the_row Entry.the_row ghosts)
lock_sync = lock.the_sync Kept.the_row Entry.the_row ghosts kept_send

pub pass_send : IsSend (Pass.the_row Kept.the_row Entry.the_row ghosts)
pass_send = pass.the_send Kept.the_row Entry.the_row ghosts kept_send

pub book_send : (lifetime : NamedLft) (waits : RattleType) → IsSync waits → IsSend (SharedBook.the_row lifetime waits)
book_send lifetime waits shared = search (sendable, declared_send, lock_sync, pass_send, place.the_send) depth 20
