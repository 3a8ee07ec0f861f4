use Rattle.history_check.proofs.shape.is_in_shape.Goals as goal

pub returns-in-Open : goal.returns-in-Open
returns-in-Open c = rw c.in-Open.is c.is_next_session.ensures

pub returns-in-Close : goal.returns-in-Close
returns-in-Close c = rw c.in-Close.is c.is_idle.ensures

pub returns-in-Define : goal.returns-in-Define
returns-in-Define c = rw c.in-Define.is c.may_define.ensures

pub returns-in-Look : goal.returns-in-Look
returns-in-Look c = rw c.in-Look.is c.is_open.ensures

pub returns-in-Begin : goal.returns-in-Begin
returns-in-Begin c = rw c.in-Begin.is c.is_idle-in-Begin.ensures

pub returns-in-Scan : goal.returns-in-Scan
returns-in-Scan c = rw c.in-Scan.is c.may_touch.ensures

pub returns-in-Read : goal.returns-in-Read
returns-in-Read c = rw c.in-Read.is c.may_read.ensures

pub returns-in-Own : goal.returns-in-Own
returns-in-Own c = rw c.in-Own.is (rw c.table_in.ensures at c.may_touch-in-Own.ensures)

pub returns-in-Write : goal.returns-in-Write
returns-in-Write c = rw c.in-Write.is c.may_write.ensures

pub returns-in-Commit : goal.returns-in-Commit
returns-in-Commit c = rw c.in-Commit.is c.has_pending.ensures

pub returns-in-Rollback : goal.returns-in-Rollback
returns-in-Rollback c = rw c.in-Rollback.is c.has_pending-in-Rollback.ensures

pub returns-in-Show : goal.returns-in-Show
returns-in-Show c = rw c.in-Show.is c.is_open-in-Show.ensures
