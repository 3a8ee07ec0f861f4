use Rattle.std.proofs.Common.{sym, ◌∙◌}
use Rattle.std.proofs.lemmas.Bool.{false≢true}
use Rattle.history_check.proofs.Verdicts.{shape_broken, open_right, close_right, define_right, begin_right, write_right, commit_right, rollback_right}
use Rattle.history_check.proofs.judge.verdict.Goals as goal

pub returns-then-not-is_in_shape : goal.returns-then-not-is_in_shape
returns-then-not-is_in_shape c =
    shape_broken c.args.initial.now c.args.before.now c.args.event.now (λ fits. false≢true (sym c.if-not-is_in_shape.true ∙ c.is_in_shape.ensures.1 fits))

pub of_look-requires-clause-shape : goal.of_look-requires-clause-shape
of_look-requires-clause-shape c = rw c.in-Look.is at (c.is_in_shape.ensures.0 c.if-not-is_in_shape.false)

pub of_show-requires-clause-shape : goal.of_show-requires-clause-shape
of_show-requires-clause-shape c = rw c.in-Show.is at (c.is_in_shape.ensures.0 c.if-not-is_in_shape.false)

pub of_scan-requires-clause-shape : goal.of_scan-requires-clause-shape
of_scan-requires-clause-shape c = rw c.in-Scan.is at (c.is_in_shape.ensures.0 c.if-not-is_in_shape.false)

pub of_read-requires-clause-shape : goal.of_read-requires-clause-shape
of_read-requires-clause-shape c = rw c.in-Read.is at (c.is_in_shape.ensures.0 c.if-not-is_in_shape.false)

pub of_own-requires-clause-shape : goal.of_own-requires-clause-shape
of_own-requires-clause-shape c = rw c.in-Own.is at (c.is_in_shape.ensures.0 c.if-not-is_in_shape.false)

pub returns-in-Look : goal.returns-in-Look
returns-in-Look c = rw c.in-Look.is (c.of_look.ensures c.args.initial.now)

pub returns-in-Show : goal.returns-in-Show
returns-in-Show c = rw c.in-Show.is (c.of_show.ensures c.args.initial.now)

pub returns-in-Own : goal.returns-in-Own
returns-in-Own c = rw c.in-Own.is (c.of_own.ensures c.args.initial.now)

pub returns-in-Scan : goal.returns-in-Scan
returns-in-Scan c = rw c.in-Scan.is (rw c.as_slice.ensures at c.of_scan.ensures)

pub returns-in-Read : goal.returns-in-Read
returns-in-Read c = rw c.in-Read.is c.of_read.ensures

pub returns-in-Open : goal.returns-in-Open
returns-in-Open c = rw c.in-Open.is (open_right c.args.initial.now c.args.before.now c.in-Open.session (rw c.in-Open.is at (c.is_in_shape.ensures.0 c.if-not-is_in_shape.false)))

pub returns-in-Close : goal.returns-in-Close
returns-in-Close c = rw c.in-Close.is (close_right c.args.initial.now c.args.before.now c.in-Close.session (rw c.in-Close.is at (c.is_in_shape.ensures.0 c.if-not-is_in_shape.false)))

pub returns-in-Define : goal.returns-in-Define
returns-in-Define c = rw c.in-Define.is (define_right c.args.initial.now c.args.before.now c.in-Define.session c.in-Define.name (rw c.in-Define.is at (c.is_in_shape.ensures.0 c.if-not-is_in_shape.false)))

pub returns-in-Begin : goal.returns-in-Begin
returns-in-Begin c = rw c.in-Begin.is (begin_right c.args.initial.now c.args.before.now c.in-Begin.session c.in-Begin.level (rw c.in-Begin.is at (c.is_in_shape.ensures.0 c.if-not-is_in_shape.false)))

pub returns-in-Write : goal.returns-in-Write
returns-in-Write c = rw c.in-Write.is (write_right c.args.initial.now c.args.before.now c.in-Write.session c.in-Write.cell c.in-Write.value (rw c.in-Write.is at (c.is_in_shape.ensures.0 c.if-not-is_in_shape.false)))

pub returns-in-Commit : goal.returns-in-Commit
returns-in-Commit c = rw c.in-Commit.is (commit_right c.args.initial.now c.args.before.now c.in-Commit.session (rw c.in-Commit.is at (c.is_in_shape.ensures.0 c.if-not-is_in_shape.false)))

pub returns-in-Rollback : goal.returns-in-Rollback
returns-in-Rollback c = rw c.in-Rollback.is (rollback_right c.args.initial.now c.args.before.now c.in-Rollback.session (rw c.in-Rollback.is at (c.is_in_shape.ensures.0 c.if-not-is_in_shape.false)))
