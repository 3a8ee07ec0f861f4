use Rattle.std.proofs.Common.{arith}
use Rattle.history_core.specs.Events.{session_in}
use Rattle.history_core.proofs.Next.{pending_bounded}
use Rattle.history_core.proofs.Numbers.{pending_positive}
use Rattle.order_test.proofs.PastSteps.{sound_from}
use Rattle.history_check.proofs.CommitLemmas.{commits_begin, commits_commit, commits_other}
use Rattle.history_check.proofs.commits.note_commit.Goals as goal

pub set_committed-requires-clause-some : goal.set_committed-requires-clause-some
set_committed-requires-clause-some c = pending_positive c.args.before.now c.owner_of.result (session_in c.args.event.now) c.owner_of.ensures

pub set_committed-requires-clause-begun : goal.set_committed-requires-clause-begun
set_committed-requires-clause-begun c =
    let bound = pending_bounded c.args.before.now c.owner_of.result (session_in c.args.event.now) c.owner_of.ensures in
    let count = c.requires.flags.count in
    omega arith

pub returns-in_ok-push-in-Begin : goal.returns-in_ok-push-in-Begin
returns-in_ok-push-in-Begin c =
    rw (c.in-Begin.is, c.in_ok-push-in-Begin.ensures.items)
    (commits_begin c.args.before.now c.in-Begin.session c.in-Begin.level c.args.flags.now.items c.requires.flags)

pub returns-in-Commit : goal.returns-in-Commit
returns-in-Commit c =
    rw c.in-Commit.is (commits_commit c.args.before.now (sound_from c.args.before.now c.requires.settled) c.in-Commit.session c.owner_of.result c.args.flags.now.items
    c.set_committed.new.flags.items (rw c.in-Commit.is at c.owner_of.ensures) c.set_committed.ensures c.requires.flags)

pub returns-in_default : goal.returns-in_default
returns-in_default c = commits_other c.args.before.now c.args.event.now c.args.flags.now.items c.in_default.not-Begin c.in_default.not-Commit c.requires.flags
