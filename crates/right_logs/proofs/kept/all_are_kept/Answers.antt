use Rattle.std.proofs.Common.{◌≡◌, ◌+◌, rules, arith}
use Rattle.right_logs.proofs.JudgeLemmas.{stands_ascend, stands_high, sessions_none, sessions_more}
use Rattle.right_logs.proofs.kept.all_are_kept.Goals as goal

pub loop-at-init : goal.loop-at-init
loop-at-init c = sessions_none c.args.places.now.at.items c.args.pass.now

pub session_is_kept-requires-clause-ascending : goal.session_is_kept-requires-clause-ascending
session_is_kept-requires-clause-ascending c = stands_ascend c.args.places.now.at.items c.args.pass.now c.requires

pub session_is_kept-requires-clause-highest : goal.session_is_kept-requires-clause-highest
session_is_kept-requires-clause-highest c = stands_high c.args.places.now.at.items c.args.pass.now c.requires

pub session_is_kept-requires-clause-some : goal.session_is_kept-requires-clause-some
session_is_kept-requires-clause-some c = let number : c.in-Ok.session ≡ c.loop-at.at + 1 = search rules in omega arith

pub session_is_kept-requires-clause-opened : goal.session_is_kept-requires-clause-opened
session_is_kept-requires-clause-opened c =
    let number : c.in-Ok.session ≡ c.loop-at.at + 1 = search rules in
    let below = c.loop-at-test.true in
    let len = c.len-at-end.ensures in
    omega arith

pub loop-at-preserved : goal.loop-at-preserved
loop-at-preserved c =
    let number : c.in-Ok.session ≡ c.loop-at.at + 1 = search rules in
    sessions_more c.args.places.now.at.items c.args.pass.now c.loop-at.at c.in-Ok.session number (c.session_is_kept.ensures c.if-not-session_is_kept.false) c.loop-at.invariant

pub returns : goal.returns
returns c = λ h at below.
    let end = c.loop-at-test.false in
    let len = c.len-at-end.ensures in
    c.loop-at.invariant at (omega arith)
