use Rattle.std.proofs.Common.{◌-◌, arith}
use Rattle.history_check.proofs.CommitLemmas.{commit_read}
use Rattle.history_check.proofs.commits.is_committed.Goals as goal

pub index-requires : goal.index-requires
index-requires c =
    let low = c.requires.some in
    let high = c.requires.begun in
    let count = c.requires.notes.commits.count in
    let long = c.args.notes.now.committed.ok.0 in
    omega arith

pub returns : goal.returns
returns c =
    let low = c.requires.some in
    let high = c.requires.begun in
    let count = c.requires.notes.commits.count in
    commit_read c.args.before.now c.args.notes.now.committed.items c.requires.notes.commits (c.args.number - 1) c.args.number c.index.result.now (omega arith) (omega arith)
    c.index.ensures
