use Rattle.std.proofs.Common.{[], arith}
use Rattle.graph_base.proofs.Places.{count_by-push}
use Rattle.history_core.specs.Events.{is_begin}
use Rattle.history_check.proofs.Rights.{next_session, sessions_push}
use Rattle.history_check.proofs.Settled.{settled_push}
use Rattle.history_check.proofs.NameLemmas.{defined-push, defined_few}
use Rattle.history_check.proofs.noting.note.Goals as goal

pub note_cells-requires-clause-owner : goal.note_cells-requires-clause-owner
note_cells-requires-clause-owner c = rw c.session_of.ensures at c.pending_in-owner.ensures

pub note_commit-requires-clause-owner : goal.note_commit-requires-clause-owner
note_commit-requires-clause-owner c = rw c.session_of.ensures at c.pending_in-owner.ensures

pub overflow_add-notes-2 : goal.overflow_add-notes-2
overflow_add-notes-2 c =
    let t = c.requires.notes.tables in
    let few = defined_few c.args.before.now in
    let n = c.requires.few in
    let small = c.definitions.ensures.small in
    omega arith

pub returns-clause-notes : goal.returns-clause-notes
returns-clause-notes c =
    let more = defined-push c.args.before.now c.args.event.now in
    let all = count_by-push is_begin c.args.before.now c.args.event.now in
    let one = count_by-push is_begin [] c.args.event.now in
    let t = c.requires.notes.tables in
    let n = c.requires.notes.begun_are in
    let d = c.definitions.ensures.value in
    let b = c.begins.ensures.value in
    record {
      settled = settled_push c.args.before.now c.args.event.now c.requires.notes.settled c.requires.shape c.requires.source;
      sessions = sessions_push c.args.before.now c.args.event.now (next_session c.args.before.now c.args.event.now c.requires.notes.sessions c.requires.shape) c.requires.notes.sessions;
      session_notes = c.in_ok-note_session.ensures;
      pending = c.in_ok-note_pending.ensures;
      begun_are = omega arith;
      commits = c.in_ok-note_commit.ensures;
      keys = c.in_ok-note_written.ensures;
      tables = omega arith;
    }
