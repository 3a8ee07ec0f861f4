use Rattle.std.proofs.Common.{◌≤◌, List, length, sym, ◌∙◌, subst}
use Rattle.std.proofs.lemmas.Bool.{eqb-true}
use Rattle.history_check.specs.declared.session_note.SessionNote.{SessionNote}
use Rattle.right_logs.specs.declared.open_reads.SessionReads.{SessionReads}
use Rattle.right_logs.specs.OpenReads.{AreReadsOf}
use Rattle.right_logs.specs.Seats.{IsPendingIn}
use Rattle.right_logs.proofs.JudgeLemmas.{session_blank, session_kept}
use Rattle.right_logs.proofs.kept.session_is_kept.Goals as goal

pub reads_of-reads-requires-clause-opened : goal.reads_of-reads-requires-clause-opened
reads_of-reads-requires-clause-opened c = subst (λ (ls : List SessionReads). c.args.session ≤ length ls) (sym c.deref.ensures.value) c.requires.opened

pub returns-then-is_empty : goal.returns-then-is_empty
returns-then-is_empty c = λ h.
    session_blank c.args.places.now.at.items c.args.pass.now c.args.session c.reads_of-reads.result.now
    (subst (λ (ls : List SessionReads). AreReadsOf ls c.args.session c.reads_of-reads.result.now) c.deref.ensures.value c.reads_of-reads.ensures)
    (eqb-true (length c.reads_of-reads.result.now) 0 (sym c.is_empty.ensures ∙ c.if-is_empty.true))

pub returns-in-Some : goal.returns-in-Some
returns-in-Some c = λ h.
    session_kept c.args.places.now.at.items c.args.pass.now c.args.session c.in-Some.reader c.reads_of-reads.result.now
    (subst (λ (ls : List SessionReads). AreReadsOf ls c.args.session c.reads_of-reads.result.now) c.deref.ensures.value c.reads_of-reads.ensures)
    (subst (λ (ns : List SessionNote). IsPendingIn ns c.args.session c.in-Some.reader) c.deref-2.ensures.value c.in-Some.ensures) (c.are_kept.ensures h)
