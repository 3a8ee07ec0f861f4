-- What each statement that a session ran is told, where memory didn't run out and the history had room.
use Rattle.std.specs.Prelude.{◌≡◌, ℕ, ⊤, List, [], ◌∷◌}
use Rattle.cell_base.specs.declared.level.Level.{Level}
use Rattle.statement_course.specs.declared.demand.Outcome.{Outcome}
use Rattle.statement_course.specs.Course.{done}
use Rattle.outcome_replies.specs.declared.description.RowDescription.TheVariants as described
use Rattle.block_machine.specs.Calls as calls
use Rattle.block_machine.specs.Script.{Entry, Said, ended}
use Rattle.block_machine.specs.declared.end.End.{End}
use Rattle.session_core.specs.Requests.{Requests}
use Rattle.session_core.specs.Told.{told}
use Rattle.session_laws.specs.Causes.{Has, LacksMemory, IsFull}
use Rattle.session_laws.specs.Acts.{Act, tells, asks, meets, runs}
use Rattle.session_laws.specs.PictureLaws.{Transcript, statements_of}
use Rattle.session_laws.specs.Transcripts.{reply_for}

-- these bytes are told next: at once, or after the rollback of a transaction
abbrev pub AreToldNext : List ℕ → List Act → Type 0
AreToldNext reply (tells bytes ∷ acts) = bytes ≡ reply
AreToldNext reply (asks calls.Rollback entry ∷ tells bytes ∷ acts) = bytes ≡ reply
AreToldNext reply _ = ⊥

-- Each statement that ran came to an outcome, and is told next what it came to: its rows and its tag, its tag alone, or its code.
abbrev pub EachIsTold : List Act → Type 0
EachIsTold [] = ⊤
EachIsTold (runs r ∷ acts) = ((outcome : Outcome) × (r.left ≡ done outcome) × AreToldNext (reply_for described.Told outcome) acts) × EachIsTold acts
EachIsTold (tells bytes ∷ acts) = EachIsTold acts
EachIsTold (asks c entry ∷ acts) = EachIsTold acts
EachIsTold (meets entry ∷ acts) = EachIsTold acts

-- So it is in each transcript of a session that has ended, whose record has no lack of memory and no refusal by a full history.
abbrev pub StatementsAreTold : Type 0
StatementsAreTold =
    (level : Level) (requests : Requests) (entries : List Entry) (said : Said) (end : End)
    → told level requests entries ≡ (said, ended end) → ¬ (Has LacksMemory entries) → ¬ (Has IsFull entries)
    → (t : Transcript (statements_of requests) entries said (ended end)) → EachIsTold t.acts
