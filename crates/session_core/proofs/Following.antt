-- What stands after an answer, and after a reply that was sent.
use Rattle.std.proofs.Common.{◌≡◌, Bool, true, false, ℕ, List, ◌∷◌, length, refl, sym, ◌∙◌, ap, subst, Option, Some, None}
use Rattle.std.specs.Vec.Iter.{into_iter_items}
use Rattle.history_core.specs.declared.event.Event.{Event}
use Rattle.pg_framing.specs.declared.replies.TransactionState.{TransactionState}
use Rattle.block_machine.specs.Calls.{Call}
use Rattle.block_machine.specs.Calls as calls
use Rattle.block_machine.specs.Script.{Entry, Said, with_call}
use Rattle.block_machine.specs.Stages.{IsFrom, entry_for, with_short}
use Rattle.block_machine.specs.Stages as running
use Rattle.block_machine.specs.Messages.{Outside}
use Rattle.block_machine.specs.Runners.{follows_reply, follows, knowledge_of, stage_of, wanted}
use Rattle.block_machine.specs.declared.call.Answer.{Answer}
use Rattle.block_machine.specs.declared.message_runner.MessageRunner.{MessageRunner}
use Rattle.block_machine.specs.declared.stage.MessageStage.{MessageStage as Inner}
use Rattle.block_machine.specs.declared.stage.MessageStage.TheVariants as inners
use Rattle.session_core.specs.declared.phase.Phase.TheVariants as phases
use Rattle.session_core.specs.declared.stage.SessionStage.TheVariants as stages
use Rattle.session_core.specs.declared.turns.Shortage.{Shortage}
use Rattle.session_core.specs.declared.turns.Shortage.TheVariants as shortages
use Rattle.session_core.specs.Wants as wishes
use Rattle.session_core.specs.Wants.{of_message}
use Rattle.session_core.specs.Told.{outside_of}
use Rattle.session_core.specs.Stands.{on}
use Rattle.session_core.specs.Steps.{Advances, Sends}
use Rattle.session_core.proofs.Meeting.{with_passing}

-- ---- a message that runs

least_busy : (stage : Inner) → running.IsBusy stage → running.least stage ≡ 1
least_busy (inners.Over state) h = absurd h
least_busy _ h = refl

pub book_message : (w : calls.MessageWant) (c : Call) → of_message w ≡ wishes.Book c → w ≡ calls.Book c
book_message (calls.Book d) c is = let same : d ≡ c = cc in ap (λ (x : Call). calls.Book x) same
book_message calls.Send c is = cc
book_message calls.Nothing c is = cc

-- the message goes on after its reply
pub sends_on : (old new : MessageRunner) (short : Bool) (w : Option Shortage) → running.IsBusy (stage_of new) →
    (short ≡ false → w ≡ None) → (short ≡ true → w ≡ Some shortages.Passing) →
    ((outside : Outside) (said : Said) (es : List Entry) →
    IsFrom (running.least (stage_of new)) (length said.bytes) es →
    follows_reply old outside said (with_short short said.bytes es) ≡ follows new outside said es) → Sends stages.Running old stages.Running new w
sends_on old new short w busy at_rest shorts goes startup requests said es from =
    ap (λ (x : List Entry). follows_reply old (outside_of (on requests)) said x)
    (sym (with_passing short w said.bytes es at_rest shorts))
    ∙ goes (outside_of (on requests)) said es
    (subst (λ (n : ℕ). IsFrom n (length said.bytes) es) (sym (least_busy (stage_of new) busy)) from)

-- the message is done
pub sends_done : (old new : MessageRunner) (state : TransactionState) (short : Bool) (w : Option Shortage) →
    (stage_of new) ≡ inners.Over state →
    (short ≡ false → w ≡ None) → (short ≡ true → w ≡ Some shortages.Passing) →
    ((outside : Outside) (said : Said) (es : List Entry) →
    IsFrom (running.least (stage_of new)) (length said.bytes) es →
    follows_reply old outside said (with_short short said.bytes es) ≡ follows new outside said es) →
    Sends stages.Running old (stages.Taking (phases.Normal state)) new w
sends_done old new state short w over at_rest shorts goes startup requests said es from =
    ap (λ (x : List Entry). follows_reply old (outside_of (on requests)) said x)
    (sym (with_passing short w said.bytes es at_rest shorts))
    ∙ goes (outside_of (on requests)) said es
    (subst (λ (s : Inner). IsFrom (running.least s) (length said.bytes) es) (sym over) from)
    ∙ ap (λ (s : Inner). running.goes_on s new.runner.built.items (knowledge_of new) (into_iter_items new.rest)
    (outside_of (on requests)) said es) over

-- an answer to the call of a message
pub advances_running : (old new : MessageRunner) (answer : Answer) (short : Bool) (w : Option Shortage) (startup : List ℕ) →
    (short ≡ false → w ≡ None) → (short ≡ true → w ≡ Some shortages.Passing) →
    ((c : Call) (outside : Outside) (said : Said) (es : List Entry) (e : Event) → wanted old ≡ calls.Book c →
    IsFrom 1 (length said.bytes) es →
    follows old outside said (entry_for answer e ∷ with_short short said.bytes es) ≡ follows new outside (with_call said c) es) →
    Advances stages.Running old answer stages.Running new w startup
advances_running old new answer short w startup at_rest shorts goes = record {
  goes = λ c before requests said es e is from.
      ap (λ (x : List Entry). follows old (outside_of (on requests)) said (entry_for answer e ∷ x))
      (sym (with_passing short w said.bytes es at_rest shorts))
      ∙ goes c (outside_of (on requests)) said es e (book_message (wanted old) c is) from;
  busy = tt;
  last = λ h. absurd h;
}
