-- A write that was asked of a book by itself.
use Rattle.std.proofs.Common.{◌≡◌, ◌∙◌, ℕ, Option, refl, ap}
use Rattle.cell_base.specs.declared.cell.Cell.{Cell}
use Rattle.cell_base.specs.declared.value.Value.{Value}
use Rattle.statement_course.specs.declared.demand.Demand.{Demand}
use Rattle.statement_course.specs.declared.demand.Demand.TheVariants as demands
use Rattle.history_core.specs.declared.event.Event.{Event}
use Rattle.history_core.specs.declared.event.Event.TheVariants.{Write}
use Rattle.history_book.specs.Book.{Past, session_of}
use Rattle.block_machine.specs.Calls.{call_for}
use Rattle.block_machine.specs.Calls as calls
use Rattle.block_machine.specs.Stages.{Fits}
use Rattle.block_machine.specs.Writes.{IsWrite}
use Rattle.block_machine.specs.declared.call.Answer.{Answer}
use Rattle.block_machine.specs.declared.call.Answer.TheVariants as answers
use Rattle.session_core.specs.declared.session.Session.{Session}
use Rattle.session_core.specs.Wants.{Want}
use Rattle.session_core.specs.Wants as wishes
use Rattle.session_core.specs.Record.{StateAfter}
use Rattle.session_core.specs.Plays.{Plays}
use Rattle.session_core.specs.Sessions.{wanted}
use Rattle.session_core.specs.Told.{opened_after}
use Rattle.session_core.specs.Running.{IsAnswered}
use Rattle.session_core.proofs.Playing.{declined}

write_fits : (p : Past) (cell : Cell) (value : Value) (a : Answer) (q : Past) → IsWrite p cell value a q → Fits (calls.Write cell value) a
write_fits p cell value answers.Written q h = tt
write_fits p cell value (answers.Refused why) q h = tt
write_fits p cell value _ q h = absurd h

-- it opens no session
pub write_number : (n : Option ℕ) (p : Past) (cell : Cell) (value : Value) (a : Answer) (q : Past) → IsWrite p cell value a q →
    n ≡ opened_after n a
write_number n p cell value answers.Written q h = refl
write_number n p cell value (answers.Refused why) q h = refl
write_number n p cell value _ q h = absurd h

write_plays : {W : Type 0} (gives : W → ℕ → W → Type 0) (p : Past) (v : W) (cell : Cell) (value : Value) (a : Answer) (q : Past) →
    IsWrite p cell value a q → (e : Event) × Plays gives p v (calls.Write cell value) a e q v
write_plays gives p v cell value answers.Written q h = (Write (session_of p.state) cell value, ((refl, h.0), refl))
write_plays gives p v cell value (answers.Refused why) q h =
    declined gives p v (calls.Write cell value) (calls.Write cell value) why q v refl tt h.0 h.1 (λ limit is. tt) refl
write_plays gives p v cell value _ q h = absurd h

write_state : (p : Past) (cell : Cell) (value : Value) (a : Answer) (q : Past) → IsWrite p cell value a q →
    StateAfter (calls.Write cell value) a p.state q.state
write_state p cell value answers.Written q h = h.1
write_state p cell value (answers.Refused why) q h = h.0.state
write_state p cell value _ q h = absurd h

-- the write that was wanted was answered
pub write_answered : {W : Type 0} (gives : W → ℕ → W → Type 0) (s : Session) (p : Past) (v : W) (cell : Cell) (value : Value) (a : Answer)
    (q : Past) → wanted s ≡ wishes.Book (calls.Write cell value) → IsWrite p cell value a q → IsAnswered gives s p v a q v
write_answered gives s p v cell value a q is h =
    let (e, plays) = write_plays gives p v cell value a q h in
    record {
      call = calls.Write cell value;
      event = e;
      wanted_is = is;
      fits = write_fits p cell value a q h;
      plays = plays;
      state = write_state p cell value a q h;
    }

-- a demand that makes another call than a write is none
pub no_write : (want : Want) (d : Demand) (cell : Cell) (value : Value) → want ≡ wishes.Book (call_for d) →
    (want ≡ wishes.Book (calls.Write cell value) → ⊥) → d ≡ demands.Write cell value → ⊥
no_write want d cell value is other write = other (is ∙ ap (λ (x : Demand). wishes.Book (call_for x)) write)
