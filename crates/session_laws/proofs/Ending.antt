-- The scripts that end a session, by what holds of the end.
use Rattle.std.proofs.Common.{List, [], ◌∷◌, refl}
use Rattle.cell_base.specs.declared.sql_state.SqlState.{SqlState}
use Rattle.cell_base.specs.declared.sql_state.SqlState.TheVariants as states
use Rattle.block_machine.specs.Calls as calls
use Rattle.block_machine.specs.Script.{Entry, unsent, Said, Next, more, call, ended, astray}
use Rattle.block_machine.specs.declared.block.Owed.{Owed}
use Rattle.block_machine.specs.declared.block.Owed.TheVariants as owes
use Rattle.block_machine.specs.declared.end.End.{End}
use Rattle.block_machine.specs.declared.end.End.TheVariants as ends
use Rattle.session_core.specs.Replies.{fatal_reply}
use Rattle.session_core.specs.Told as told
use Rattle.session_laws.proofs.EndScripts.{Why, Is, IsFit, Holds, EndsIn, ask_ends, tell_ends}

-- it holds of the end whatever entries come
abbrev pub Always : Why → End → Type 0
Always P end = (entries : List Entry) → P end entries

done_at : (P : Why) (end : End) → Always P end → (said : Said) (entries : List Entry) → Holds P entries (told.done end said entries).1
done_at P end h said [] = h []
done_at P end h said (e ∷ entries) = tt

done_in : (P : Why) (end : End) → Always P end → EndsIn P (told.done end)
done_in P end h = record { at = done_at P end h }

fatal_in : (P : Why) → IsFit P → (state : SqlState) (end : End) → Always P end → EndsIn P (told.fatal state end)
fatal_in P fit state end h =
    tell_ends P fit (fatal_reply state) (told.done ends.WriteFault) (told.done end) (done_in (Is ends.WriteFault) ends.WriteFault (λ entries. refl)) (done_in P end h)

pub closed_in : (P : Why) → IsFit P → (end : End) → Always P end → EndsIn P (told.closed end)
closed_in P fit (ends.Protocol fault) h = fatal_in P fit states.S08P01 (ends.Protocol fault) h
closed_in P fit (ends.Refused state) h = fatal_in P fit state (ends.Refused state) h
closed_in P fit ends.Spent h = fatal_in P fit states.S54000 ends.Spent h
closed_in P fit ends.Terminated h = done_in P ends.Terminated h
closed_in P fit ends.Closed h = done_in P ends.Closed h
closed_in P fit ends.Cut h = done_in P ends.Cut h
closed_in P fit ends.Cancelled h = done_in P ends.Cancelled h
closed_in P fit ends.ReadFault h = done_in P ends.ReadFault h
closed_in P fit ends.WriteFault h = done_in P ends.WriteFault h
closed_in P fit ends.Memory h = done_in P ends.Memory h

pub closing_in : (P : Why) → IsFit P → (end : End) → Always P end → EndsIn P (told.closing end)
closing_in P fit end h = ask_ends P fit calls.Close (λ _. told.closed end) (λ a. closed_in P fit end h)

pub ending_in : (P : Why) → IsFit P → (owed : Owed) (end : End) → Always P end → EndsIn P (told.ending owed end)
ending_in P fit owes.Nothing end h = closed_in P fit end h
ending_in P fit owes.Close end h = closing_in P fit end h
ending_in P fit owes.Rollback end h = ask_ends P fit calls.Rollback (λ _. told.closing end) (λ a. closing_in P fit end h)

-- ---- after an entry

-- the same with this entry first
abbrev pub After : Why → Entry → Why
After P e end entries = P end (e ∷ entries)

-- an entry between the first one and the others changes nothing
pub record IsFitAfter (P : End → List Entry → Type 0) (e : Entry) : Type 0 where
  pub passes : (x : Entry) (end : End) (entries : List Entry) → P end (e ∷ entries) → P end (e ∷ x ∷ entries)

pub after_fit : (P : Why) → IsFit P → (e : Entry) → IsFitAfter P e → IsFit (After P e)
after_fit P fit e after =
    record { lifts = after.passes; unsent_is = λ n entries. fit.lifts e ends.WriteFault (unsent n ∷ entries) (fit.unsent_is n entries) }

pub moved : (P : Why) (e : Entry) (entries : List Entry) (next : Next) → Holds (After P e) entries next → Holds P (e ∷ entries) next
moved P e entries more h = tt
moved P e entries (call c) h = tt
moved P e entries (ended end) h = h
moved P e entries astray h = tt
