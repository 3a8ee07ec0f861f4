-- The ends that a script comes to, whatever was said and whatever becomes of it.
use Rattle.std.proofs.Common.{◌≡◌, Bool, true, false, cond, ℕ, List, [], ◌∷◌, length, sym, subst, ◌==◌}
use Rattle.sql_tree.specs.declared.table.Table.{Table}
use Rattle.cell_base.specs.declared.key.Key.{Key}
use Rattle.cell_base.specs.declared.value.Value.{Value}
use Rattle.history_core.specs.declared.fault.BookFault.{BookFault}
use Rattle.history_core.specs.declared.fault.DefineAnswer.TheVariants as defines
use Rattle.block_machine.specs.Calls.{Call}
use Rattle.block_machine.specs.Script.{Entry, did, refused, short, unsent, stop, Said, Next, more, call, ended, astray, with_bytes, with_call, Script, lost, ask, tell, unless_unsent, unless_short, on_looked, on_defined, on_begun, on_listed, on_found, on_written, on_shown}
use Rattle.block_machine.specs.declared.call.Answer.{Answer}
use Rattle.block_machine.specs.declared.call.Answer.TheVariants as answers
use Rattle.block_machine.specs.declared.end.End.{End}
use Rattle.block_machine.specs.declared.end.End.TheVariants as ends

-- what may be said of an end, given the entries that led to it
abbrev pub Why : Type 1
Why = End → List Entry → Type 0

-- where the session has ended, this holds of its end
abbrev pub Holds : Why → List Entry → Next → Type 0
Holds P entries more = Unit {0}
Holds P entries (call c) = Unit {0}
Holds P entries (ended end) = P end entries
Holds P entries astray = Unit {0}

pub record EndsIn (P : End → List Entry → Type 0) (script : Script) : Type 0 where
  pub at : (said : Said) (entries : List Entry) → Holds P entries (script said entries).1

-- it ends in this way alone
abbrev pub Is : End → Why
Is end found entries = found ≡ end

-- an entry before the others changes nothing, and a failed write is a cause
pub record IsFit (P : End → List Entry → Type 0) : Type 0 where
  pub lifts : (e : Entry) (end : End) (entries : List Entry) → P end entries → P end (e ∷ entries)
  pub unsent_is : (n : ℕ) (entries : List Entry) → P ends.WriteFault (unsent n ∷ entries)

pub lifted : (P : Why) → IsFit P → (e : Entry) (entries : List Entry) (next : Next) → Holds P entries next → Holds P (e ∷ entries) next
lifted P fit e entries more h = tt
lifted P fit e entries (call c) h = tt
lifted P fit e entries (ended end) h = fit.lifts e end entries h
lifted P fit e entries astray h = tt

-- ends of one way, with the entry that makes it so
pub by_entry : (P : Why) (end : End) (e : Entry) (entries : List Entry) → P end (e ∷ entries) → (next : Next) → Holds (Is end) entries next → Holds P (e ∷ entries) next
by_entry P end e entries p more h = tt
by_entry P end e entries p (call c) h = tt
by_entry P end e entries p (ended found) h = subst (λ (x : End). P x (e ∷ entries)) (sym h) p
by_entry P end e entries p astray h = tt

-- ---- scripts

pub lost_ends : (P : Why) → EndsIn P lost
lost_ends P = record { at = λ said entries. tt }

ask_at : (P : Why) → IsFit P → (c : Call) (rest : Answer → Script) → ((a : Answer) → EndsIn P (rest a)) → (said : Said) (entries : List Entry) →
    Holds P entries (ask c rest said entries).1
ask_at P fit c rest h said [] = tt
ask_at P fit c rest h said (did a e ∷ entries) = lifted P fit (did a e) entries (rest a (with_call said c) entries).1 ((h a).at (with_call said c) entries)
ask_at P fit c rest h said (refused why ∷ entries) =
    lifted P fit (refused why) entries (rest (answers.Refused why) (with_call said c) entries).1 ((h (answers.Refused why)).at (with_call said c) entries)
ask_at P fit c rest h said (short final n ∷ entries) = tt
ask_at P fit c rest h said (unsent n ∷ entries) = tt
ask_at P fit c rest h said (stop cause ∷ entries) = tt

pub ask_ends : (P : Why) → IsFit P → (c : Call) (rest : Answer → Script) → ((a : Answer) → EndsIn P (rest a)) → EndsIn P (ask c rest)
ask_ends P fit c rest h = record { at = ask_at P fit c rest h }

either_holds : (P : Why) (entries : List Entry) (one other : Said × Next) → Holds P entries one.1 → Holds P entries other.1 → (b : Bool) → Holds P entries (cond b one other).1
either_holds P entries one other first second true = first
either_holds P entries one other first second false = second

unsent_at : (P : Why) → IsFit P → (before : ℕ) (fault rest : Script) → EndsIn (Is ends.WriteFault) fault → EndsIn P rest → (said : Said) (entries : List Entry) →
    Holds P entries (unless_unsent before fault rest said entries).1
unsent_at P fit before fault rest bad good said [] = good.at said []
unsent_at P fit before fault rest bad good said (did a e ∷ entries) = good.at said (did a e ∷ entries)
unsent_at P fit before fault rest bad good said (refused why ∷ entries) = good.at said (refused why ∷ entries)
unsent_at P fit before fault rest bad good said (short final n ∷ entries) = good.at said (short final n ∷ entries)
unsent_at P fit before fault rest bad good said (unsent n ∷ entries) =
    either_holds P (unsent n ∷ entries) (fault said entries) (rest said (unsent n ∷ entries))
    (by_entry P ends.WriteFault (unsent n) entries (fit.unsent_is n entries) (fault said entries).1 (bad.at said entries))
    (good.at said (unsent n ∷ entries)) (n == before)
unsent_at P fit before fault rest bad good said (stop cause ∷ entries) = good.at said (stop cause ∷ entries)

pub tell_ends : (P : Why) → IsFit P → (bytes : List ℕ) (fault rest : Script) → EndsIn (Is ends.WriteFault) fault → EndsIn P rest → EndsIn P (tell bytes fault rest)
tell_ends P fit bytes fault rest bad good =
    record { at = λ said entries. unsent_at P fit (length said.bytes) fault rest bad good (with_bytes said bytes) entries }

-- what stands after a lack of memory ends so with that entry before it
pub record EndsAfter (P : End → List Entry → Type 0) (final : Bool) (script : Script) : Type 0 where
  pub at : (n : ℕ) (said : Said) (entries : List Entry) → Holds P (short final n ∷ entries) (script said entries).1

short_at : (P : Why) (final : Bool) (short_of rest : Script) → EndsAfter P final short_of → EndsIn P rest → (said : Said) (entries : List Entry) →
    Holds P entries (unless_short final short_of rest said entries).1
short_at P final short_of rest bad good said [] = good.at said []
short_at P final short_of rest bad good said (did a e ∷ entries) = good.at said (did a e ∷ entries)
short_at P final short_of rest bad good said (refused why ∷ entries) = good.at said (refused why ∷ entries)
short_at P true short_of rest bad good said (short true n ∷ entries) =
    either_holds P (short true n ∷ entries) (short_of said entries) (rest said (short true n ∷ entries)) (bad.at n said entries)
    (good.at said (short true n ∷ entries)) (n == length said.bytes)
short_at P false short_of rest bad good said (short false n ∷ entries) =
    either_holds P (short false n ∷ entries) (short_of said entries) (rest said (short false n ∷ entries)) (bad.at n said entries)
    (good.at said (short false n ∷ entries)) (n == length said.bytes)
short_at P true short_of rest bad good said (short false n ∷ entries) = good.at said (short false n ∷ entries)
short_at P false short_of rest bad good said (short true n ∷ entries) = good.at said (short true n ∷ entries)
short_at P final short_of rest bad good said (unsent n ∷ entries) = good.at said (unsent n ∷ entries)
short_at P final short_of rest bad good said (stop cause ∷ entries) = good.at said (stop cause ∷ entries)

pub short_ends : (P : Why) (final : Bool) (short_of rest : Script) → EndsAfter P final short_of → EndsIn P rest → EndsIn P (unless_short final short_of rest)
short_ends P final short_of rest bad good = record { at = short_at P final short_of rest bad good }

pub after_short : (P : Why) → IsFit P → (final : Bool) (script : Script) → EndsIn P script → EndsAfter P final script
after_short P fit final script h = record { at = λ n said entries. lifted P fit (short final n) entries (script said entries).1 (h.at said entries) }

-- ---- by the answer

pub looked_ends : (P : Why) (good : List Table → Script) (bad : BookFault → Script) → ((tables : List Table) → EndsIn P (good tables)) →
    ((why : BookFault) → EndsIn P (bad why)) → (a : Answer) → EndsIn P (on_looked a good bad)
looked_ends P good bad one other (answers.Looked tables) = one tables
looked_ends P good bad one other (answers.Refused why) = other why
looked_ends P good bad one other _ = lost_ends P

pub defined_ends : (P : Why) (good taken : Script) (bad : BookFault → Script) → EndsIn P good → EndsIn P taken → ((why : BookFault) → EndsIn P (bad why)) →
    (a : Answer) → EndsIn P (on_defined a good taken bad)
defined_ends P good taken bad one two other (answers.Defined (defines.Defined n)) = one
defined_ends P good taken bad one two other (answers.Defined (defines.Taken n)) = two
defined_ends P good taken bad one two other (answers.Refused why) = other why
defined_ends P good taken bad one two other _ = lost_ends P

pub begun_ends : (P : Why) (good : Script) (bad : BookFault → Script) → EndsIn P good → ((why : BookFault) → EndsIn P (bad why)) →
    (a : Answer) → EndsIn P (on_begun a good bad)
begun_ends P good bad one other (answers.Begun n) = one
begun_ends P good bad one other (answers.Refused why) = other why
begun_ends P good bad one other _ = lost_ends P

pub listed_ends : (P : Why) (good : List Key → Script) (bad : BookFault → Script) → ((keys : List Key) → EndsIn P (good keys)) →
    ((why : BookFault) → EndsIn P (bad why)) → (a : Answer) → EndsIn P (on_listed a good bad)
listed_ends P good bad one other (answers.Listed keys) = one keys
listed_ends P good bad one other (answers.Refused why) = other why
listed_ends P good bad one other _ = lost_ends P

pub found_ends : (P : Why) (good : Value → Script) (bad : BookFault → Script) → ((value : Value) → EndsIn P (good value)) →
    ((why : BookFault) → EndsIn P (bad why)) → (a : Answer) → EndsIn P (on_found a good bad)
found_ends P good bad one other (answers.Found value) = one value
found_ends P good bad one other (answers.Refused why) = other why
found_ends P good bad one other _ = lost_ends P

pub written_ends : (P : Why) (good : Script) (bad : BookFault → Script) → EndsIn P good → ((why : BookFault) → EndsIn P (bad why)) →
    (a : Answer) → EndsIn P (on_written a good bad)
written_ends P good bad one other answers.Written = one
written_ends P good bad one other (answers.Refused why) = other why
written_ends P good bad one other _ = lost_ends P

pub shown_ends : (P : Why) (good : ℕ → Script) (bad : BookFault → Script) → ((n : ℕ) → EndsIn P (good n)) → ((why : BookFault) → EndsIn P (bad why)) →
    (a : Answer) → EndsIn P (on_shown a good bad)
shown_ends P good bad one other (answers.Shown n) = one n
shown_ends P good bad one other (answers.Refused why) = other why
shown_ends P good bad one other _ = lost_ends P
