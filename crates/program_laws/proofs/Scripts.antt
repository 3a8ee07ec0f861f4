-- How many free calls a script makes at most, whatever was said and whatever becomes of it.
use Rattle.std.proofs.Common.{◌≡◌, ◌≢◌, ◌≤◌, Bool, true, false, cond, ℕ, suc, List, [], ◌∷◌, length, refl, arith, ◌==◌}
use Rattle.sql_tree.specs.declared.table.Table.{Table}
use Rattle.cell_base.specs.declared.key.Key.{Key}
use Rattle.cell_base.specs.declared.value.Value.{Value}
use Rattle.history_core.specs.declared.event.Event.{Event}
use Rattle.history_core.specs.declared.fault.BookFault.{BookFault}
use Rattle.history_core.specs.declared.fault.DefineAnswer.TheVariants as defines
use Rattle.block_machine.specs.Calls.{Call}
use Rattle.block_machine.specs.Script.{Entry, did, refused, short, unsent, stop, Said, Next, astray, with_bytes, with_call, Script, lost, ask, tell, unless_unsent, unless_short, on_opened, on_looked, on_defined, on_begun, on_listed, on_found, on_written, on_shown}
use Rattle.block_machine.specs.declared.call.Answer.{Answer}
use Rattle.block_machine.specs.declared.call.Answer.TheVariants as answers
use Rattle.program_laws.specs.Free.{with_free, free_in}

-- so many at most, where the record's entries belong there
pub record Few (n : ℕ) (script : Script) : Type 0 where
  pub at : (said : Said) (entries : List Entry) → (script said entries).1 ≢ astray → free_in entries ≤ n

pub weaker : (m n : ℕ) (script : Script) → Few m script → m ≤ n → Few n script
weaker m n script few less = record { at = λ said entries fine. omega (arith, few.at said entries fine, less) }

pub lost_few : (n : ℕ) → Few n lost
lost_few n = record { at = λ said entries fine. absurd (fine refl) }

-- ---- a call

-- an entry adds one at most
one_most : (a : Answer) (e : Event) (n : ℕ) → with_free (did a e) n ≤ suc n
one_most answers.Committed e n = omega arith
one_most answers.RolledBack e n = omega arith
one_most answers.Closed e n = omega arith
one_most (answers.Opened number) e n = omega arith
one_most (answers.Looked tables) e n = omega arith
one_most (answers.Defined answer) e n = omega arith
one_most (answers.Begun number) e n = omega arith
one_most (answers.Listed keys) e n = omega arith
one_most (answers.Found value) e n = omega arith
one_most answers.Written e n = omega arith
one_most (answers.Shown number) e n = omega arith
one_most (answers.Refused why) e n = omega arith

any_at : (n : ℕ) (c : Call) (rest : Answer → Script) → ((a : Answer) → Few n (rest a)) → (said : Said) (entries : List Entry) →
    (ask c rest said entries).1 ≢ astray → free_in entries ≤ suc n
any_at n c rest h said [] fine = omega arith
any_at n c rest h said (did a e ∷ entries) fine = omega (arith, one_most a e (free_in entries), (h a).at (with_call said c) entries fine)
any_at n c rest h said (refused why ∷ entries) fine = omega (arith, (h (answers.Refused why)).at (with_call said c) entries fine)
any_at n c rest h said (short final m ∷ entries) fine = absurd (fine refl)
any_at n c rest h said (unsent m ∷ entries) fine = absurd (fine refl)
any_at n c rest h said (stop cause ∷ entries) fine = absurd (fine refl)

-- a call that ends something, whatever its answer
pub ask_any : (n : ℕ) (c : Call) (rest : Answer → Script) → ((a : Answer) → Few n (rest a)) → Few (suc n) (ask c rest)
ask_any n c rest h = record { at = any_at n c rest h }

-- an answer that ends nothing, or one that doesn't belong there
abbrev Fits : ℕ → Answer → Script → Type 0
Fits n answers.Committed script = (said : Said) (entries : List Entry) → (script said entries).1 ≡ astray
Fits n answers.RolledBack script = (said : Said) (entries : List Entry) → (script said entries).1 ≡ astray
Fits n answers.Closed script = (said : Said) (entries : List Entry) → (script said entries).1 ≡ astray
Fits n (answers.Opened number) script = Few n script
Fits n (answers.Looked tables) script = Few n script
Fits n (answers.Defined answer) script = Few n script
Fits n (answers.Begun number) script = Few n script
Fits n (answers.Listed keys) script = Few n script
Fits n (answers.Found value) script = Few n script
Fits n answers.Written script = Few n script
Fits n (answers.Shown number) script = Few n script
Fits n (answers.Refused why) script = Few n script

fits_at : (n : ℕ) (a : Answer) (e : Event) (script : Script) → Fits n a script → (said : Said) (entries : List Entry) → (script said entries).1 ≢ astray →
    free_in (did a e ∷ entries) ≤ n
fits_at n answers.Committed e script h said entries fine = absurd (fine (h said entries))
fits_at n answers.RolledBack e script h said entries fine = absurd (fine (h said entries))
fits_at n answers.Closed e script h said entries fine = absurd (fine (h said entries))
fits_at n (answers.Opened number) e script h said entries fine = h.at said entries fine
fits_at n (answers.Looked tables) e script h said entries fine = h.at said entries fine
fits_at n (answers.Defined answer) e script h said entries fine = h.at said entries fine
fits_at n (answers.Begun number) e script h said entries fine = h.at said entries fine
fits_at n (answers.Listed keys) e script h said entries fine = h.at said entries fine
fits_at n (answers.Found value) e script h said entries fine = h.at said entries fine
fits_at n answers.Written e script h said entries fine = h.at said entries fine
fits_at n (answers.Shown number) e script h said entries fine = h.at said entries fine
fits_at n (answers.Refused why) e script h said entries fine = h.at said entries fine

ask_at : (n : ℕ) (c : Call) (rest : Answer → Script) → ((a : Answer) → Fits (suc n) a (rest a)) → ((why : BookFault) → Few n (rest (answers.Refused why))) →
    (said : Said) (entries : List Entry) → (ask c rest said entries).1 ≢ astray → free_in entries ≤ suc n
ask_at n c rest h bad said [] fine = omega arith
ask_at n c rest h bad said (did a e ∷ entries) fine = fits_at (suc n) a e (rest a) (h a) (with_call said c) entries fine
ask_at n c rest h bad said (refused why ∷ entries) fine = omega (arith, (bad why).at (with_call said c) entries fine)
ask_at n c rest h bad said (short final m ∷ entries) fine = absurd (fine refl)
ask_at n c rest h bad said (unsent m ∷ entries) fine = absurd (fine refl)
ask_at n c rest h bad said (stop cause ∷ entries) fine = absurd (fine refl)

ask_few : (n : ℕ) (c : Call) (rest : Answer → Script) → ((a : Answer) → Fits (suc n) a (rest a)) → ((why : BookFault) → Few n (rest (answers.Refused why))) →
    Few (suc n) (ask c rest)
ask_few n c rest h bad = record { at = ask_at n c rest h bad }

up : (n : ℕ) (script : Script) → Few n script → Few (suc n) script
up n script few = weaker n (suc n) script few (omega arith)

lost_fits : (n : ℕ) (a : Answer) → Fits n a lost
lost_fits n answers.Committed = λ said entries. refl
lost_fits n answers.RolledBack = λ said entries. refl
lost_fits n answers.Closed = λ said entries. refl
lost_fits n (answers.Opened number) = lost_few n
lost_fits n (answers.Looked tables) = lost_few n
lost_fits n (answers.Defined answer) = lost_few n
lost_fits n (answers.Begun number) = lost_few n
lost_fits n (answers.Listed keys) = lost_few n
lost_fits n (answers.Found value) = lost_few n
lost_fits n answers.Written = lost_few n
lost_fits n (answers.Shown number) = lost_few n
lost_fits n (answers.Refused why) = lost_few n

-- ---- by the answer

opened_fits : (n : ℕ) (good : ℕ → Script) (bad : BookFault → Script) → ((s : ℕ) → Few (suc n) (good s)) → ((why : BookFault) → Few n (bad why)) → (a : Answer) →
    Fits (suc n) a (on_opened a good bad)
opened_fits n good bad one other (answers.Opened s) = one s
opened_fits n good bad one other (answers.Refused why) = up n (bad why) (other why)
opened_fits n good bad one other a = lost_fits (suc n) a

pub ask_opened : (n : ℕ) (c : Call) (good : ℕ → Script) (bad : BookFault → Script) → ((s : ℕ) → Few (suc n) (good s)) → ((why : BookFault) → Few n (bad why)) →
    Few (suc n) (ask c (λ a. on_opened a good bad))
ask_opened n c good bad one other = ask_few n c _ (opened_fits n good bad one other) other

looked_fits : (n : ℕ) (good : List Table → Script) (bad : BookFault → Script) → ((tables : List Table) → Few (suc n) (good tables)) →
    ((why : BookFault) → Few n (bad why)) → (a : Answer) → Fits (suc n) a (on_looked a good bad)
looked_fits n good bad one other (answers.Looked tables) = one tables
looked_fits n good bad one other (answers.Refused why) = up n (bad why) (other why)
looked_fits n good bad one other a = lost_fits (suc n) a

pub ask_looked : (n : ℕ) (c : Call) (good : List Table → Script) (bad : BookFault → Script) → ((tables : List Table) → Few (suc n) (good tables)) →
    ((why : BookFault) → Few n (bad why)) → Few (suc n) (ask c (λ a. on_looked a good bad))
ask_looked n c good bad one other = ask_few n c _ (looked_fits n good bad one other) other

defined_fits : (n : ℕ) (good taken : Script) (bad : BookFault → Script) → Few (suc n) good → Few (suc n) taken → ((why : BookFault) → Few n (bad why)) → (a : Answer) →
    Fits (suc n) a (on_defined a good taken bad)
defined_fits n good taken bad one two other (answers.Defined (defines.Defined number)) = one
defined_fits n good taken bad one two other (answers.Defined (defines.Taken number)) = two
defined_fits n good taken bad one two other (answers.Refused why) = up n (bad why) (other why)
defined_fits n good taken bad one two other a = lost_fits (suc n) a

pub ask_defined : (n : ℕ) (c : Call) (good taken : Script) (bad : BookFault → Script) → Few (suc n) good → Few (suc n) taken →
    ((why : BookFault) → Few n (bad why)) → Few (suc n) (ask c (λ a. on_defined a good taken bad))
ask_defined n c good taken bad one two other = ask_few n c _ (defined_fits n good taken bad one two other) other

begun_fits : (n : ℕ) (good : Script) (bad : BookFault → Script) → Few (suc n) good → ((why : BookFault) → Few n (bad why)) → (a : Answer) →
    Fits (suc n) a (on_begun a good bad)
begun_fits n good bad one other (answers.Begun number) = one
begun_fits n good bad one other (answers.Refused why) = up n (bad why) (other why)
begun_fits n good bad one other a = lost_fits (suc n) a

pub ask_begun : (n : ℕ) (c : Call) (good : Script) (bad : BookFault → Script) → Few (suc n) good → ((why : BookFault) → Few n (bad why)) →
    Few (suc n) (ask c (λ a. on_begun a good bad))
ask_begun n c good bad one other = ask_few n c _ (begun_fits n good bad one other) other

listed_fits : (n : ℕ) (good : List Key → Script) (bad : BookFault → Script) → ((keys : List Key) → Few (suc n) (good keys)) → ((why : BookFault) → Few n (bad why)) →
    (a : Answer) → Fits (suc n) a (on_listed a good bad)
listed_fits n good bad one other (answers.Listed keys) = one keys
listed_fits n good bad one other (answers.Refused why) = up n (bad why) (other why)
listed_fits n good bad one other a = lost_fits (suc n) a

pub ask_listed : (n : ℕ) (c : Call) (good : List Key → Script) (bad : BookFault → Script) → ((keys : List Key) → Few (suc n) (good keys)) →
    ((why : BookFault) → Few n (bad why)) → Few (suc n) (ask c (λ a. on_listed a good bad))
ask_listed n c good bad one other = ask_few n c _ (listed_fits n good bad one other) other

found_fits : (n : ℕ) (good : Value → Script) (bad : BookFault → Script) → ((value : Value) → Few (suc n) (good value)) → ((why : BookFault) → Few n (bad why)) →
    (a : Answer) → Fits (suc n) a (on_found a good bad)
found_fits n good bad one other (answers.Found value) = one value
found_fits n good bad one other (answers.Refused why) = up n (bad why) (other why)
found_fits n good bad one other a = lost_fits (suc n) a

pub ask_found : (n : ℕ) (c : Call) (good : Value → Script) (bad : BookFault → Script) → ((value : Value) → Few (suc n) (good value)) →
    ((why : BookFault) → Few n (bad why)) → Few (suc n) (ask c (λ a. on_found a good bad))
ask_found n c good bad one other = ask_few n c _ (found_fits n good bad one other) other

written_fits : (n : ℕ) (good : Script) (bad : BookFault → Script) → Few (suc n) good → ((why : BookFault) → Few n (bad why)) → (a : Answer) →
    Fits (suc n) a (on_written a good bad)
written_fits n good bad one other answers.Written = one
written_fits n good bad one other (answers.Refused why) = up n (bad why) (other why)
written_fits n good bad one other a = lost_fits (suc n) a

pub ask_written : (n : ℕ) (c : Call) (good : Script) (bad : BookFault → Script) → Few (suc n) good → ((why : BookFault) → Few n (bad why)) →
    Few (suc n) (ask c (λ a. on_written a good bad))
ask_written n c good bad one other = ask_few n c _ (written_fits n good bad one other) other

shown_fits : (n : ℕ) (good : ℕ → Script) (bad : BookFault → Script) → ((m : ℕ) → Few (suc n) (good m)) → ((why : BookFault) → Few n (bad why)) → (a : Answer) →
    Fits (suc n) a (on_shown a good bad)
shown_fits n good bad one other (answers.Shown m) = one m
shown_fits n good bad one other (answers.Refused why) = up n (bad why) (other why)
shown_fits n good bad one other a = lost_fits (suc n) a

pub ask_shown : (n : ℕ) (c : Call) (good : ℕ → Script) (bad : BookFault → Script) → ((m : ℕ) → Few (suc n) (good m)) → ((why : BookFault) → Few n (bad why)) →
    Few (suc n) (ask c (λ a. on_shown a good bad))
ask_shown n c good bad one other = ask_few n c _ (shown_fits n good bad one other) other

-- ---- what is told, and lacks of memory

either_few : (n : ℕ) (entries : List Entry) (one other : Said × Next) → (one.1 ≢ astray → free_in entries ≤ n) → (other.1 ≢ astray → free_in entries ≤ n) →
    (b : Bool) → (cond b one other).1 ≢ astray → free_in entries ≤ n
either_few n entries one other first second true fine = first fine
either_few n entries one other first second false fine = second fine

unsent_at : (n before : ℕ) (fault rest : Script) → Few n fault → Few n rest → (said : Said) (entries : List Entry) →
    (unless_unsent before fault rest said entries).1 ≢ astray → free_in entries ≤ n
unsent_at n before fault rest bad good said [] fine = good.at said [] fine
unsent_at n before fault rest bad good said (did a e ∷ entries) fine = good.at said (did a e ∷ entries) fine
unsent_at n before fault rest bad good said (refused why ∷ entries) fine = good.at said (refused why ∷ entries) fine
unsent_at n before fault rest bad good said (short final m ∷ entries) fine = good.at said (short final m ∷ entries) fine
unsent_at n before fault rest bad good said (unsent m ∷ entries) fine =
    either_few n (unsent m ∷ entries) (fault said entries) (rest said (unsent m ∷ entries)) (bad.at said entries) (good.at said (unsent m ∷ entries)) (m == before) fine
unsent_at n before fault rest bad good said (stop cause ∷ entries) fine = good.at said (stop cause ∷ entries) fine

pub tell_few : (n : ℕ) (bytes : List ℕ) (fault rest : Script) → Few n fault → Few n rest → Few n (tell bytes fault rest)
tell_few n bytes fault rest bad good =
    record { at = λ said entries fine. unsent_at n (length said.bytes) fault rest bad good (with_bytes said bytes) entries fine }

short_at : (n : ℕ) (final : Bool) (short_of rest : Script) → Few n short_of → Few n rest → (said : Said) (entries : List Entry) →
    (unless_short final short_of rest said entries).1 ≢ astray → free_in entries ≤ n
short_at n final short_of rest bad good said [] fine = good.at said [] fine
short_at n final short_of rest bad good said (did a e ∷ entries) fine = good.at said (did a e ∷ entries) fine
short_at n final short_of rest bad good said (refused why ∷ entries) fine = good.at said (refused why ∷ entries) fine
short_at n true short_of rest bad good said (short true m ∷ entries) fine =
    either_few n (short true m ∷ entries) (short_of said entries) (rest said (short true m ∷ entries)) (bad.at said entries) (good.at said (short true m ∷ entries))
    (m == length said.bytes) fine
short_at n false short_of rest bad good said (short false m ∷ entries) fine =
    either_few n (short false m ∷ entries) (short_of said entries) (rest said (short false m ∷ entries)) (bad.at said entries) (good.at said (short false m ∷ entries))
    (m == length said.bytes) fine
short_at n true short_of rest bad good said (short false m ∷ entries) fine = good.at said (short false m ∷ entries) fine
short_at n false short_of rest bad good said (short true m ∷ entries) fine = good.at said (short true m ∷ entries) fine
short_at n final short_of rest bad good said (unsent m ∷ entries) fine = good.at said (unsent m ∷ entries) fine
short_at n final short_of rest bad good said (stop cause ∷ entries) fine = good.at said (stop cause ∷ entries) fine

pub short_few : (n : ℕ) (final : Bool) (short_of rest : Script) → Few n short_of → Few n rest → Few n (unless_short final short_of rest)
short_few n final short_of rest bad good = record { at = short_at n final short_of rest bad good }
