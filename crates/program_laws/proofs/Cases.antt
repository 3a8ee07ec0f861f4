-- What follows an answer agrees where its cases do.
use Rattle.std.proofs.Common.{ℕ, List}
use Rattle.cell_base.specs.declared.key.Key.{Key}
use Rattle.cell_base.specs.declared.value.Value.{Value}
use Rattle.sql_tree.specs.declared.table.Table.{Table}
use Rattle.history_core.specs.declared.fault.BookFault.{BookFault}
use Rattle.history_core.specs.declared.fault.DefineAnswer.TheVariants as defines
use Rattle.block_machine.specs.declared.end.End.{End}
use Rattle.block_machine.specs.declared.call.Answer.{Answer}
use Rattle.block_machine.specs.declared.call.Answer.TheVariants as answers
use Rattle.block_machine.specs.Script.{Script, on_opened, on_looked, on_defined, on_begun, on_listed, on_found, on_written, on_shown}
use Rattle.program_laws.proofs.Rides.{Agree, lost_agrees}

pub opened_agrees : (E : End → Type 0) → (a : Answer) (s t : ℕ → Script) (x y : BookFault → Script) → ((n : ℕ) → Agree E (s n) (t n)) →
    ((why : BookFault) → Agree E (x why) (y why)) → Agree E (on_opened a s x) (on_opened a t y)
opened_agrees E (answers.Opened n) s t x y good bad = good n
opened_agrees E (answers.Refused why) s t x y good bad = bad why
opened_agrees E _ s t x y good bad = (lost_agrees E)

pub looked_agrees : (E : End → Type 0) → (a : Answer) (s t : List Table → Script) (x y : BookFault → Script) → ((ts : List Table) → Agree E (s ts) (t ts)) →
    ((why : BookFault) → Agree E (x why) (y why)) → Agree E (on_looked a s x) (on_looked a t y)
looked_agrees E (answers.Looked tables) s t x y good bad = good tables
looked_agrees E (answers.Refused why) s t x y good bad = bad why
looked_agrees E _ s t x y good bad = (lost_agrees E)

pub defined_agrees : (E : End → Type 0) → (a : Answer) (s t u v : Script) (x y : BookFault → Script) → Agree E s t → Agree E u v →
    ((why : BookFault) → Agree E (x why) (y why)) → Agree E (on_defined a s u x) (on_defined a t v y)
defined_agrees E (answers.Defined (defines.Defined n)) s t u v x y good taken bad = good
defined_agrees E (answers.Defined (defines.Taken n)) s t u v x y good taken bad = taken
defined_agrees E (answers.Refused why) s t u v x y good taken bad = bad why
defined_agrees E _ s t u v x y good taken bad = (lost_agrees E)

pub begun_agrees : (E : End → Type 0) → (a : Answer) (s t : Script) (x y : BookFault → Script) → Agree E s t → ((why : BookFault) → Agree E (x why) (y why)) →
    Agree E (on_begun a s x) (on_begun a t y)
begun_agrees E (answers.Begun n) s t x y good bad = good
begun_agrees E (answers.Refused why) s t x y good bad = bad why
begun_agrees E _ s t x y good bad = (lost_agrees E)

pub listed_agrees : (E : End → Type 0) → (a : Answer) (s t : List Key → Script) (x y : BookFault → Script) → ((ks : List Key) → Agree E (s ks) (t ks)) →
    ((why : BookFault) → Agree E (x why) (y why)) → Agree E (on_listed a s x) (on_listed a t y)
listed_agrees E (answers.Listed keys) s t x y good bad = good keys
listed_agrees E (answers.Refused why) s t x y good bad = bad why
listed_agrees E _ s t x y good bad = (lost_agrees E)

pub found_agrees : (E : End → Type 0) → (a : Answer) (s t : Value → Script) (x y : BookFault → Script) → ((v : Value) → Agree E (s v) (t v)) →
    ((why : BookFault) → Agree E (x why) (y why)) → Agree E (on_found a s x) (on_found a t y)
found_agrees E (answers.Found value) s t x y good bad = good value
found_agrees E (answers.Refused why) s t x y good bad = bad why
found_agrees E _ s t x y good bad = (lost_agrees E)

pub written_agrees : (E : End → Type 0) → (a : Answer) (s t : Script) (x y : BookFault → Script) → Agree E s t → ((why : BookFault) → Agree E (x why) (y why)) →
    Agree E (on_written a s x) (on_written a t y)
written_agrees E answers.Written s t x y good bad = good
written_agrees E (answers.Refused why) s t x y good bad = bad why
written_agrees E _ s t x y good bad = (lost_agrees E)

pub shown_agrees : (E : End → Type 0) → (a : Answer) (s t : ℕ → Script) (x y : BookFault → Script) → ((n : ℕ) → Agree E (s n) (t n)) →
    ((why : BookFault) → Agree E (x why) (y why)) → Agree E (on_shown a s x) (on_shown a t y)
shown_agrees E (answers.Shown n) s t x y good bad = good n
shown_agrees E (answers.Refused why) s t x y good bad = bad why
shown_agrees E _ s t x y good bad = (lost_agrees E)
