-- What a script does to an end that the client says.
use Rattle.std.proofs.Common.{◌≡◌, inl, inr, Bool, true, false, cond, ℕ, List, [], ◌∷◌, ◌++◌, length, refl, sym, ◌∙◌, ap, subst, append_assoc, ◌==◌}
use Rattle.std.proofs.lemmas.Bool.{cond_both}
use Rattle.cell_base.specs.declared.key.Key.{Key}
use Rattle.cell_base.specs.declared.value.Value.{Value}
use Rattle.sql_tree.specs.declared.table.Table.{Table}
use Rattle.history_core.specs.declared.event.Event.{Event}
use Rattle.history_core.specs.declared.fault.BookFault.{BookFault}
use Rattle.history_core.specs.declared.fault.DefineAnswer.TheVariants as defines
use Rattle.block_machine.specs.Calls.{Call}
use Rattle.block_machine.specs.Script.{Entry, did, refused, short, unsent, stop, Said, Next, call, ended, astray, with_bytes, with_call, Script, lost, ask, tell, unless_unsent, unless_short, on_opened, on_looked, on_defined, on_begun, on_listed, on_found, on_written, on_shown}
use Rattle.block_machine.specs.declared.call.Answer.{Answer}
use Rattle.block_machine.specs.declared.call.Answer.TheVariants as answers
use Rattle.block_machine.specs.declared.end.End.{End}
use Rattle.block_machine.specs.declared.end.End.TheVariants as ends
use Rattle.session_laws.proofs.EndScripts.{Why, Is, Holds, EndsIn}
use Rattle.session_laws.specs.Acts.{Act, tells, asks, meets, entries_of, bytes_of, calls_of}
use Rattle.session_laws.specs.Replies.{Gives}
use Rattle.session_laws.specs.Conversations.{IsClientsEnd}

-- ---- what a script does

-- acts of which this holds hold all that is said after what was said, and the entries
pub record Does (R : List Act → Type 0) (said : Said) (entries : List Entry) (all : Said) : Type 0 where
  pub acts : List Act
  pub entries_are : entries ≡ entries_of acts
  pub bytes_are : all.bytes ≡ said.bytes ++ bytes_of acts
  pub calls_are : all.calls ≡ said.calls ++ calls_of acts
  pub holds : R acts

pub record Told (R : List Act → Type 0) (script : Script) : Type 0 where
  pub at : (said : Said) (entries : List Entry) (all : Said) (end : End) → script said entries ≡ (all, ended end) → IsClientsEnd end → Does R said entries all

-- this holds of what was done before and of what is done
abbrev pub On : (List Act → Type 0) → List Act → List Act → Type 0
On R done = λ more. R (done ++ more)

-- it does this where it does that
pub told_more : (R S : List Act → Type 0) → ((acts : List Act) → R acts → S acts) → (script : Script) → Told R script → Told S script
told_more R S more script h = record {
  at = λ said entries all end is good.
      let t = h.at said entries all end is good in
      record { acts = t.acts; entries_are = t.entries_are; bytes_are = t.bytes_are; calls_are = t.calls_are; holds = more t.acts t.holds };
}

-- the session hasn't ended
abbrev pub IsOver : Next → Type 0
IsOver (ended end) = Unit {0}
IsOver _ = ⊥

not_over : (it : Said × Next) (all : Said) (end : End) → (IsOver it.1 → ⊥) → it ≡ (all, ended end) → ⊥
not_over it all end never is = never (subst (λ (x : Said × Next). IsOver x.1) (sym is) tt)

pub lost_told : (R : List Act → Type 0) → Told R lost
lost_told R = record { at = λ said entries all end is good. absurd (not_over (said, astray) all end (λ over. over) is) }

-- a script that ends in other ways alone
abbrev pub Otherwise : Why
Otherwise end entries = IsClientsEnd end → ⊥

never_so : (script : Script) → EndsIn Otherwise script → (said : Said) (entries : List Entry) (all : Said) (end : End) → script said entries ≡ (all, ended end) →
    IsClientsEnd end → ⊥
never_so script h said entries all end is good = subst (λ (x : Said × Next). Holds Otherwise entries x.1) is (h.at said entries) good

pub otherwise_told : (R : List Act → Type 0) (script : Script) → EndsIn Otherwise script → Told R script
otherwise_told R script h = record { at = λ said entries all end is good. absurd (never_so script h said entries all end is good) }

-- ---- a call

-- the entry of a call, and then what is done after it
asked : (R : List Act → Type 0) (done : List Act) (c : Call) (entry : Entry) (said : Said) (entries : List Entry) (all : Said) →
    Does (On R (done ++ asks c entry ∷ [])) (with_call said c) entries all → Does (On R done) said (entry ∷ entries) all
asked R done c entry said entries all t = record {
  acts = asks c entry ∷ t.acts;
  entries_are = ap (λ (x : List Entry). entry ∷ x) t.entries_are;
  bytes_are = t.bytes_are;
  calls_are = t.calls_are ∙ append_assoc said.calls (c ∷ []) (calls_of t.acts);
  holds = subst (λ (x : List Act). R x) (append_assoc done (asks c entry ∷ []) t.acts) t.holds;
}

ask_at : (R : List Act → Type 0) (done : List Act) (c : Call) (rest : Answer → Script)
    → ((entry : Entry) (a : Answer) → Gives entry a → Told (On R (done ++ asks c entry ∷ [])) (rest a)) → (said : Said) (entries : List Entry) (all : Said)
    (end : End) → ask c rest said entries ≡ (all, ended end) → IsClientsEnd end → Does (On R done) said entries all
ask_at R done c rest h said [] all end is good = absurd (not_over (said, call c) all end (λ over. over) is)
ask_at R done c rest h said (did a e ∷ entries) all end is good =
    asked R done c (did a e) said entries all ((h (did a e) a refl).at (with_call said c) entries all end is good)
ask_at R done c rest h said (refused why ∷ entries) all end is good =
    asked R done c (refused why) said entries all ((h (refused why) (answers.Refused why) refl).at (with_call said c) entries all end is good)
ask_at R done c rest h said (short final n ∷ entries) all end is good = absurd (not_over (said, astray) all end (λ over. over) is)
ask_at R done c rest h said (unsent n ∷ entries) all end is good = absurd (not_over (said, astray) all end (λ over. over) is)
ask_at R done c rest h said (stop cause ∷ entries) all end is good = absurd (not_over (said, astray) all end (λ over. over) is)

pub ask_told : (R : List Act → Type 0) (done : List Act) (c : Call) (rest : Answer → Script)
    → ((entry : Entry) (a : Answer) → Gives entry a → Told (On R (done ++ asks c entry ∷ [])) (rest a)) → Told (On R done) (ask c rest)
ask_told R done c rest h = record { at = ask_at R done c rest h }

-- ---- bytes

-- the end of a failed write is none of the client's
never_unsent : (it : Said × Next) (entries : List Entry) (all : Said) (end : End) → Holds (Is ends.WriteFault) entries it.1 → it ≡ (all, ended end) → IsClientsEnd end → ⊥
never_unsent it entries all end h is good =
    let clash : end ≡ ends.WriteFault = subst (λ (x : Said × Next). Holds (Is ends.WriteFault) entries x.1) is h in
    subst (λ (x : End). IsClientsEnd x) clash good

unsent_at : (R : List Act → Type 0) (before : ℕ) (fault rest : Script) → EndsIn (Is ends.WriteFault) fault → Told R rest → (said : Said) (entries : List Entry) (all : Said)
    (end : End) → unless_unsent before fault rest said entries ≡ (all, ended end) → IsClientsEnd end → Does R said entries all
unsent_at R before fault rest bad h said [] all end is good = h.at said [] all end is good
unsent_at R before fault rest bad h said (did a e ∷ entries) all end is good = h.at said (did a e ∷ entries) all end is good
unsent_at R before fault rest bad h said (refused why ∷ entries) all end is good = h.at said (refused why ∷ entries) all end is good
unsent_at R before fault rest bad h said (short final n ∷ entries) all end is good = h.at said (short final n ∷ entries) all end is good
unsent_at R before fault rest bad h said (unsent n ∷ entries) all end is good =
    cond_both (n == before) (fault said entries) (rest said (unsent n ∷ entries)) (λ (x : Said × Next). x ≡ (all, ended end) → Does R said (unsent n ∷ entries) all)
    (λ _ same. absurd (never_unsent (fault said entries) entries all end (bad.at said entries) same good))
    (λ _ same. h.at said (unsent n ∷ entries) all end same good) is
unsent_at R before fault rest bad h said (stop cause ∷ entries) all end is good = h.at said (stop cause ∷ entries) all end is good

-- bytes, and then what follows
pub tell_told : (R S : List Act → Type 0) (bytes : List ℕ) (fault rest : Script) → EndsIn (Is ends.WriteFault) fault → ((more : List Act) → S more → R (tells bytes ∷ more)) →
    Told S rest → Told R (tell bytes fault rest)
tell_told R S bytes fault rest bad joins h = record {
  at = λ said entries all end is good.
      let t = unsent_at S (length said.bytes) fault rest bad h (with_bytes said bytes) entries all end is good in record {
        acts = tells bytes ∷ t.acts;
        entries_are = t.entries_are;
        bytes_are = t.bytes_are ∙ append_assoc said.bytes bytes (bytes_of t.acts);
        calls_are = t.calls_are;
        holds = joins t.acts t.holds;
      };
}

-- ---- a lack of memory

-- one that doesn't end the session, and then what is done after it
met : (R : List Act → Type 0) (done : List Act) (entry : Entry) (said : Said) (entries : List Entry) (all : Said) →
    Does (On R (done ++ meets entry ∷ [])) said entries all → Does (On R done) said (entry ∷ entries) all
met R done entry said entries all t = record {
  acts = meets entry ∷ t.acts;
  entries_are = ap (λ (x : List Entry). entry ∷ x) t.entries_are;
  bytes_are = t.bytes_are;
  calls_are = t.calls_are;
  holds = subst (λ (x : List Act). R x) (append_assoc done (meets entry ∷ []) t.acts) t.holds;
}

short_at : (R : List Act → Type 0) (done : List Act) (short_of rest : Script) → ((n : ℕ) → Told (On R (done ++ meets (short false n) ∷ [])) short_of) → Told (On R done) rest →
    (said : Said) (entries : List Entry) (all : Said) (end : End) → unless_short false short_of rest said entries ≡ (all, ended end) → IsClientsEnd end →
    Does (On R done) said entries all
short_at R done short_of rest lacks h said [] all end is good = h.at said [] all end is good
short_at R done short_of rest lacks h said (did a e ∷ entries) all end is good = h.at said (did a e ∷ entries) all end is good
short_at R done short_of rest lacks h said (refused why ∷ entries) all end is good = h.at said (refused why ∷ entries) all end is good
short_at R done short_of rest lacks h said (short true n ∷ entries) all end is good = h.at said (short true n ∷ entries) all end is good
short_at R done short_of rest lacks h said (short false n ∷ entries) all end is good =
    cond_both (n == length said.bytes) (short_of said entries) (rest said (short false n ∷ entries))
    (λ (x : Said × Next). x ≡ (all, ended end) → Does (On R done) said (short false n ∷ entries) all)
    (λ _ same. met R done (short false n) said entries all ((lacks n).at said entries all end same good))
    (λ _ same. h.at said (short false n ∷ entries) all end same good) is
short_at R done short_of rest lacks h said (unsent n ∷ entries) all end is good = h.at said (unsent n ∷ entries) all end is good
short_at R done short_of rest lacks h said (stop cause ∷ entries) all end is good = h.at said (stop cause ∷ entries) all end is good

pub short_told : (R : List Act → Type 0) (done : List Act) (short_of rest : Script) → ((n : ℕ) → Told (On R (done ++ meets (short false n) ∷ [])) short_of) →
    Told (On R done) rest → Told (On R done) (unless_short false short_of rest)
short_told R done short_of rest lacks h = record { at = short_at R done short_of rest lacks h }

-- one that ends the session
final_at : (R : List Act → Type 0) (short_of rest : Script) → EndsIn Otherwise short_of → Told R rest → (said : Said) (entries : List Entry) (all : Said) (end : End) →
    unless_short true short_of rest said entries ≡ (all, ended end) → IsClientsEnd end → Does R said entries all
final_at R short_of rest bad h said [] all end is good = h.at said [] all end is good
final_at R short_of rest bad h said (did a e ∷ entries) all end is good = h.at said (did a e ∷ entries) all end is good
final_at R short_of rest bad h said (refused why ∷ entries) all end is good = h.at said (refused why ∷ entries) all end is good
final_at R short_of rest bad h said (short true n ∷ entries) all end is good =
    cond_both (n == length said.bytes) (short_of said entries) (rest said (short true n ∷ entries))
    (λ (x : Said × Next). x ≡ (all, ended end) → Does R said (short true n ∷ entries) all)
    (λ _ same. absurd (never_so short_of bad said entries all end same good))
    (λ _ same. h.at said (short true n ∷ entries) all end same good) is
final_at R short_of rest bad h said (short false n ∷ entries) all end is good = h.at said (short false n ∷ entries) all end is good
final_at R short_of rest bad h said (unsent n ∷ entries) all end is good = h.at said (unsent n ∷ entries) all end is good
final_at R short_of rest bad h said (stop cause ∷ entries) all end is good = h.at said (stop cause ∷ entries) all end is good

pub final_told : (R : List Act → Type 0) (short_of rest : Script) → EndsIn Otherwise short_of → Told R rest → Told R (unless_short true short_of rest)
final_told R short_of rest bad h = record { at = final_at R short_of rest bad h }

-- ---- by the answer

pub opened_told : (R : List Act → Type 0) (entry : Entry) (good : ℕ → Script) (bad : BookFault → Script) →
    ((session : ℕ) → Gives entry (answers.Opened session) → Told R (good session)) → ((why : BookFault) → Gives entry (answers.Refused why) → Told R (bad why)) →
    (a : Answer) → Gives entry a → Told R (on_opened a good bad)
opened_told R entry good bad one other (answers.Opened session) gives = one session gives
opened_told R entry good bad one other (answers.Refused why) gives = other why gives
opened_told R entry good bad one other _ gives = lost_told R

pub looked_told : (R : List Act → Type 0) (entry : Entry) (good : List Table → Script) (bad : BookFault → Script) →
    ((tables : List Table) → Gives entry (answers.Looked tables) → Told R (good tables)) →
    ((why : BookFault) → Gives entry (answers.Refused why) → Told R (bad why)) → (a : Answer) → Gives entry a → Told R (on_looked a good bad)
looked_told R entry good bad one other (answers.Looked tables) gives = one tables gives
looked_told R entry good bad one other (answers.Refused why) gives = other why gives
looked_told R entry good bad one other _ gives = lost_told R

pub defined_told : (R : List Act → Type 0) (entry : Entry) (good taken : Script) (bad : BookFault → Script) →
    ((n : ℕ) → Gives entry (answers.Defined (defines.Defined n)) → Told R good) → ((n : ℕ) → Gives entry (answers.Defined (defines.Taken n)) → Told R taken) →
    ((why : BookFault) → Gives entry (answers.Refused why) → Told R (bad why)) → (a : Answer) → Gives entry a → Told R (on_defined a good taken bad)
defined_told R entry good taken bad one two other (answers.Defined (defines.Defined n)) gives = one n gives
defined_told R entry good taken bad one two other (answers.Defined (defines.Taken n)) gives = two n gives
defined_told R entry good taken bad one two other (answers.Refused why) gives = other why gives
defined_told R entry good taken bad one two other _ gives = lost_told R

pub begun_told : (R : List Act → Type 0) (entry : Entry) (good : Script) (bad : BookFault → Script) →
    ((n : ℕ) → Gives entry (answers.Begun n) → Told R good) → ((why : BookFault) → Gives entry (answers.Refused why) → Told R (bad why)) →
    (a : Answer) → Gives entry a → Told R (on_begun a good bad)
begun_told R entry good bad one other (answers.Begun n) gives = one n gives
begun_told R entry good bad one other (answers.Refused why) gives = other why gives
begun_told R entry good bad one other _ gives = lost_told R

pub listed_told : (R : List Act → Type 0) (entry : Entry) (good : List Key → Script) (bad : BookFault → Script) →
    ((keys : List Key) → Gives entry (answers.Listed keys) → Told R (good keys)) → ((why : BookFault) → Gives entry (answers.Refused why) → Told R (bad why)) →
    (a : Answer) → Gives entry a → Told R (on_listed a good bad)
listed_told R entry good bad one other (answers.Listed keys) gives = one keys gives
listed_told R entry good bad one other (answers.Refused why) gives = other why gives
listed_told R entry good bad one other _ gives = lost_told R

pub found_told : (R : List Act → Type 0) (entry : Entry) (good : Value → Script) (bad : BookFault → Script) →
    ((value : Value) → Gives entry (answers.Found value) → Told R (good value)) → ((why : BookFault) → Gives entry (answers.Refused why) → Told R (bad why)) →
    (a : Answer) → Gives entry a → Told R (on_found a good bad)
found_told R entry good bad one other (answers.Found value) gives = one value gives
found_told R entry good bad one other (answers.Refused why) gives = other why gives
found_told R entry good bad one other _ gives = lost_told R

pub written_told : (R : List Act → Type 0) (entry : Entry) (good : Script) (bad : BookFault → Script) →
    (Gives entry answers.Written → Told R good) → ((why : BookFault) → Gives entry (answers.Refused why) → Told R (bad why)) →
    (a : Answer) → Gives entry a → Told R (on_written a good bad)
written_told R entry good bad one other answers.Written gives = one gives
written_told R entry good bad one other (answers.Refused why) gives = other why gives
written_told R entry good bad one other _ gives = lost_told R

pub shown_told : (R : List Act → Type 0) (entry : Entry) (good : ℕ → Script) (bad : BookFault → Script) →
    ((n : ℕ) → Gives entry (answers.Shown n) → Told R (good n)) → ((why : BookFault) → Gives entry (answers.Refused why) → Told R (bad why)) →
    (a : Answer) → Gives entry a → Told R (on_shown a good bad)
shown_told R entry good bad one other (answers.Shown n) gives = one n gives
shown_told R entry good bad one other (answers.Refused why) gives = other why gives
shown_told R entry good bad one other _ gives = lost_told R
