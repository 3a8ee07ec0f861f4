-- Each call of a book owns all events that come.
use Rattle.std.proofs.Common.{◌≡◌, ℕ, List, [], ◌∷◌, ◌++◌, Ok, Err, Result, ap, sym, ◌∙◌}
use Rattle.std.specs.Prelude.{IfOk, OnOk, OnErr}
use Rattle.std.proofs.lemmas.List.{append-nil}
use Rattle.sql_tree.specs.declared.table.Table.{Table}
use Rattle.history_core.specs.declared.event.Event.{Event}
use Rattle.history_core.specs.declared.event.Event.TheVariants.{Define, Look}
use Rattle.history_core.specs.declared.fault.DefineAnswer.{DefineAnswer}
use Rattle.history_core.specs.declared.fault.DefineAnswer.TheVariants.{Defined, Taken}
use Rattle.history_core.specs.Chronicle.{Chronicle}
use Rattle.valid_writes.specs.declared.desk.Stage.{Stage}
use Rattle.valid_writes.specs.declared.desk.Desk.{Desk}
use Rattle.valid_writes.specs.Desk.{own_since, past_of, IsDesk, GoesTo, Stays, AnswersTo}
use Rattle.valid_writes.specs.Owning.{OwnsAllThatComes}
use Rattle.valid_writes.proofs.Told.{own_since_same, own_goes}

owns_one :
    (old new : Desk) (e : Event) → IsDesk old → new.store.history.events ≡ old.store.history.events ++ e ∷ [] → new.given ≡ old.given → new.from ≡ old.from →
    OwnsAllThatComes (past_of old) (past_of new)
owns_one old new e was events given from = record {
  added = e ∷ [];
  seen = events;
  own = own_since_same old new given from ∙ ap (λ (es : List Event). own_since old.given old.from es) events
      ∙ own_goes old.given old.from old.store.history.events e was.from;
}

pub owns_goes : (old new : Desk) (e : Event) (s : ℕ) (stage : Stage) → IsDesk old → GoesTo old e s stage new → OwnsAllThatComes (past_of old) (past_of new)
owns_goes old new e s stage was goes = owns_one old new e was (ap (λ (h : Chronicle). h.events) goes.history) goes.given goes.from

pub owns_same : (old new : Desk) → Stays old new → OwnsAllThatComes (past_of old) (past_of new)
owns_same old new same = record {
  added = [];
  seen = ap (λ (h : Chronicle). h.events) same.history ∙ sym (append-nil old.store.history.events);
  own = own_since_same old new same.given same.from ∙ ap (λ (h : Chronicle). own_since old.given old.from h.events) same.history
      ∙ sym (append-nil (own_since old.given old.from old.store.history.events));
}

pub owns_answers : (old new : Desk) (table : Table) (answer : DefineAnswer) → IsDesk old → AnswersTo old table answer new → OwnsAllThatComes (past_of old) (past_of new)
owns_answers old new table (Defined n) was (count, defines) =
    owns_one old new (Define old.session table.name) was (ap (λ (h : Chronicle). h.events) defines.history) defines.given defines.from
owns_answers old new table (Taken n) was (count, member, goes) = owns_goes old new (Look old.session n) old.session old.stage was goes

-- a call that answers, or is refused
pub owns_if :
    {A E : Type 0} (old new : Desk) (P : A → Type 0) (r : Result A E) → ((a : A) → P a → OwnsAllThatComes (past_of old) (past_of new)) →
    IfOk r P → OnErr r (Stays old new) → OwnsAllThatComes (past_of old) (past_of new)
owns_if old new P (Ok a) f h same = f a h
owns_if old new P (Err e) f h same = owns_same old new same

pub owns_on :
    {A E : Type 0} (old new : Desk) (P : Type 0) (r : Result A E) → (P → OwnsAllThatComes (past_of old) (past_of new)) →
    OnOk r P → OnErr r (Stays old new) → OwnsAllThatComes (past_of old) (past_of new)
owns_on old new P (Ok a) f h same = f h
owns_on old new P (Err e) f h same = owns_same old new same
