-- What a touch says to a caller of the book.
use Rattle.std.proofs.Common.{◌≡◌, ◌≢◌, ℕ, List, Result, refl, sym, subst, inl, inr}
use Rattle.std.specs.Prelude.{IfOk, OnErr}
use Rattle.std.specs.List.{All, Any}
use Rattle.cell_base.specs.declared.cell.Cell.{Cell}
use Rattle.cell_base.specs.declared.value.Value.{Value}
use Rattle.history_core.specs.declared.event.Event.TheVariants.{Own}
use Rattle.history_core.specs.declared.fault.BookFault.{BookFault}
use Rattle.history_core.specs.Legal.{Follows, WroteItself}
use Rattle.history_book.specs.Book.{HasWrite, IsUnwritten, WritesLast, AnswersTouch}
use Rattle.valid_writes.specs.declared.desk.Stage.TheVariants.{Pending}
use Rattle.valid_writes.specs.declared.desk.Desk.{Desk}
use Rattle.valid_writes.specs.Desk.{last_writes, past_of, IsDesk, GoesTo, ReadsTo, Stays}
use Rattle.valid_writes.specs.Owning.{OwnsAllThatComes}
use Rattle.valid_writes.proofs.Alone.{owns_goes, owns_if}
use Rattle.valid_writes.proofs.Standing.{at_stage}
use Rattle.valid_writes.proofs.Told.{if_ok, writes_pending, pending_open, adds_in_session, call_state, reads_adds}
use Rattle.valid_writes.proofs.Writes.{all_other, noted_wrote, own_last, wrote_noted}

module _ (old : Desk) (cell : Cell) (was : IsDesk old) (is : old.stage ≡ Pending) where
  -- what the pending transaction wrote is noted
  has_write : WroteItself old.store.history.events old.session cell → HasWrite cell (past_of old).state
  has_write wrote =
      subst (λ (ws : List (Cell × Value)). Any (λ write. write.0 ≡ cell) ws)
      (sym (writes_pending old.stage old.session old.store.history.events is))
      (wrote_noted old.store.history.initial old.store.history.events old.session cell was.store.legal.legal.formed wrote)

  -- and what it didn't write is not
  has_none : (WroteItself old.store.history.events old.session cell → ⊥) → IsUnwritten cell (past_of old).state
  has_none none =
      let pending = (at_stage old.store.history old.session old.stage Pending is was.served).stands.1 in
      subst (λ (ws : List (Cell × Value)). All (λ write. write.0 ≢ cell) ws)
      (sym (writes_pending old.stage old.session old.store.history.events is))
      (all_other (last_writes old.store.history.events old.session) cell (λ noted.
      none (noted_wrote old.store.history.initial old.store.history.events old.session cell was.store.legal.legal.formed pending noted)))

  pub own_answers :
      {W : Type 0} (gives : W → ℕ → W → Type 0) (new : Desk) (words : W) (r : Result Value BookFault) →
      WroteItself old.store.history.events old.session cell →
      IfOk r (λ value. GoesTo old (Own old.session cell value) old.session Pending new) →
      IfOk r (λ value. Follows old.store.history.initial old.store.history.events (Own old.session cell value)) →
      AnswersTouch gives (past_of old) words cell r (past_of new) words
  own_answers gives new words r wrote goes follows = inl (
    record {
      written = has_write wrote;
      ok = if_ok _ _ r (λ value one. adds_in_session old new (λ n. Own n cell value) old.session Pending was (pending_open old.stage is) one) goes;
      last = if_ok _ _ r (λ value one. subst (λ (ws : List (Cell × Value)). WritesLast ws cell value)
          (sym (writes_pending old.stage old.session old.store.history.events is))
          (own_last old.store.history.initial old.store.history.events old.session cell value was.store.legal.legal.formed one)) follows;
    },
    refl,
  )

  pub read_answers :
      {W : Type 0} (gives : W → ℕ → W → Type 0) (new : Desk) (before after : W) (word : ℕ) (r : Result Value BookFault) →
      (WroteItself old.store.history.events old.session cell → ⊥) → gives before word after → IfOk r (λ value. ReadsTo old cell word value new) →
      AnswersTouch gives (past_of old) before cell r (past_of new) after
  read_answers gives new before after word r none drawn goes = inr (
    word,
    drawn,
    record {
      unwritten = has_none none;
      ok = if_ok _ _ r (λ value reads. reads_adds old new cell word value was is reads) goes;
    },
  )

  pub own_state :
      {E : Type 0} (new : Desk) (r : Result Value E) → IfOk r (λ value. GoesTo old (Own old.session cell value) old.session Pending new) →
      OnErr r (Stays old new) → (past_of new).state ≡ (past_of old).state
  own_state new r goes same =
      call_state old new (λ value. Own old.session cell value) Pending r (λ value. refl) (λ value writes. refl) is goes same

  pub own_owns :
      {E : Type 0} (new : Desk) (r : Result Value E) → IfOk r (λ value. GoesTo old (Own old.session cell value) old.session Pending new) →
      OnErr r (Stays old new) → OwnsAllThatComes (past_of old) (past_of new)
  own_owns new r goes same =
      owns_if old new (λ value. GoesTo old (Own old.session cell value) old.session Pending new) r
      (λ value one. owns_goes old new (Own old.session cell value) old.session Pending was one) goes same

  pub read_owns :
      {E : Type 0} (new : Desk) (word : ℕ) (r : Result Value E) → IfOk r (λ value. ReadsTo old cell word value new) →
      OnErr r (Stays old new) → OwnsAllThatComes (past_of old) (past_of new)
  read_owns new word r goes same =
      owns_if old new (λ value. ReadsTo old cell word value new) r
      (λ value reads. owns_goes old new _ old.session Pending was reads.goes) goes same
