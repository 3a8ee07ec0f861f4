-- How the notes of the transactions and of the reads go on standing for the events where a transaction ends: its reads are kept, so no later event can
-- break them, and they needn't be noted any more.
use Rattle.std.proofs.Common.{◌≡◌, ℕ, List, [], ◌∷◌, ◌++◌, Bool, true, false, IsTrue, sym, ◌∙◌, subst, inl, inr}
use Rattle.std.proofs.lemmas.Bool.{cases_eq}
use Rattle.history_core.specs.declared.event.Event.{Event}
use Rattle.history_core.specs.Events.{session_in, is_open_event, is_begin, is_end}
use Rattle.history_core.specs.Transactions.{IsPending}
use Rattle.history_core.proofs.SessionLemmas.{opened-push_other}
use Rattle.further_reads.specs.Begun.{ForcesNothing}
use Rattle.history_check.specs.Breaches.{AreRight}
use Rattle.right_logs.specs.declared.pass.Pass.{Pass}
use Rattle.right_logs.specs.declared.txn_notes.TxnNote.{TxnNote}
use Rattle.right_logs.specs.Clocks.{AreTxnNotes}
use Rattle.right_logs.specs.Judging.{IsKeptNow, AreKeptOf}
use Rattle.right_logs.specs.OpenReads.{AreReadsOf, ChangesReads, IsKeptRead}
use Rattle.right_logs.specs.Passes.{StandsForSights, StandsFor}
use Rattle.right_logs.specs.Standing.{AreHighest}
use Rattle.right_logs.proofs.ClockLemmas.{txns_other}
use Rattle.right_logs.proofs.Judged.{kept_from_notes}
use Rattle.right_logs.proofs.Settling.{settled_now}
use Rattle.right_logs.proofs.Sights.{KeepsCells, KeepReads, not_read, lists_count, reads_other, note_in, reads_after}

-- the session has no read any more; where all is met after that, it was before, and the reads of the transaction that ends are kept
pub record EndsSights (places : List ℕ) (s number : ℕ) (old new : Pass) : Type 0 where
  pub txns : new.txns.items ≡ old.txns.items
  pub clocked : new.clocked ≡ old.clocked
  pub highest : new.highest.items ≡ old.highest.items
  pub reads : ChangesReads old.reads.items s (λ before after. after ≡ []) new.reads.items
  pub met : IsTrue new.met → IsTrue old.met × AreKeptOf places old s number

-- a read of the session is settled by the event, and one of another session keeps its note
ends_keep :
    (order places : List ℕ) (events : List Event) (e : Event) (s number : ℕ) (old new : Pass) → ForcesNothing e → session_in e ≡ s → is_end e ≡ true → is_begin e ≡ false →
    IsPending events number s → ChangesReads old.reads.items s (λ before after. after ≡ []) new.reads.items →
    KeepsCells old.cells.numbers.cells.keys new.cells.numbers.cells.keys → IsTrue old.met → AreKeptOf places old s number → StandsFor order places events old →
    KeepReads places events e old.cells.numbers.cells.keys new.cells.numbers.cells.keys old.reads.items new.reads.items
ends_keep order places events e s number old new nothing session ending begins pending change kept met all stands place t cell w n u v has =
    elim (cases_eq t s) [
      | inl same ↦
          let own : AreReadsOf old.reads.items s has.reads = subst (λ (m : ℕ). AreReadsOf old.reads.items m has.reads) same has.are in
          let judged : (has.note.reader ≡ number) × IsKeptNow places old has.reads has.note = all has.reads own has.k has.note has.noted in
          let read : IsKeptRead places events place t cell w n u v number =
          kept_from_notes order places events old stands s number pending met has.reads own place t cell w n u v has.note has.of judged.0 judged.1
          in
          inr (settled_now places events e place t cell w n u v number s stands.settled nothing session ending begins pending read)
      | inr apart ↦
          inl (note_in events e old.cells.numbers.cells.keys new.cells.numbers.cells.keys old.reads.items new.reads.items place t cell w n u v kept has has.reads
          (reads_other old.reads.items new.reads.items s change t has.reads apart has.are) has.noted)
    ]

-- the pending transaction of the session ends
pub sights_end : (order places : List ℕ) (events : List Event) (e : Event) (s number : ℕ) (old new : Pass) → AreRight [] (events ++ e ∷ []) → ForcesNothing e → session_in e ≡ s →
    is_end e ≡ true → is_begin e ≡ false → is_open_event e ≡ false → IsPending events number s → EndsSights places s number old new →
    KeepsCells old.cells.numbers.cells.keys new.cells.numbers.cells.keys → StandsFor order places events old → StandsForSights places (events ++ e ∷ []) new
sights_end order places events e s number old new right nothing session ending begins opens pending ends kept stands =
    let sights : StandsForSights places events old = stands.sights in
    record {
      txns =
          subst (λ (notes : List TxnNote). AreTxnNotes (events ++ e ∷ []) new.clocked notes) (sym ends.txns)
          (subst (λ (clocked : Bool). AreTxnNotes (events ++ e ∷ []) clocked old.txns.items) (sym ends.clocked)
          (txns_other events e old.clocked old.txns.items nothing sights.txns));
      highest = subst (λ (highest : List ℕ). AreHighest places highest) (sym ends.highest) sights.highest;
      lists = lists_count old.reads.items new.reads.items s ends.reads ∙ sights.lists ∙ sym (opened-push_other events e opens);
      reads = λ met.
          let before : IsTrue old.met × AreKeptOf places old s number = ends.met met in
          reads_after places events e old.cells.numbers.cells.keys new.cells.numbers.cells.keys old.reads.items new.reads.items right (not_read e nothing)
          (ends_keep order places events e s number old new nothing session ending begins pending ends.reads kept before.0 before.1 stands) (sights.reads before.0);
    }
