-- A pass that has noted nothing stands for no events.
use Rattle.std.proofs.Common.{◌≡◌, ℕ, List, [], ◌∷◌, Some, length, get_or, arith, refl, ap, sym, ◌∙◌, subst}
use Rattle.std.specs.List.{slice_get}
use Rattle.history_core.specs.declared.event.Event.{Event}
use Rattle.history_core.specs.declared.event.Event.TheVariants.{Write}
use Rattle.further_reads.specs.Begun.{IsLastBegun}
use Rattle.further_reads.proofs.Lasts.{last_begun_none}
use Rattle.cell_writers.proofs.Numbering.{numbered_none}
use Rattle.order_test.specs.Places.{ArePlaces}
use Rattle.order_test.specs.Glance.{HoldsLast}
use Rattle.order_test.proofs.GlanceLemmas.{keeps_none}
use Rattle.history_check.proofs.CellSteps.{cells_none}
use Rattle.history_check.proofs.Orderly.{none_settled}
use Rattle.right_logs.specs.declared.pass.Pass.{Pass}
use Rattle.right_logs.specs.declared.txn_notes.TxnNote.{TxnNote}
use Rattle.right_logs.specs.Standing.{AreHighest}
use Rattle.right_logs.specs.Passes.{StandsFor}
use Rattle.right_logs.proofs.Sights.{sights_none}

none_in : {X : Type 0} (xs : List X) → xs ≡ [] → (k : ℕ) (x : X) → slice_get xs k ≡ Some x → ⊥
none_in {X} xs none k x is = let there = subst (λ (ys : List X). slice_get ys k ≡ Some x) none is in cc

no_event : (k : ℕ) (e : Event) → slice_get [] k ≡ Some e → ⊥
no_event k e is = cc

pub record IsBlank (places : List ℕ) (pass : Pass) : Type 0 where
  pub session_notes : pass.session_notes.items ≡ []
  pub pending : pass.pending.items ≡ []
  pub committed : pass.committed.items ≡ []
  pub names_are : pass.names.items ≡ []
  pub keys : pass.cells.numbers.cells.keys ≡ []
  pub of_events : pass.cells.numbers.of_events.items ≡ []
  pub notes : pass.cells.notes.items ≡ []
  pub values : pass.values ≡ []
  pub last : pass.last.items ≡ 0 ∷ []
  pub first : TxnNote
  pub txns : pass.txns.items ≡ first ∷ []
  pub clock : first.clock.items ≡ []
  pub highest : AreHighest places pass.highest.items
  pub reads : pass.reads.items ≡ []

-- there is room for one session, which has begun nothing
none_begun : (last : List ℕ) → last ≡ 0 ∷ [] → HoldsLast [] last
none_begun last lasts =
    let first : List ℕ = 0 ∷ [] in
    let one : length first ≡ 1 = refl in
    subst (λ (xs : List ℕ). HoldsLast [] xs) (sym lasts) record {
      some = omega arith;
      within = λ k event is. cc;
      each = λ s small.
          let number : s ≡ 0 = omega arith in
          let zero : get_or first s 0 ≡ 0 = ap (λ (i : ℕ). get_or first i 0) number in
          subst (λ (n : ℕ). IsLastBegun [] s n) (sym zero) (last_begun_none s);
    }

pub blank_stands : (order places : List ℕ) (pass : Pass) → ArePlaces (length places) order places → IsBlank places pass → StandsFor order places [] pass
blank_stands order places pass placed blank = record {
  placed = placed;
  right = λ k e under is. absurd (no_event k e is);
  settled = none_settled;
  sessions = λ k e is. absurd (no_event k e is);
  session_notes = record { count = ap length blank.session_notes; each = λ i note is. absurd (none_in pass.session_notes.items blank.session_notes i note is) };
  pending = record { count = ap length blank.pending; each = λ i writes is. absurd (none_in pass.pending.items blank.pending i writes is) };
  commits = record { count = ap length blank.committed; each = λ i flag is. absurd (none_in pass.committed.items blank.committed i flag is) };
  names_are = blank.names_are;
  tables = ap length blank.names_are;
  numbered = numbered_none pass.cells.numbers blank.of_events blank.keys;
  cells =
      cells_none pass.cells.numbers.cells.keys pass.cells.notes.items (ap length blank.notes ∙ sym (ap length blank.keys))
      (λ i note is. absurd (none_in pass.cells.notes.items blank.notes i note is));
  values = record { count = ap length blank.values; each = λ k s cell value is. absurd (no_event k (Write s cell value) is) };
  room = ap length blank.last;
  last = none_begun pass.last.items blank.last;
  keeps = keeps_none order;
  no_scan = λ k e is scan. no_event k e is;
  sights = sights_none places pass blank.first blank.txns blank.clock blank.reads blank.highest;
}
