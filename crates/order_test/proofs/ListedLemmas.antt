-- The committed writers of each cell, listed session by session, as the transactions come one after another.
use Rattle.std.proofs.Common.{◌≡◌, ℕ, ◌+◌, List, [], ◌∷◌, ◌++◌, length, set, Some, None, arith, ap, sym, ◌∙◌, subst, inl, inr, ◌⊎◌}
use Rattle.std.specs.List.{Contains, slice_get}
use Rattle.std.specs.List.Sorted.{IsStrictlyIncreasing}
use Rattle.std.proofs.lemmas.Bool.{cases_eq}
use Rattle.std.proofs.lemmas.List.{length-set}
use Rattle.std.proofs.lemmas.Option.{slice_get_within}
use Rattle.txn_buffer.proofs.Lists.{slice_get-set_same, slice_get-set_other, slice_get_push_cases}
use Rattle.cell_base.specs.declared.cell.Cell.{Cell}
use Rattle.cell_base.specs.declared.value.Value.{Value}
use Rattle.cell_writers.specs.declared.writers.CellWriters.{CellWriters}
use Rattle.cell_writers.specs.Writers.{numbers_at, AreAscending}
use Rattle.history_core.specs.declared.event.Event.{Event}
use Rattle.history_core.specs.declared.event.Event.TheVariants.{Begin}
use Rattle.history_core.specs.declared.txn.Txn.{Txn}
use Rattle.history_core.specs.declared.txn.TxnState.TheVariants.{Committed}
use Rattle.history_core.specs.Kept.{ChangesOne, StandsForTxns}
use Rattle.order_test.specs.Glance.{AreWithin}
use Rattle.order_test.specs.Listed.{AreEmpty, AreTxnsWithin, IsTxnOf, ListsCommitted, NotesWrites}

-- ---- the lists

pub lists_none : (txns : List Txn) (lists : List CellWriters) → AreEmpty lists → ListsCommitted txns 0 lists
lists_none txns lists empty = record {
  ascending = λ session writers is cell. subst IsStrictlyIncreasing (sym (empty session writers cell is)) (λ k within. absurd (omega arith));
  sound = λ session writers cell number is there.
      let none = subst (λ (ns : List ℕ). Contains ns number) (empty session writers cell is) there in
      let within = none.1 in absurd (omega arith);
  whole = λ place txn writers cell value below. absurd (omega arith);
}

of_more : (txns : List Txn) (n session number : ℕ) → IsTxnOf txns n session number → IsTxnOf txns (n + 1) session number
of_more txns n session number of = record {
  place = of.place;
  txn = of.txn;
  number_is = of.number_is;
  below = let b = of.below in omega arith;
  is = of.is;
  session_is = of.session_is;
}

-- a transaction that hasn't committed
pub lists_skip :
    (txns : List Txn) (n : ℕ) (txn : Txn) (lists : List CellWriters) → slice_get txns n ≡ Some txn → (txn.state ≡ Committed → ⊥) → ListsCommitted txns n lists →
    ListsCommitted txns (n + 1) lists
lists_skip txns n txn lists at none before = record {
  ascending = before.ascending;
  sound = λ session writers cell number is there. of_more txns n session number (before.sound session writers cell number is there);
  whole = λ place other writers cell value below is state member in_session. elim (cases_eq place n) [
    | inl same ↦
        let both : Some other ≡ Some txn = sym is ∙ ap (λ (k : ℕ). slice_get txns k) same ∙ at in
        let one : other ≡ txn = cc in
        absurd (none (ap (λ (t : Txn). t.state) (sym one) ∙ state))
    | inr apart ↦ before.whole place other writers cell value (omega arith) is state member in_session
  ];
}

-- one that has
pub lists_note :
    (txns : List Txn) (n : ℕ) (txn : Txn) (old new : List CellWriters) → slice_get txns n ≡ Some txn → ListsCommitted txns n old →
    ChangesOne old new txn.session (NotesWrites txn.buffer.writes (n + 1)) → ListsCommitted txns (n + 1) new
lists_note txns n txn old new at before changes = record {
  ascending = λ session writers is. elim (found session writers is) [
    | inl here ↦ subst AreAscending here.1 changes.changes.ascending
    | inr there ↦ before.ascending session writers there.1
  ];
  sound = λ session writers cell number is member. elim (found session writers is) [
    | inl here ↦
        elim ((changes.changes.gains cell number).0 (subst (λ (w : CellWriters). Contains (numbers_at w cell) number) (sym here.1) member)) [
          | inl was ↦
              of_more txns n session number
              (before.sound session changes.before cell number (subst (λ (s : ℕ). slice_get old s ≡ Some changes.before) (sym here.0) changes.is) was)
          | inr now ↦ record {
            place = n;
            txn = txn;
            number_is = sym now.1;
            below = omega arith;
            is = at;
            session_is = sym here.0;
          }
        ]
    | inr there ↦ of_more txns n session number (before.sound session writers cell number there.1 member)
  ];
  whole = λ place other writers cell value below is state member in_session. elim (found other.session writers in_session) [
    | inl here ↦ subst (λ (w : CellWriters). Contains (numbers_at w cell) (place + 1)) here.1 ((changes.changes.gains cell (place + 1)).1 (elim (cases_eq place n) [
      | inl same ↦
          let both : Some other ≡ Some txn = sym is ∙ ap (λ (k : ℕ). slice_get txns k) same ∙ at in
          let one : other ≡ txn = cc in
          inr ((value, subst (λ (t : Txn). Contains t.buffer.writes (cell, value)) one member), ap (λ (k : ℕ). k + 1) same)
      | inr apart ↦
          inl (before.whole place other changes.before cell value (omega arith) is state member
          (subst (λ (s : ℕ). slice_get old s ≡ Some changes.before) (sym here.0) changes.is))
    ]))
    | inr there ↦ elim (cases_eq place n) [
      | inl same ↦
          let both : Some other ≡ Some txn = sym is ∙ ap (λ (k : ℕ). slice_get txns k) same ∙ at in
          let one : other ≡ txn = cc in
          absurd (there.0 (ap (λ (t : Txn). t.session) one))
      | inr apart ↦ before.whole place other writers cell value (omega arith) is state member there.1
    ]
  ];
}
  where
    -- what stands in a session now is what was changed, or what stood there
    found : (session : ℕ) (writers : CellWriters) → slice_get new session ≡ Some writers →
        ((session ≡ txn.session) × (changes.after ≡ writers)) ⊎ ((session ≡ txn.session → ⊥) × (slice_get old session ≡ Some writers))
    found session writers is =
        let now : slice_get (set old txn.session changes.after) session ≡ Some writers = ap (λ (ls : List CellWriters). slice_get ls session) (sym changes.set_to) ∙ is in
        elim (cases_eq session txn.session) [
          | inl same ↦
              let within = slice_get_within old txn.session changes.before changes.is in
              let both : Some changes.after ≡ Some writers =
              sym (slice_get-set_same old txn.session changes.after within) ∙ ap (λ (k : ℕ). slice_get (set old txn.session changes.after) k) (sym same) ∙ now in
              let one : changes.after ≡ writers = cc in
              inl (same, one)
          | inr apart ↦ inr (apart, sym (slice_get-set_other old txn.session session changes.after apart) ∙ now)
        ]

-- ---- the sessions

-- each transaction has its past in the session of its record, which is below the width
pub txns_within : (events : List Event) (width : ℕ) (txns : List Txn) → AreWithin width events → StandsForTxns events txns → AreTxnsWithin width txns
txns_within events width txns within stands place txn is =
    let record_of = stands.each place txn is in
    within record_of.place (Begin txn.session record_of.started.level) record_of.started.is

-- ---- what a call changed

pub notes_as :
    (old new : List CellWriters) (session : ℕ) (written writes : List (Cell × Value)) (number next : ℕ) → written ≡ writes → number ≡ next →
    ChangesOne old new session (NotesWrites written number) → ChangesOne old new session (NotesWrites writes next)
notes_as old new session written writes number next same count changes =
    subst (λ (n : ℕ). ChangesOne old new session (NotesWrites writes n)) count
    (subst (λ (ws : List (Cell × Value)). ChangesOne old new session (NotesWrites ws number)) same changes)

pub changed_width : {Changes : CellWriters → CellWriters → Type 0} (old new : List CellWriters) (session : ℕ) → ChangesOne old new session Changes → length new ≡ length old
changed_width old new session changes = ap length changes.set_to ∙ length-set old session changes.after

pub empty_none : AreEmpty []
empty_none session writers cell is = let none : None ≡ Some writers = is in cc

pub empty_push : (lists : List CellWriters) (next : CellWriters) → ((cell : Cell) → numbers_at next cell ≡ []) → AreEmpty lists → AreEmpty (lists ++ next ∷ [])
empty_push lists next none empty session writers cell is =
    elim (slice_get_push_cases lists next session writers is) [
      | inl before ↦ empty session writers cell before.1
      | inr last ↦ subst (λ (w : CellWriters). numbers_at w cell ≡ []) last.1 (none cell)
    ]
