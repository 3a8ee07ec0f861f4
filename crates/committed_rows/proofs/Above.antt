-- The newest values of the committed transactions above a limit, as the limit goes down.
use Rattle.std.proofs.Common.{◌≡◌, ℕ, ◌+◌, ◌<◌, List, Some, None, arith, sym, ◌∙◌, subst, inl, inr}
use Rattle.std.specs.Prelude.{IsSome}
use Rattle.std.proofs.lemmas.Bool.{cases_lt}
use Rattle.cell_base.specs.declared.cell.Cell.{Cell}
use Rattle.cell_base.specs.declared.value.Value.{Value}
use Rattle.history_core.specs.declared.event.Event.{Event}
use Rattle.history_core.specs.declared.txn.Txn.{Txn}
use Rattle.history_core.specs.declared.txn.TxnState.TheVariants.{Committed}
use Rattle.history_core.specs.Events.{begun}
use Rattle.history_core.specs.Records.{IsRecordOf}
use Rattle.history_core.specs.Transactions.{IsCommitted}
use Rattle.history_core.specs.Relations.{HasWritten, LastWrites}
use Rattle.history_core.proofs.Prefixes.{start_positive}
use Rattle.saturation.proofs.Sights.{none_written}
use Rattle.indexed_history.proofs.Indexes.{committed_bounded}
use Rattle.committed_rows.specs.declared.newest.Newest.{Newest}
use Rattle.committed_rows.specs.Walk.{value_at, Fills, AreNewestAbove}
use Rattle.committed_rows.proofs.Noted.{some_or_none, none_is_not_some, some_is, some_of}

pub has_written : (events : List Event) (n : ℕ) (q : Cell) (v : Value) → LastWrites events n q v → HasWritten events n q
has_written events n q v last = record { place = last.place; session = last.session; value = v; write = last.write }

pub committed_positive : (events : List Event) (n : ℕ) → IsCommitted events n → 0 < n
committed_positive events n committed = start_positive events n committed.session committed.commit.start committed.commit.starts

-- no transaction is above the last one
pub above_first : (events : List Event) (newest : Newest) → ((cell : Cell) → value_at newest cell ≡ None) → AreNewestAbove events (begun events) newest
above_first events newest empty = record {
  sound = λ q v e. let clash : None ≡ Some v = sym (empty q) ∙ e in cc;
  whole = λ q n above commits. let h = committed_bounded events n commits.0 in absurd (omega arith);
}

-- a transaction that hasn't committed
pub above_other : (events : List Event) (number limit : ℕ) (newest : Newest) → limit + 1 ≡ number → (IsCommitted events number → ⊥) →
    AreNewestAbove events number newest → AreNewestAbove events limit newest
above_other events number limit newest next not_committed above = record {
  sound = λ q v e. let found = above.sound q v e in (found.0, (let h = found.1 in omega arith), found.2, found.3, found.4);
  whole = λ q n over commits. above.whole q n (elim (cases_lt number n) [
    | inl more ↦ more
    | inr not_more ↦
        let same : n ≡ number = omega arith in
        absurd (not_committed (subst (λ (k : ℕ). IsCommitted events k) same commits.0))
  ]) commits;
}

-- a committed transaction, of which the record has these writes
pub above_committed : (events : List Event) (number limit : ℕ) (txn : Txn) (old new : Newest) → limit + 1 ≡ number → IsRecordOf events number txn →
    txn.state ≡ Committed → Fills old txn.buffer.writes new → AreNewestAbove events number old → AreNewestAbove events limit new
above_committed events number limit txn old new next is state fills above = record {
  sound = λ q v e. elim (fills.sound q v e) [
    | inl before ↦ let found = above.sound q v before in (found.0, (let h = found.1 in omega arith), found.2, found.3, found.4)
    | inr fresh ↦ (
      number,
      omega arith,
      is.committed.0 state,
      (is.writes q v).0 fresh.1,
      λ other commits. elim (cases_lt number other) [
        | inl more ↦ absurd (none_is_not_some (value_at old q) fresh.0 (above.whole q other more commits))
        | inr not_more ↦ omega arith
      ],
    )
  ];
  whole = λ q n over commits. some_or_none (IsSome (value_at new q)) (value_at new q)
      (λ v there. some_is (value_at new q) v there)
      (λ none. elim (cases_lt number n) [
        | inl more ↦
            let had = some_of (value_at old q) (above.whole q n more commits) in
            let clash : None ≡ Some had.0 = sym none ∙ fills.kept q had.0 had.1 in cc
        | inr not_more ↦
            let same : n ≡ number = omega arith in
            absurd (none_written events number q
            (λ v last. none_is_not_some (value_at new q) none (fills.whole q v ((is.writes q v).1 last)))
            (subst (λ (k : ℕ). HasWritten events k q) same commits.1))
      ]);
}
