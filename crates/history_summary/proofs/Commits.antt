-- The latest writers, before an event and after it.
use Rattle.std.proofs.Common.{◌≡◌, ℕ, ◌+◌, ◌<◌, ◌≤◌, List, Some, arith, sym, ◌∙◌, subst, inl, inr}
use Rattle.std.specs.List.{slice_get}
use Rattle.std.proofs.lemmas.Bool.{cases_lt}
use Rattle.cell_base.specs.declared.cell.Cell.{Cell}
use Rattle.cell_base.specs.declared.value.Value.{Value}
use Rattle.history_core.specs.declared.event.Event.{Event}
use Rattle.history_core.specs.declared.event.Event.TheVariants.{Commit}
use Rattle.history_core.specs.Transactions.{IsOf}
use Rattle.history_core.specs.Relations.{HasWritten}
use Rattle.history_core.specs.Legal.{IsFormed}
use Rattle.history_summary.specs.declared.latest.Latest.{Latest}
use Rattle.history_summary.specs.Latest.{CommitsWrite, IsLatest}
use Rattle.history_summary.specs.Walk.{writer_at, TakesCells, AreLatest}
use Rattle.history_summary.proofs.Prefixes.{one_commits}

-- no writer of the cell commits at the place
abbrev NoneAt : List Event → ℕ → Cell → Type 0
NoneAt events place cell = (number : ℕ) → CommitsWrite events number cell place → ⊥

earlier : (events : List Event) (k : ℕ) (cell : Cell) → NoneAt events k cell → (m q : ℕ) → q < k + 1 → CommitsWrite events m cell q → q < k
earlier events k cell none m q below commits =
    elim (cases_lt q k) [
      | inl less ↦ less
      | inr more ↦ let same : q ≡ k = omega arith in absurd (none m (subst (λ (p : ℕ). CommitsWrite events m cell p) same commits))
    ]

latest_next : (events : List Event) (k : ℕ) (cell : Cell) (w : ℕ) → NoneAt events k cell → IsLatest events k cell w → IsLatest events (k + 1) cell w
latest_next events k cell w none (inl last) =
    let before = last.before in
    inl record {
      commit_place = last.commit_place;
      before = omega arith;
      commits = last.commits;
      last = λ m q below commits. last.last m q (earlier events k cell none m q below commits) commits;
    }
latest_next events k cell w none (inr zero_none) =
    inr (zero_none.0, λ m q below commits. zero_none.1 m q (earlier events k cell none m q below commits) commits)

pub latest_first : (events : List Event) (latest : Latest) → ((cell : Cell) → writer_at latest cell ≡ 0) → AreLatest events 0 latest
latest_first events latest none cell = inr (none cell, λ m q below commits. absurd (omega arith))

-- an event that is no commit
pub latest_still :
    (events : List Event) (k : ℕ) (e : Event) (latest : Latest) → slice_get events k ≡ Some e → ((s : ℕ) → e ≡ Commit s → ⊥) → AreLatest events k latest →
    AreLatest events (k + 1) latest
latest_still events k e latest is none are cell =
    latest_next events k cell (writer_at latest cell)
    (λ m commits.
    let both : Some e ≡ Some (Commit commits.session) = sym is ∙ commits.commit.is in
    let same : e ≡ Commit commits.session = cc in
    none commits.session same)
    (are cell)

-- a commit
pub latest_commit :
    (initial : List (Cell × Value)) (events : List Event) (k n s : ℕ) (old new : Latest) → IsFormed initial events → IsOf events n k (Commit s) →
    TakesCells events n old new → AreLatest events k old → AreLatest events (k + 1) new
latest_commit initial events k n s old new formed commit takes are cell =
    elim (takes cell) [
      | inl here ↦ inl record {
        commit_place = k;
        before = omega arith;
        commits = subst (λ (w : ℕ). CommitsWrite events w cell k) (sym here.1) (record { session = s; commit = commit; written = here.0 });
        last = λ m q below commits. omega arith;
      }
      | inr apart ↦ subst (λ (w : ℕ). IsLatest events (k + 1) cell w) (sym apart.1)
          (latest_next events k cell (writer_at old cell)
          (λ m commits.
          let same : m ≡ n = one_commits initial events k m n commits.session s formed commits.commit commit in
          apart.0 (subst (λ (u : ℕ). HasWritten events u cell) same commits.written))
          (are cell))
    ]

-- a cell has one latest writer at a place
pub latest_unique :
    (initial : List (Cell × Value)) (events : List Event) (k : ℕ) (cell : Cell) (a b : ℕ) → IsFormed initial events → IsLatest events k cell a →
    IsLatest events k cell b → a ≡ b
latest_unique initial events k cell a b formed (inl first) (inl second) =
    let below : first.commit_place ≤ second.commit_place = second.last a first.commit_place first.before first.commits in
    let above : second.commit_place ≤ first.commit_place = first.last b second.commit_place second.before second.commits in
    let same : first.commit_place ≡ second.commit_place = omega arith in
    one_commits initial events second.commit_place a b first.commits.session second.commits.session formed
    (subst (λ (p : ℕ). IsOf events a p (Commit first.commits.session)) same first.commits.commit) second.commits.commit
latest_unique initial events k cell a b formed (inl first) (inr none) = absurd (none.1 a first.commit_place first.before first.commits)
latest_unique initial events k cell a b formed (inr none) (inl second) = absurd (none.1 b second.commit_place second.before second.commits)
latest_unique initial events k cell a b formed (inr first) (inr second) = first.0 ∙ sym second.0
