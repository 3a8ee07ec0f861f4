-- The first event of a piece, one event after another, and of two pieces side by side.
use Rattle.std.proofs.Common.{◌≡◌, true≢false, refl, ℕ, ◌+◌, ◌<◌, ◌≤◌, List, arith, sym, subst, inl, inr}
use Rattle.std.specs.Prelude.{Bool, true, false, not}
use Rattle.std.proofs.lemmas.Bool.{cases_eq, cases_lt, false≢true}
use Rattle.history_core.specs.declared.event.Event.{Event}
use Rattle.order_test.specs.Unkept.{IsKeptAt, IsKeptBelow}
use Rattle.wide_check.specs.Pieces.{AreKeptFrom, IsFirstUnkeptIn}

pub not_true : (b : Bool) → not b ≡ true → b ≡ true → ⊥
not_true true h is = false≢true h
not_true false h is = false≢true is

pub not_false : (b : Bool) → not b ≡ false → b ≡ true
not_false true h = refl
not_false false h = absurd (true≢false h)

pub none_yet : (events : List Event) (order : List ℕ) (from : ℕ) → AreKeptFrom events order from from
none_yet events order from place low high = absurd (omega arith)

pub one_more : (events : List Event) (order : List ℕ) (from n : ℕ) → IsKeptAt events order n → AreKeptFrom events order from n → AreKeptFrom events order from (n + 1)
one_more events order from n here before place low high =
    elim (cases_eq place n) [
      | inl same ↦ subst (λ (m : ℕ). IsKeptAt events order m) (sym same) here
      | inr other ↦ before place low (omega arith)
    ]

pub found_here :
    (events : List Event) (order : List ℕ) (from to n : ℕ) → from ≤ n → n < to → AreKeptFrom events order from n → (IsKeptAt events order n → ⊥) → IsFirstUnkeptIn events order from to n
found_here events order from to n after within before unkept = record { after = after; within = omega arith; before = before; unkept = λ less. unkept }

pub none_found : (events : List Event) (order : List ℕ) (from to n : ℕ) → from ≤ n → to ≤ n → n ≤ to → AreKeptFrom events order from n → IsFirstUnkeptIn events order from to to
none_found events order from to n after end within before = record {
  after = omega arith;
  within = omega arith;
  before = λ place low high. before place low (omega arith);
  unkept = λ less. absurd (omega arith);
}

-- where the first piece has none, the first of the second one is the first of both
pub found_late :
    (events : List Event) (order : List ℕ) (from middle to first second : ℕ) → middle ≤ first → IsFirstUnkeptIn events order from middle first →
    IsFirstUnkeptIn events order middle to second → IsFirstUnkeptIn events order from to second
found_late events order from middle to first second end early late = record {
  after = let low = early.after in let high = early.within in let after = late.after in omega arith;
  within = late.within;
  before = λ place above below.
      elim (cases_lt place middle) [
        | inl inside ↦ early.before place above (omega arith)
        | inr beyond ↦ late.before place beyond below
      ];
  unkept = late.unkept;
}

-- what is kept before a piece and in it
pub kept_on :
    (events : List Event) (order : List ℕ) (from to first : ℕ) → IsKeptBelow events order from → IsFirstUnkeptIn events order from to first → IsKeptBelow events order first
kept_on events order from to first before piece place below =
    elim (cases_lt place from) [
      | inl early ↦ before place early
      | inr late ↦ piece.before place late below
    ]
