-- The pending transactions, before an event and after it.
use Rattle.std.proofs.Common.{◌≡◌, ℕ, ◌+◌, List, [], Some, false, take, arith, refl, ap, sym, ◌∙◌, subst, inl, inr}
use Rattle.std.specs.List.{slice_get}
use Rattle.std.proofs.lemmas.Bool.{false≢true}
use Rattle.cell_base.specs.declared.level.Level.{Level}
use Rattle.cell_base.specs.declared.cell.Cell.{Cell}
use Rattle.cell_base.specs.declared.value.Value.{Value}
use Rattle.history_core.specs.declared.event.Event.{Event}
use Rattle.history_core.specs.declared.event.Event.TheVariants.{Open, Close, Define, Look, Begin, Scan, Read, Own, Write, Commit, Rollback, Show}
use Rattle.history_core.specs.Events.{begun, is_begin}
use Rattle.history_core.specs.Transactions.{IsPending}
use Rattle.history_core.specs.Legal.{IsFormed}
use Rattle.history_core.proofs.Next.{pending_back}
use Rattle.std.proofs.lemmas.Option.{slice_get_within}
use Rattle.history_summary.specs.declared.running.Running.{Running}
use Rattle.history_summary.specs.Walk.{number_at, SetsNumber, AreRunning}
use Rattle.history_summary.proofs.Prefixes.{next_prefix}

pub running_first : (events : List Event) (running : Running) → AreRunning events 0 running
running_first events running s n pending = let within = slice_get_within [] pending.start (Begin s pending.starts.level) pending.starts.is in absurd (omega arith)

-- an event that is no begin
pub running_still :
    (events : List Event) (k : ℕ) (e : Event) (running : Running) → slice_get events k ≡ Some e → is_begin e ≡ false → AreRunning events k running →
    AreRunning events (k + 1) running
running_still events k e running is none are s n pending =
    elim (pending_back (take k events) e n s (subst (λ (es : List Event). IsPending es n s) (next_prefix events k e is) pending)) [
      | inl before ↦ are s n before.0
      | inr now ↦ absurd (false≢true (sym none ∙ ap is_begin now.is))
    ]

-- a begin
pub running_begin :
    (initial : List (Cell × Value)) (events : List Event) (k s number : ℕ) (level : Level) (old new : Running) → IsFormed initial events →
    slice_get events k ≡ Some (Begin s level) → number ≡ begun (take k events) + 1 → SetsNumber old s number new → AreRunning events k old →
    AreRunning events (k + 1) new
running_begin initial events k s number level old new formed is counts sets are t n pending =
    elim (pending_back (take k events) (Begin s level) n t (subst (λ (es : List Event). IsPending es n t) (next_prefix events k (Begin s level) is) pending)) [
      | inl before ↦ elim (sets t) [
        | inl here ↦ absurd ((formed k (Begin s level) is).follows.1 (n, subst (λ (u : ℕ). IsPending (take k events) n u) here.0 before.0))
        | inr apart ↦ apart.1 ∙ are t n before.0
      ]
      | inr now ↦
          let both : Begin s level ≡ Begin t now.level = now.is in
          let same : t ≡ s = cc in
          elim (sets t) [
            | inl here ↦ here.1 ∙ counts ∙ sym now.counts
            | inr apart ↦ absurd (apart.0 same)
          ]
    ]

-- what commits is the transaction that is noted
pub committing :
    (initial : List (Cell × Value)) (events : List Event) (k s : ℕ) (running : Running) → IsFormed initial events → slice_get events k ≡ Some (Commit s) →
    AreRunning events k running → IsPending (take k events) (number_at running s) s
committing initial events k s running formed is are =
    let pending = (formed k (Commit s) is).follows in
    subst (λ (n : ℕ). IsPending (take k events) n s) (sym (are s pending.0 pending.1)) pending.1

pub no_begin : (e : Event) → ((s : ℕ) (level : Level) → e ≡ Begin s level → ⊥) → is_begin e ≡ false
no_begin (Begin s level) none = absurd (none s level refl)
no_begin (Open s) none = refl
no_begin (Close s) none = refl
no_begin (Define s name) none = refl
no_begin (Look s count) none = refl
no_begin (Scan s table keys) none = refl
no_begin (Read s cell source count word value) none = refl
no_begin (Own s cell value) none = refl
no_begin (Write s cell value) none = refl
no_begin (Commit s) none = refl
no_begin (Rollback s) none = refl
no_begin (Show s number) none = refl
