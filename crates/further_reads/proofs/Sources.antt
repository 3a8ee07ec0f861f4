-- From which transactions a transaction reads, and how that changes.
use Rattle.std.proofs.Common.{◌≡◌, ℕ, ◌<◌, List, [], ◌∷◌, ◌++◌, false, length, arith, refl, sym, subst, inl, inr, ◌⊎◌}
use Rattle.cell_base.specs.declared.cell.Cell.{Cell}
use Rattle.cell_base.specs.declared.value.Value.{Value}
use Rattle.history_core.specs.declared.event.Event.{Event}
use Rattle.history_core.specs.declared.event.Event.TheVariants.{Open, Close, Define, Look, Begin, Scan, Read, Own, Write, Commit, Rollback, Show}
use Rattle.history_core.specs.Events.{begun, is_begin}
use Rattle.history_core.specs.Transactions.{IsPending}
use Rattle.history_core.specs.Relations.{Gives, ReadsFrom}
use Rattle.history_core.specs.Legal.{ReadsNothing}
use Rattle.history_core.proofs.Grown.{reads_back}
use Rattle.history_core.proofs.Prefixes.{IsSound, scan_source}
use Rattle.history_core.proofs.Offers.{pending_unique}
use Rattle.saturation.specs.Laws.{with_read}
use Rattle.saturation.proofs.After.{reads_kept, read_now}
use Rattle.saturation.proofs.Decides.{reader_bounded}
use Rattle.further_reads.specs.Begun.{ForcesNothing}
use Rattle.further_reads.specs.Further.{IsReadLink}

pub reads_from_kept : (events : List Event) (e : Event) (a b : ℕ) → ReadsFrom events a b → ReadsFrom (events ++ e ∷ []) a b
reads_from_kept events e a b wr = record { place = wr.place; cell = wr.cell; reads = reads_kept events e b wr.place wr.cell a wr.reads }

-- ---- a further read

pub reads_from_with :
    (events : List Event) → IsSound events → (s k : ℕ) (x : Cell) (w n u : ℕ) (v : Value) → IsPending events k s → (a b : ℕ) →
    ReadsFrom (with_read events s x w n u v) a b → ReadsFrom events a b ⊎ IsReadLink w k a b
reads_from_with events sound s k x w n u v pending a b wr =
    elim (reads_back events (Read s x w n u v) b wr.place wr.cell a wr.reads) [
      | inl old ↦ inl record { place = wr.place; cell = wr.cell; reads = old }
      | inr new ↦ inr (sym new.2.1, pending_unique events sound s b k new.1 pending)
    ]

pub with_reads_from :
    (events : List Event) (s k : ℕ) (x : Cell) (w n u : ℕ) (v : Value) → IsPending events k s → (a b : ℕ) →
    ReadsFrom events a b ⊎ IsReadLink w k a b → ReadsFrom (with_read events s x w n u v) a b
with_reads_from events s k x w n u v pending a b (inl old) = reads_from_kept events (Read s x w n u v) a b old
with_reads_from events s k x w n u v pending a b (inr link) =
    subst (λ (m : ℕ). ReadsFrom (with_read events s x w n u v) m b) (sym link.0)
    (subst (λ (m : ℕ). ReadsFrom (with_read events s x w n u v) w m) (sym link.1)
    record { place = length events; cell = x; reads = read_now events s k x w n u v pending })

-- ---- another event

-- another event gives nothing but of the initial transaction
gives_initial : (e : Event) → ReadsNothing e → (cell : Cell) (a : ℕ) → Gives e cell a → a ≡ 0
gives_initial (Read s x w n u v) nothing cell a gives = absurd nothing
gives_initial (Scan s table keys) nothing cell a gives = scan_source s table keys cell a gives
gives_initial (Begin s level) nothing cell a gives = absurd gives
gives_initial (Open s) nothing cell a gives = absurd gives
gives_initial (Close s) nothing cell a gives = absurd gives
gives_initial (Define s name) nothing cell a gives = absurd gives
gives_initial (Look s count) nothing cell a gives = absurd gives
gives_initial (Own s x v) nothing cell a gives = absurd gives
gives_initial (Write s x v) nothing cell a gives = absurd gives
gives_initial (Commit s) nothing cell a gives = absurd gives
gives_initial (Rollback s) nothing cell a gives = absurd gives
gives_initial (Show s number) nothing cell a gives = absurd gives

pub others_read_from :
    (events : List Event) (e : Event) → ReadsNothing e → (a b : ℕ) → 0 < a → ReadsFrom (events ++ e ∷ []) a b → ReadsFrom events a b
others_read_from events e nothing a b positive wr =
    elim (reads_back events e b wr.place wr.cell a wr.reads) [
      | inl old ↦ record { place = wr.place; cell = wr.cell; reads = old }
      | inr new ↦ let initial = gives_initial e nothing wr.cell a new.2 in absurd (omega arith)
    ]

pub reads_nothing : (e : Event) → ForcesNothing e → ReadsNothing e
reads_nothing (Read s x w n u v) nothing = absurd nothing
reads_nothing (Begin s level) nothing = absurd nothing
reads_nothing (Scan s table keys) nothing = tt
reads_nothing (Open s) nothing = tt
reads_nothing (Close s) nothing = tt
reads_nothing (Define s name) nothing = tt
reads_nothing (Look s count) nothing = tt
reads_nothing (Own s x v) nothing = tt
reads_nothing (Write s x v) nothing = tt
reads_nothing (Commit s) nothing = tt
reads_nothing (Rollback s) nothing = tt
reads_nothing (Show s number) nothing = tt

pub begins_nothing : (e : Event) → ForcesNothing e → is_begin e ≡ false
begins_nothing (Begin s level) nothing = absurd nothing
begins_nothing (Read s x w n u v) nothing = absurd nothing
begins_nothing (Scan s table keys) nothing = refl
begins_nothing (Open s) nothing = refl
begins_nothing (Close s) nothing = refl
begins_nothing (Define s name) nothing = refl
begins_nothing (Look s count) nothing = refl
begins_nothing (Own s x v) nothing = refl
begins_nothing (Write s x v) nothing = refl
begins_nothing (Commit s) nothing = refl
begins_nothing (Rollback s) nothing = refl
begins_nothing (Show s number) nothing = refl

-- a transaction that hasn't begun has read nothing
pub unbegun_reads_none : (events : List Event) (a b : ℕ) → begun events < b → ReadsFrom events a b → ⊥
unbegun_reads_none events a b late wr = let h = reader_bounded events b wr.place wr.cell a wr.reads in absurd (omega arith)
