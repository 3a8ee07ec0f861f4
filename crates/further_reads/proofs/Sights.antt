-- What a pending transaction sees with a further read.
use Rattle.std.proofs.Common.{ℕ, ◌≤◌, List, [], ◌∷◌, ◌++◌, length, refl, sym, subst, inl, inr, ◌⊎◌}
use Rattle.std.proofs.lemmas.Option.{slice_get_within}
use Rattle.graph_base.specs.Chain.{IsChain}
use Rattle.graph_base.proofs.Chains.{chained_one, chained_first, chained_on, chained_wider}
use Rattle.cell_base.specs.declared.level.Level.{Level}
use Rattle.cell_base.specs.declared.level.Level.TheVariants.{Rc, Ra, Cc}
use Rattle.cell_base.specs.declared.cell.Cell.{Cell}
use Rattle.cell_base.specs.declared.value.Value.{Value}
use Rattle.history_core.specs.declared.event.Event.{Event}
use Rattle.history_core.specs.declared.event.Event.TheVariants.{Read}
use Rattle.history_core.specs.Transactions.{IsPending}
use Rattle.history_core.specs.Relations.{Precedes, PrecedesCausally, IsVisibleAt}
use Rattle.history_core.proofs.Prefixes.{IsSound}
use Rattle.history_core.proofs.Offers.{precedes_read, initial_precedes}
use Rattle.saturation.specs.Laws.{with_read}
use Rattle.saturation.proofs.After.{reads_kept, precedes_kept, precedes_now, before_kept, before_back}
use Rattle.further_reads.specs.Further.{Sees, SeesWith, IsNewlySeen}
use Rattle.further_reads.proofs.Decided.{precedes_decided, past_decided}

-- what a read sees it sees after any event
pub sees_kept :
    (level : Level) (events : List Event) (e : Event) (r p a : ℕ) → IsVisibleAt level events r p a → IsVisibleAt level (events ++ e ∷ []) r p a
sees_kept Rc events e r p a sees = before_kept events e r p a sees
sees_kept Ra events e r p a sees = precedes_kept events e a r sees
sees_kept Cc events e r p a sees = chained_wider (Precedes events) (Precedes (events ++ e ∷ [])) (precedes_kept events e) a r sees

-- a chain to the reader goes by its source, or was there before
past_with :
    (events : List Event) → IsSound events → (s k : ℕ) (x : Cell) (w n u : ℕ) (v : Value) → IsPending events k s →
    (a : ℕ) (between : List ℕ) → IsChain (Precedes (with_read events s x w n u v)) a between k → SeesWith Cc events k w a
past_with events sound s k x w n u v pending a [] link =
    elim (precedes_read events sound s k x w n u v pending a k link) [
      | inl old ↦ inl (chained_one (Precedes events) a k old)
      | inr new ↦ inr (inl new.0)
    ]
past_with events sound s k x w n u v pending a (m ∷ between) (link, rest) =
    elim (precedes_read events sound s k x w n u v pending a m link) [
      | inr new ↦ inr (inl new.0)
      | inl old ↦ elim (past_with events sound s k x w n u v pending m between rest) [
        | inl on ↦ inl (chained_first (Precedes events) a m k old on)
        | inr over ↦ elim over [
          | inl same ↦ inr (inr (chained_one (Precedes events) a w (subst (λ (c : ℕ). Precedes events a c) same old)))
          | inr on ↦ inr (inr (chained_first (Precedes events) a m w old on))
        ]
      ]
    ]

-- what a read of the reader sees then, it sees with the further read
pub sees_with :
    (level : Level) (events : List Event) → IsSound events → (s k : ℕ) (x : Cell) (w n u : ℕ) (v : Value) → IsPending events k s →
    (p a : ℕ) → p ≤ length events → IsVisibleAt level (with_read events s x w n u v) k p a → SeesWith level events k w a
sees_with Rc events sound s k x w n u v pending p a within sees =
    let before = before_back events (Read s x w n u v) k p a within sees in
    record { place = before.earlier; cell = before.cell; reads = before.reads }
sees_with Ra events sound s k x w n u v pending p a within sees =
    elim (precedes_read events sound s k x w n u v pending a k sees) [ inl old ↦ inl old | inr new ↦ inr new.0 ]
sees_with Cc events sound s k x w n u v pending p a within sees = past_with events sound s k x w n u v pending a sees.between sees.is

-- and what the reader sees with the further read, that read sees
pub with_sees :
    (level : Level) (events : List Event) (s k : ℕ) (x : Cell) (w n u : ℕ) (v : Value) → IsPending events k s →
    (a : ℕ) → SeesWith level events k w a → IsVisibleAt level (with_read events s x w n u v) k (length events) a
with_sees Rc events s k x w n u v pending a wr = record {
  earlier = wr.place;
  cell = wr.cell;
  below = slice_get_within events wr.place wr.reads.event wr.reads.of_reader.is;
  reads = reads_kept events (Read s x w n u v) k wr.place wr.cell a wr.reads;
}
with_sees Ra events s k x w n u v pending a (inl old) = precedes_kept events (Read s x w n u v) a k old
with_sees Ra events s k x w n u v pending a (inr same) =
    subst (λ (c : ℕ). Precedes (with_read events s x w n u v) c k) (sym same) (precedes_now events s k x w n u v pending)
with_sees Cc events s k x w n u v pending a (inl old) =
    chained_wider (Precedes events) (Precedes (with_read events s x w n u v)) (precedes_kept events (Read s x w n u v)) a k old
with_sees Cc events s k x w n u v pending a (inr (inl same)) =
    chained_one (Precedes (with_read events s x w n u v)) a k
    (subst (λ (c : ℕ). Precedes (with_read events s x w n u v) c k) (sym same) (precedes_now events s k x w n u v pending))
with_sees Cc events s k x w n u v pending a (inr (inr on)) =
    chained_on (Precedes (with_read events s x w n u v)) a w k
    (chained_wider (Precedes events) (Precedes (with_read events s x w n u v)) (precedes_kept events (Read s x w n u v)) a w on)
    (chained_one (Precedes (with_read events s x w n u v)) w k (precedes_now events s k x w n u v pending))

-- ---- an earlier read

-- what an earlier read sees then it saw before, or the reader sees it only now
pub earlier_sees :
    (level : Level) (events : List Event) → IsSound events → (s k : ℕ) (x : Cell) (w n u : ℕ) (v : Value) → IsPending events k s →
    (p a : ℕ) → p ≤ length events → IsVisibleAt level (with_read events s x w n u v) k p a →
    IsVisibleAt level events k p a ⊎ IsNewlySeen level events k w a
earlier_sees Rc events sound s k x w n u v pending p a within sees = inl (before_back events (Read s x w n u v) k p a within sees)
earlier_sees Ra events sound s k x w n u v pending p a within sees =
    elim (precedes_decided events sound a k) [
      | inl old ↦ inl old
      | inr none ↦ inr (sees_with Ra events sound s k x w n u v pending p a within sees, none)
    ]
earlier_sees Cc events sound s k x w n u v pending p a within sees =
    elim (past_decided events sound a k) [
      | inl old ↦ inl old
      | inr none ↦ inr (sees_with Cc events sound s k x w n u v pending p a within sees, none)
    ]

-- and what the reader sees only now, an earlier read sees then
pub newly_sees :
    (level : Level) (events : List Event) (s k : ℕ) (x : Cell) (w n u : ℕ) (v : Value) → IsPending events k s →
    (p a : ℕ) → IsNewlySeen level events k w a → IsVisibleAt level (with_read events s x w n u v) k p a
newly_sees Rc events s k x w n u v pending p a (sees, none) = absurd (none sees)
newly_sees Ra events s k x w n u v pending p a (sees, none) = with_sees Ra events s k x w n u v pending a sees
newly_sees Cc events s k x w n u v pending p a (sees, none) = with_sees Cc events s k x w n u v pending a sees

-- ---- a source that the reader sees already

-- with a read from it the reader sees no more than before
pub seen_source : (level : Level) (events : List Event) (k w a : ℕ) → Sees level events k w → SeesWith level events k w a → Sees level events k a
seen_source Rc events k w a seen sees = sees
seen_source Ra events k w a seen (inl old) = old
seen_source Ra events k w a seen (inr same) = subst (λ (c : ℕ). Precedes events c k) (sym same) seen
seen_source Cc events k w a seen (inl old) = old
seen_source Cc events k w a seen (inr (inl same)) = subst (λ (c : ℕ). PrecedesCausally events c k) (sym same) seen
seen_source Cc events k w a seen (inr (inr on)) = chained_on (Precedes events) a w k on seen

-- what the reader sees it sees with any read
pub sees_more : (level : Level) (events : List Event) (k w a : ℕ) → Sees level events k a → SeesWith level events k w a
sees_more Rc events k w a sees = sees
sees_more Ra events k w a sees = inl sees
sees_more Cc events k w a sees = inl sees

-- the initial transaction precedes the reader
pub initial_seen : (events : List Event) (s k : ℕ) → IsPending events k s → Precedes events 0 k
initial_seen events s k pending = initial_precedes events s k 0 pending refl
