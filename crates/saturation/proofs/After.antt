-- What a further read of a pending transaction changes.
use Rattle.std.proofs.Common.{◌≡◌, ℕ, ◌<◌, ◌≤◌, List, [], ◌∷◌, ◌++◌, length, arith, refl, sym, subst, inl, inr, ◌⊎◌}
use Rattle.std.proofs.lemmas.Option.{slice_get_within}
use Rattle.std.proofs.lemmas.Bool.{cases_eq}
use Rattle.graph_base.specs.Chain.{IsChain}
use Rattle.cell_base.specs.declared.level.Level.{Level}
use Rattle.cell_base.specs.declared.level.Level.TheVariants.{Rc, Ra, Cc}
use Rattle.cell_base.specs.declared.cell.Cell.{Cell}
use Rattle.cell_base.specs.declared.value.Value.{Value}
use Rattle.history_core.specs.declared.event.Event.{Event}
use Rattle.history_core.specs.declared.event.Event.TheVariants.{Read, Write}
use Rattle.history_core.specs.Events.{begun}
use Rattle.history_core.specs.Transactions.{IsPending, IsCommitted}
use Rattle.history_core.specs.Relations.{Writes, Reads, Precedes, ReadsBefore, IsVisibleAt, Demands}
use Rattle.history_core.specs.Forced.{IsForced, IsDemandOf}
use Rattle.history_core.proofs.Grown.{start_kept, runs_kept, reads_back, writes_back, pending_not_committed}
use Rattle.history_core.proofs.Prefixes.{IsSound, of_kept, committed_kept, begun-push_other, start_positive, pending_first, runs_still}
use Rattle.history_core.proofs.Offers.{pending_unique, precedes_read}
use Rattle.history_core.proofs.Next.{of_new}
use Rattle.saturation.specs.Laws.{with_read}

-- ---- what any further event keeps

pub reads_kept : (events : List Event) (e : Event) (r p : ℕ) (x : Cell) (w : ℕ) → Reads events r p x w → Reads (events ++ e ∷ []) r p x w
reads_kept events e r p x w reads = record { event = reads.event; of_reader = of_kept events e r p reads.event reads.of_reader; gives = reads.gives }

pub writes_kept : (events : List Event) (e : Event) (a : ℕ) (x : Cell) → Writes events a x → Writes (events ++ e ∷ []) a x
writes_kept events e a x (inl initial) = inl initial
writes_kept events e a x (inr own) = inr (
  committed_kept events e a own.0,
  record {
    place = own.1.place;
    session = own.1.session;
    value = own.1.value;
    write = of_kept events e a own.1.place (Write own.1.session x own.1.value) own.1.write;
  },
)

pub precedes_kept : (events : List Event) (e : Event) (a b : ℕ) → Precedes events a b → Precedes (events ++ e ∷ []) a b
precedes_kept events e a b (inl so) = inl record {
  earlier = so.earlier;
  place = so.place;
  session = so.session;
  started = start_kept events e b so.session so.place so.started;
  same = elim so.same [ inl initial ↦ inl initial | inr other ↦ inr (other.0, start_kept events e a so.session other.0 other.1) ];
}
precedes_kept events e a b (inr wr) = inr record { place = wr.place; cell = wr.cell; reads = reads_kept events e b wr.place wr.cell a wr.reads }

pub before_kept : (events : List Event) (e : Event) (r p a : ℕ) → ReadsBefore events r p a → ReadsBefore (events ++ e ∷ []) r p a
before_kept events e r p a before = record {
  earlier = before.earlier;
  cell = before.cell;
  below = before.below;
  reads = reads_kept events e r before.earlier before.cell a before.reads;
}

pub before_back :
    (events : List Event) (e : Event) (r p a : ℕ) → p ≤ length events → ReadsBefore (events ++ e ∷ []) r p a → ReadsBefore events r p a
before_back events e r p a within before =
    elim (reads_back events e r before.earlier before.cell a before.reads) [
      | inl old ↦ record { earlier = before.earlier; cell = before.cell; below = before.below; reads = old }
      | inr new ↦ let at = new.0 in let under = before.below in absurd (omega arith)
    ]

-- ---- what the further read adds

pub size_after : (events : List Event) (s : ℕ) (x : Cell) (w n u : ℕ) (v : Value) → begun (with_read events s x w n u v) ≡ begun events
size_after events s x w n u v = begun-push_other events (Read s x w n u v) refl

pub read_now : (events : List Event) (s k : ℕ) (x : Cell) (w n u : ℕ) (v : Value) → IsPending events k s → Reads (with_read events s x w n u v) k (length events) x w
read_now events s k x w n u v pending =
    record { event = Read s x w n u v; of_reader = of_new events (Read s x w n u v) k pending; gives = (refl, refl) }

pub precedes_now : (events : List Event) (s k : ℕ) (x : Cell) (w n u : ℕ) (v : Value) → IsPending events k s → Precedes (with_read events s x w n u v) w k
precedes_now events s k x w n u v pending = inr record { place = length events; cell = x; reads = read_now events s k x w n u v pending }

-- it writes nothing
pub writes_before :
    (events : List Event) (s : ℕ) (x : Cell) (w n u : ℕ) (v : Value) (a : ℕ) (y : Cell) → Writes (with_read events s x w n u v) a y → Writes events a y
writes_before events s x w n u v a y writes =
    elim (writes_back events (Read s x w n u v) a y writes) [ inl old ↦ old | inr new ↦ cc (new.1.0) ]

-- a pending transaction writes nothing yet
pub pending_no_source :
    (events : List Event) (s k : ℕ) (x : Cell) (w : ℕ) → IsPending events k s → Writes events w x → k ≡ w → ⊥
pending_no_source events s k x w pending (inl initial) same =
    let positive : 0 < k = start_positive events k s pending.start pending.starts in absurd (omega arith)
pending_no_source events s k x w pending (inr own) same =
    pending_not_committed events k s pending (subst (λ (m : ℕ). IsCommitted events m) (sym same) own.0)

-- nothing comes after the reader then either
pub nothing_after :
    (events : List Event) → IsSound events → (s k : ℕ) (x : Cell) (w n u : ℕ) (v : Value) → IsPending events k s → Writes events w x →
    (b : ℕ) → Precedes (with_read events s x w n u v) k b → ⊥
nothing_after events sound s k x w n u v pending writes b precedes =
    elim (precedes_read events sound s k x w n u v pending k b precedes) [
      | inl old ↦ pending_first events sound k s b pending old
      | inr new ↦ pending_no_source events s k x w pending writes new.0
    ]

-- so no other transaction sees more
chain_before :
    (events : List Event) → IsSound events → (s k : ℕ) (x : Cell) (w n u : ℕ) (v : Value) → IsPending events k s → Writes events w x →
    (a : ℕ) (between : List ℕ) (b : ℕ) → (b ≡ k → ⊥) → IsChain (Precedes (with_read events s x w n u v)) a between b → IsChain (Precedes events) a between b
chain_before events sound s k x w n u v pending writes a [] b other link =
    elim (precedes_read events sound s k x w n u v pending a b link) [ inl old ↦ old | inr new ↦ absurd (other new.1) ]
chain_before events sound s k x w n u v pending writes a (m ∷ between) b other (link, rest) =
    elim (precedes_read events sound s k x w n u v pending a m link) [
      | inl old ↦ (old, chain_before events sound s k x w n u v pending writes m between b other rest)
      | inr new ↦ absurd (none between (subst (λ (c : ℕ). IsChain (Precedes (with_read events s x w n u v)) c between b) new.1 rest))
    ]
  where
    none : (between : List ℕ) → IsChain (Precedes (with_read events s x w n u v)) k between b → ⊥
    none [] link = nothing_after events sound s k x w n u v pending writes b link
    none (c ∷ more) (link, rest) = nothing_after events sound s k x w n u v pending writes c link

visible_before :
    (level : Level) (events : List Event) → IsSound events → (s k : ℕ) (x : Cell) (w n u : ℕ) (v : Value) → IsPending events k s → Writes events w x →
    (r p a : ℕ) → (r ≡ k → ⊥) → p ≤ length events → IsVisibleAt level (with_read events s x w n u v) r p a → IsVisibleAt level events r p a
visible_before Rc events sound s k x w n u v pending writes r p a other within sees = before_back events (Read s x w n u v) r p a within sees
visible_before Ra events sound s k x w n u v pending writes r p a other within sees =
    elim (precedes_read events sound s k x w n u v pending a r sees) [ inl old ↦ old | inr new ↦ absurd (other new.1) ]
visible_before Cc events sound s k x w n u v pending writes r p a other within sees =
    record { between = sees.between; is = chain_before events sound s k x w n u v pending writes a sees.between r other sees.is }

visible_after :
    (level : Level) (events : List Event) (e : Event) (r p a : ℕ) → IsVisibleAt level events r p a → IsVisibleAt level (events ++ e ∷ []) r p a
visible_after Rc events e r p a sees = before_kept events e r p a sees
visible_after Ra events e r p a sees = precedes_kept events e a r sees
visible_after Cc events e r p a sees = record { between = sees.between; is = chain_kept a sees.between r sees.is }
  where
    chain_kept : (a : ℕ) (between : List ℕ) (b : ℕ) → IsChain (Precedes events) a between b → IsChain (Precedes (events ++ e ∷ [])) a between b
    chain_kept a [] b link = precedes_kept events e a b link
    chain_kept a (m ∷ between) b (link, rest) = (precedes_kept events e a m link, chain_kept m between b rest)

pub demands_kept : (events : List Event) (e : Event) (a b : ℕ) → Demands events a b → Demands (events ++ e ∷ []) a b
demands_kept events e a b d = record {
  reader = d.reader;
  place = d.place;
  cell = d.cell;
  reads = reads_kept events e d.reader d.place d.cell b d.reads;
  other = d.other;
  writes = writes_kept events e a d.cell d.writes;
  visible = record {
    level = d.visible.level;
    runs = runs_kept events e d.reader d.visible.level d.visible.runs;
    sees = visible_after d.visible.level events e d.reader d.place a d.visible.sees;
  };
}

-- what another reader demands then it demanded before
pub demands_before :
    (events : List Event) → IsSound events → (s k : ℕ) (x : Cell) (w n u : ℕ) (v : Value) → IsPending events k s → Writes events w x →
    (a b : ℕ) → (d : Demands (with_read events s x w n u v) a b) → (d.reader ≡ k → ⊥) → Demands events a b
demands_before events sound s k x w n u v pending writes a b d other =
    elim (reads_back events (Read s x w n u v) d.reader d.place d.cell b d.reads) [
      | inr new ↦ absurd (other (pending_unique events sound s d.reader k new.1 pending))
      | inl old ↦
          let within : d.place < length events = slice_get_within events d.place old.event old.of_reader.is in
          record {
            reader = d.reader;
            place = d.place;
            cell = d.cell;
            reads = old;
            other = d.other;
            writes = writes_before events s x w n u v a d.cell d.writes;
            visible = record {
              level = d.visible.level;
              runs = runs_still events (Read s x w n u v) d.reader d.visible.level refl d.visible.runs;
              sees = visible_before d.visible.level events sound s k x w n u v pending writes d.reader d.place a other (omega arith) d.visible.sees;
            };
          }
    ]

-- what the history forces with the read: what it forced, the source before the reader, and what the reader demands then
abbrev pub IsForcedWith : List Event → ℕ → ℕ → Cell → ℕ → ℕ → ℕ → Value → ℕ → ℕ → Type 0
IsForcedWith events s k x w n u v a b =
    IsForced events a b ⊎ (((a ≡ w) × (b ≡ k)) ⊎ IsDemandOf (with_read events s x w n u v) k a b)

pub forced_after :
    (events : List Event) (s k : ℕ) (x : Cell) (w n u : ℕ) (v : Value) → IsPending events k s → (a b : ℕ) →
    IsForcedWith events s k x w n u v a b → IsForced (with_read events s x w n u v) a b
forced_after events s k x w n u v pending a b (inl (inl precedes)) = inl (precedes_kept events (Read s x w n u v) a b precedes)
forced_after events s k x w n u v pending a b (inl (inr d)) = inr (demands_kept events (Read s x w n u v) a b d)
forced_after events s k x w n u v pending a b (inr (inl link)) =
    subst (λ (m : ℕ). IsForced (with_read events s x w n u v) m b) (sym link.0)
    (subst (λ (m : ℕ). IsForced (with_read events s x w n u v) w m) (sym link.1) (inl (precedes_now events s k x w n u v pending)))
forced_after events s k x w n u v pending a b (inr (inr own)) = inr own.0

pub forced_before :
    (events : List Event) → IsSound events → (s k : ℕ) (x : Cell) (w n u : ℕ) (v : Value) → IsPending events k s → Writes events w x →
    (a b : ℕ) → IsForced (with_read events s x w n u v) a b → IsForcedWith events s k x w n u v a b
forced_before events sound s k x w n u v pending writes a b (inl precedes) =
    elim (precedes_read events sound s k x w n u v pending a b precedes) [ inl old ↦ inl (inl old) | inr new ↦ inr (inl new) ]
forced_before events sound s k x w n u v pending writes a b (inr d) =
    elim (cases_eq d.reader k) [
      | inl same ↦ inr (inr (d, same))
      | inr other ↦ inl (inr (demands_before events sound s k x w n u v pending writes a b d other))
    ]
