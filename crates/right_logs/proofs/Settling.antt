-- What has ended stays so and sees nothing more, and a read that is settled stays settled.
use Rattle.std.proofs.Common.{◌≡◌, ℕ, ◌+◌, ◌<◌, ◌≤◌, List, [], ◌∷◌, ◌++◌, true, false, length, take, arith, refl, ap, sym, ◌∙◌, subst, inl, inr}
use Rattle.std.proofs.lemmas.List.{take-append-le, take_all}
use Rattle.std.proofs.lemmas.Bool.{false≢true}
use Rattle.std.proofs.lemmas.Option.{slice_get_within}
use Rattle.graph_base.specs.Chain.{IsChain}
use Rattle.graph_base.proofs.Places.{count_by-push}
use Rattle.cell_base.specs.declared.level.Level.{Level}
use Rattle.cell_base.specs.declared.level.Level.TheVariants.{Rc, Ra, Cc}
use Rattle.cell_base.specs.declared.cell.Cell.{Cell}
use Rattle.cell_base.specs.declared.value.Value.{Value}
use Rattle.history_core.specs.declared.event.Event.{Event}
use Rattle.history_core.specs.declared.event.Event.TheVariants.{Open, Close, Define, Look, Begin, Scan, Read, Own, Write, Commit, Rollback, Show}
use Rattle.history_core.specs.Events.{begun, session_in, is_begin, is_end}
use Rattle.history_core.specs.Transactions.{IsPending, HasPending}
use Rattle.history_core.specs.Relations.{Precedes, PrecedesCausally, IsVisibleAt, IsVisible}
use Rattle.history_core.proofs.Places.{start_session}
use Rattle.history_core.proofs.Grown.{runs_back, writes_back, pending_not_committed}
use Rattle.history_core.proofs.Next.{pending_back, pending_bounded}
use Rattle.history_core.proofs.Numbers.{pending_positive}
use Rattle.history_core.proofs.Offers.{precedes_read, chain_seen}
use Rattle.history_core.proofs.Prefixes.{IsSound, slice_get-at_end, of_kept, start_bounded, begun-push_other, runs_still, visible_begin}
use Rattle.saturation.proofs.After.{before_back}
use Rattle.further_reads.specs.Begun.{ForcesNothing}
use Rattle.further_reads.proofs.Sources.{begins_nothing}
use Rattle.further_reads.proofs.Still.{others_precede}
use Rattle.order_test.specs.Settled.{IsSettled, ComesSettled}
use Rattle.order_test.proofs.Closing.{read_past_back, other_past_back}
use Rattle.order_test.proofs.PastSteps.{sound_from}
use Rattle.order_test.proofs.Taken.{source_apart}
use Rattle.history_check.specs.Breaches.{AreRight}
use Rattle.history_check.proofs.Orderly.{orderly_from}
use Rattle.right_logs.specs.OpenReads.{HasEnded, IsKeptRead, IsSettledRead}

-- ---- what has ended

-- no later event is one of a transaction that has ended, and what begins has another number
pub ended_push : (events : List Event) (e : Event) (number : ℕ) → HasEnded events number → HasEnded (events ++ e ∷ []) number
ended_push events e number ended =
    let bounded : number ≤ begun events = ended.within in
    let more = count_by-push is_begin events e in
    record {
      some = ended.some;
      within = omega arith;
      over = λ s pending. elim (pending_back events e number s pending) [
        | inl old ↦ ended.over s old.0
        | inr new ↦ let counts : number ≡ begun events + 1 = new.counts in absurd (omega arith)
      ];
    }

-- what was pending has ended with the event that ends it
pub ended_now : (events : List Event) (e : Event) (number s : ℕ) → IsPending events number s → session_in e ≡ s → is_end e ≡ true → is_begin e ≡ false →
    HasEnded (events ++ e ∷ []) number
ended_now events e number s pending session ends none =
    let bounded : number ≤ begun events = pending_bounded events number s pending in
    let same : begun (events ++ e ∷ []) ≡ begun events = begun-push_other events e none in
    record {
      some = pending_positive events number s pending;
      within = omega arith;
      over = λ t later. elim (pending_back events e number t later) [
        | inl old ↦
            let was : IsPending events number t = old.0 in
            let one : s ≡ t = start_session events number s t pending.start was.start pending.starts was.starts in
            absurd (false≢true (sym (old.1 (session ∙ one)) ∙ ends))
        | inr new ↦ absurd (false≢true (sym none ∙ ap is_begin new.is))
      ];
    }

pub comes_next : (events : List Event) (e : Event) → AreRight [] (events ++ e ∷ []) → ComesSettled events e
comes_next events e right =
    let front : take (length events) (events ++ e ∷ []) ≡ events =
    take-append-le (length events) events (e ∷ []) (omega arith) ∙ take_all (length events) events (omega arith)
    in
    subst (λ (xs : List Event). ComesSettled xs e) front (orderly_from [] (events ++ e ∷ []) right (length events) e (slice_get-at_end events e))

-- ---- what is seen has ended

-- a pending transaction is the last of its session, and no source
precedes_ended : (events : List Event) → IsSettled events → (writer m : ℕ) → 0 < writer → Precedes events writer m → HasEnded events writer
precedes_ended events settled writer m low (inl so) =
    let up : writer < m = so.earlier in
    let bounded : m ≤ begun events = start_bounded events m so.session so.place so.started in
    record {
      some = low;
      within = omega arith;
      over = λ s pending. settled.last writer s m pending so;
    }
precedes_ended events settled writer m low (inr wr) =
    elim (settled.sources m wr.place wr.cell writer wr.reads) [
      | inl initial ↦ absurd (omega arith)
      | inr committed ↦ record {
        some = low;
        within = start_bounded events writer committed.session committed.commit.start committed.commit.starts;
        over = λ s pending. pending_not_committed events writer s pending committed;
      }
    ]

chain_ended : (events : List Event) → IsSettled events → (writer : ℕ) → 0 < writer → (between : List ℕ) (reader : ℕ) →
    IsChain (Precedes events) writer between reader → HasEnded events writer
chain_ended events settled writer low [] reader link = precedes_ended events settled writer reader low link
chain_ended events settled writer low (m ∷ between) reader (link, rest) = precedes_ended events settled writer m low link

pub visible_ended : (events : List Event) → IsSettled events → (reader place writer : ℕ) → 0 < writer → IsVisible events reader place writer → HasEnded events writer
visible_ended events settled reader place writer low visible =
    let chain : PrecedesCausally events writer reader = chain_seen visible.level events reader place writer visible.sees in
    chain_ended events settled writer low chain.between reader chain.is

-- ---- what a read of those events sees with one event more

-- an event that neither begins nor reads a cell may be a scan, which Read Committed shows to what is read after it alone
other_sees :
    (level : Level) (events : List Event) (e : Event) → ForcesNothing e → (reader place writer : ℕ) → place ≤ length events →
    IsVisibleAt level (events ++ e ∷ []) reader place writer → IsVisibleAt level events reader place writer
other_sees Rc events e nothing reader place writer within sees = before_back events e reader place writer within sees
other_sees Ra events e nothing reader place writer within sees = others_precede events e nothing writer reader sees
other_sees Cc events e nothing reader place writer within sees = other_past_back events e nothing writer reader sees

pub visible_other : (events : List Event) (e : Event) → ForcesNothing e → (reader place writer : ℕ) → place ≤ length events →
    IsVisible (events ++ e ∷ []) reader place writer → IsVisible events reader place writer
visible_other events e nothing reader place writer within visible = record {
  level = visible.level;
  runs = runs_still events e reader visible.level (begins_nothing e nothing) visible.runs;
  sees = other_sees visible.level events e nothing reader place writer within visible.sees;
}

-- what begins has another number, and nothing comes after it
begin_visible :
    (events : List Event) (s : ℕ) (level : Level) (reader place writer : ℕ) → ComesSettled events (Begin s level) → HasEnded events reader →
    IsVisible (events ++ Begin s level ∷ []) reader place writer → IsVisible events reader place writer
begin_visible events s level reader place writer comes ended visible =
    let started : reader ≤ begun events = ended.within in
    record {
      level = visible.level;
      runs = runs_back events (Begin s level) reader visible.level (λ late _. omega arith) visible.runs;
      sees = visible_begin visible.level events s level reader place writer (sound_from events comes.settled) started visible.sees;
    }

-- with a read of a pending transaction no other one sees more
read_sees :
    (level : Level) (events : List Event) → IsSound events → (s k : ℕ) (cell : Cell) (w n u : ℕ) (v : Value) → IsPending events k s → (w ≡ k → ⊥) →
    (reader place writer : ℕ) → (reader ≡ k → ⊥) → place ≤ length events → IsVisibleAt level (events ++ Read s cell w n u v ∷ []) reader place writer →
    IsVisibleAt level events reader place writer
read_sees Rc events sound s k cell w n u v pending apart reader place writer other within sees = before_back events (Read s cell w n u v) reader place writer within sees
read_sees Ra events sound s k cell w n u v pending apart reader place writer other within sees =
    elim (precedes_read events sound s k cell w n u v pending writer reader sees) [ inl old ↦ old | inr new ↦ absurd (other new.1) ]
read_sees Cc events sound s k cell w n u v pending apart reader place writer other within sees =
    elim (read_past_back events sound s k cell w n u v pending apart writer reader sees) [ inl old ↦ old | inr into ↦ absurd (other into.0) ]

-- the read is one of a pending transaction, so not of this one
read_visible :
    (events : List Event) (s : ℕ) (cell : Cell) (w n u : ℕ) (v : Value) (reader place writer : ℕ) → ComesSettled events (Read s cell w n u v) → HasEnded events reader →
    place ≤ length events → IsVisible (events ++ Read s cell w n u v ∷ []) reader place writer → IsVisible events reader place writer
read_visible events s cell w n u v reader place writer comes ended within visible =
    let has : HasPending events s = comes.reader in
    let pending : IsPending events has.0 s = has.1 in
    let other : reader ≡ has.0 → ⊥ = λ same. ended.over s (subst (λ (k : ℕ). IsPending events k s) (sym same) pending) in
    record {
      level = visible.level;
      runs = runs_still events (Read s cell w n u v) reader visible.level refl visible.runs;
      sees = read_sees visible.level events (sound_from events comes.settled) s has.0 cell w n u v pending (source_apart events has.0 s w pending comes.source)
          reader place writer other within visible.sees;
    }

pub visible_back : (events : List Event) (e : Event) → ComesSettled events e → (reader place writer : ℕ) → HasEnded events reader → place ≤ length events →
    IsVisible (events ++ e ∷ []) reader place writer → IsVisible events reader place writer
visible_back events (Begin s level) comes reader place writer ended within visible = begin_visible events s level reader place writer comes ended visible
visible_back events (Read s cell w n u v) comes reader place writer ended within visible =
    read_visible events s cell w n u v reader place writer comes ended within visible
visible_back events (Open s) comes reader place writer ended within visible = visible_other events (Open s) tt reader place writer within visible
visible_back events (Close s) comes reader place writer ended within visible = visible_other events (Close s) tt reader place writer within visible
visible_back events (Define s name) comes reader place writer ended within visible = visible_other events (Define s name) tt reader place writer within visible
visible_back events (Look s tables) comes reader place writer ended within visible = visible_other events (Look s tables) tt reader place writer within visible
visible_back events (Scan s table keys) comes reader place writer ended within visible = visible_other events (Scan s table keys) tt reader place writer within visible
visible_back events (Own s cell v) comes reader place writer ended within visible = visible_other events (Own s cell v) tt reader place writer within visible
visible_back events (Write s cell v) comes reader place writer ended within visible = visible_other events (Write s cell v) tt reader place writer within visible
visible_back events (Commit s) comes reader place writer ended within visible = visible_other events (Commit s) tt reader place writer within visible
visible_back events (Rollback s) comes reader place writer ended within visible = visible_other events (Rollback s) tt reader place writer within visible
visible_back events (Show s number) comes reader place writer ended within visible = visible_other events (Show s number) tt reader place writer within visible

-- ---- the reads that are settled

-- what commits now was pending, so it isn't one of those that the reader sees
pub settled_push_read : (places : List ℕ) (events : List Event) (e : Event) (place s : ℕ) (cell : Cell) (w n u : ℕ) (v : Value) → ComesSettled events e →
    IsSettledRead places events place s cell w n u v → IsSettledRead places (events ++ e ∷ []) place s cell w n u v
settled_push_read places events e place s cell w n u v comes is =
    let within : place < length events = slice_get_within events place (Read s cell w n u v) is.kept.read.of.is in
    let more = count_by-push is_begin events e in
    let source_in : w ≤ begun events = is.kept.read.from in
    let still_in : w ≤ begun (events ++ e ∷ []) = omega arith in
    let kept : IsKeptRead places (events ++ e ∷ []) place s cell w n u v is.reader = record {
      read = record { of = of_kept events e is.reader place (Read s cell w n u v) is.kept.read.of; from = still_in };
      before = is.kept.before;
      clear = λ writer low sees writes.
          let old_sees : IsVisible events is.reader place writer = visible_back events e comes is.reader place writer is.ended (omega arith) sees in
          elim (writes_back events e writer cell writes) [
            | inl old ↦ is.kept.clear writer low old_sees old
            | inr now ↦ absurd ((visible_ended events comes.settled is.reader place writer low old_sees).over (session_in e) now.1.1)
          ];
    } in
    record { reader = is.reader; kept = kept; ended = ended_push events e is.reader is.ended }

-- the reader ends, and sees no more with that
pub settled_now : (places : List ℕ) (events : List Event) (e : Event) (place s : ℕ) (cell : Cell) (w n u : ℕ) (v : Value) (number t : ℕ) → IsSettled events → ForcesNothing e →
    session_in e ≡ t → is_end e ≡ true → is_begin e ≡ false → IsPending events number t → IsKeptRead places events place s cell w n u v number →
    IsSettledRead places (events ++ e ∷ []) place s cell w n u v
settled_now places events e place s cell w n u v number t settled nothing session ends none pending kept =
    let within : place < length events = slice_get_within events place (Read s cell w n u v) kept.read.of.is in
    let same : begun (events ++ e ∷ []) ≡ begun events = begun-push_other events e none in
    let source_in : w ≤ begun events = kept.read.from in
    let still_in : w ≤ begun (events ++ e ∷ []) = omega arith in
    let still : IsKeptRead places (events ++ e ∷ []) place s cell w n u v number = record {
      read = record { of = of_kept events e number place (Read s cell w n u v) kept.read.of; from = still_in };
      before = kept.before;
      clear = λ writer low sees writes.
          let old_sees : IsVisible events number place writer = visible_other events e nothing number place writer (omega arith) sees in
          elim (writes_back events e writer cell writes) [
            | inl old ↦ kept.clear writer low old_sees old
            | inr now ↦ absurd ((visible_ended events settled number place writer low old_sees).over (session_in e) now.1.1)
          ];
    } in
    record { reader = number; kept = still; ended = ended_now events e number t pending session ends none }
