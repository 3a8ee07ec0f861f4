-- How the notes of the transactions go on standing for the events, and how a clock takes in others.
use Rattle.std.proofs.Common.{◌≡◌, ℕ, ◌+◌, ◌-◌, ◌<◌, ◌≤◌, List, [], ◌∷◌, ◌++◌, Bool, Some, length, get_or, set, take, replicate, max, arith, refl, ap, sym, ◌∙◌, subst, inl, inr, ◌⊎◌}
use Rattle.std.specs.Prelude.{IsTrue}
use Rattle.std.specs.List.{slice_get}
use Rattle.std.proofs.lemmas.List.{length_push, length-set, set-set, get_or_past}
use Rattle.std.proofs.lemmas.Option.{slice_get_cases, slice_get_within, same_Some}
use Rattle.std.proofs.lemmas.Bool.{cases_eq, cases_lt, false≢true}
use Rattle.txn_buffer.proofs.Lists.{slice_get_push_cases, slice_get-set_cases, slice_get-set_other}
use Rattle.graph_base.proofs.Chains.{chained_one, chained_on}
use Rattle.cell_base.specs.declared.level.Level.{Level}
use Rattle.cell_base.specs.declared.cell.Cell.{Cell}
use Rattle.cell_base.specs.declared.value.Value.{Value}
use Rattle.history_core.specs.declared.event.Event.{Event}
use Rattle.history_core.specs.declared.event.Event.TheVariants.{Begin, Read}
use Rattle.history_core.specs.Events.{begun, is_begin}
use Rattle.history_core.specs.Transactions.{IsStart, IsPending, RunsAt}
use Rattle.history_core.specs.Relations.{Precedes, PrecedesCausally}
use Rattle.history_core.proofs.Places.{start_session}
use Rattle.history_core.proofs.Grown.{start_back, start_kept, runs_kept}
use Rattle.history_core.proofs.Prefixes.{IsSound, start_positive, begun-push_start, begun-push_other}
use Rattle.history_core.proofs.Next.{pending_begin, runs_begin}
use Rattle.saturation.specs.Laws.{with_read}
use Rattle.further_reads.specs.Begun.{ForcesNothing, with_begin, IsLastBegun}
use Rattle.further_reads.proofs.Sources.{begins_nothing}
use Rattle.order_test.specs.Glance.{IsWidened}
use Rattle.order_test.proofs.Closing.{read_past_back, past_kept, read_past_source, other_past_back, begun_first, begin_past_back, none_before_first, begin_past_new, begin_past_own, begin_past_last}
use Rattle.order_test.proofs.GlanceLemmas.{widened}
use Rattle.order_test.proofs.PastSteps.{at_set}
use Rattle.order_test.proofs.Taken.{AreRaised, greater_one, last_bounded}
use Rattle.right_logs.specs.declared.txn_notes.TxnNote.{TxnNote}
use Rattle.right_logs.specs.Clocks.{IsClockOf, IsTxnNoteOf, AreTxnNotes, Raises, RaisesAll, AddsTxn, TakesClock, TakesIn, HasSource, NotesSource}

-- ---- no event

none_started : (a s p : ℕ) → IsStart [] a s p → ⊥
none_started a s p start = let is = start.is in cc

-- the clock of the initial transaction has nothing
first_clock :
    (notes : List TxnNote) (note : TxnNote) → notes ≡ note ∷ [] → note.clock.items ≡ [] → (n : ℕ) (other : TxnNote) → slice_get notes n ≡ Some other → (s : ℕ) →
    get_or other.clock.items s 0 ≡ 0
first_clock notes note is blank n other at s =
    let one : length notes ≡ 1 = ap length is in
    let within : n < length notes = slice_get_within notes n other at in
    let first : n ≡ 0 = omega arith in
    let there : slice_get (note ∷ []) n ≡ Some other = subst (λ (ns : List TxnNote). slice_get ns n ≡ Some other) is at in
    let here : slice_get (note ∷ []) 0 ≡ Some other = subst (λ (i : ℕ). slice_get (note ∷ []) i ≡ Some other) first there in
    let same : note ≡ other = same_Some note other here in
    let none : other.clock.items ≡ [] = ap (λ (q : TxnNote). q.clock.items) (sym same) ∙ blank in
    let size : length other.clock.items ≡ 0 = ap length none in
    get_or_past other.clock.items s 0 (omega arith)

pub txns_none : (clocked : Bool) (notes : List TxnNote) (note : TxnNote) → notes ≡ note ∷ [] → note.clock.items ≡ [] → AreTxnNotes [] clocked notes
txns_none clocked notes note is blank =
    let one : length notes ≡ 1 = ap length is in
    record {
      count = ap length is;
      each = λ n other at.
          let within : n < length notes = slice_get_within notes n other at in
          record {
            started = λ positive. absurd (omega arith);
            runs = λ positive. absurd (omega arith);
            clock = λ clocks. record {
              bounded = λ s. let none = first_clock notes note is blank n other at s in omega arith;
              exact = λ s a p start. absurd (none_started a s p start);
            };
          };
    }

-- ---- an event that is neither a begin nor a read

other_note :
    (events : List Event) (e : Event) (clocked : Bool) (n : ℕ) (note : TxnNote) → ForcesNothing e → IsTxnNoteOf events clocked n note →
    IsTxnNoteOf (events ++ e ∷ []) clocked n note
other_note events e clocked n note nothing is =
    let same : begun (events ++ e ∷ []) ≡ begun events = begun-push_other events e (begins_nothing e nothing) in
    record {
      started = λ positive. let found = is.started positive in (found.0, start_kept events e n note.session found.0 found.1);
      runs = λ positive. runs_kept events e n note.level (is.runs positive);
      clock = λ clocks.
          let own : IsClockOf events n note.clock.items = is.clock clocks in
          record {
            bounded = λ s. let h = own.bounded s in omega arith;
            exact = λ s a p start. elim (start_back events e a s p start) [
              | inl old ↦ (
                λ le. past_kept events e a n ((own.exact s a p old).0 le),
                λ chain. (own.exact s a p old).1 (other_past_back events e nothing a n chain),
              )
              | inr new ↦ absurd (false≢true (sym (begins_nothing e nothing) ∙ ap is_begin new.is))
            ];
          };
    }

pub txns_other :
    (events : List Event) (e : Event) (clocked : Bool) (notes : List TxnNote) → ForcesNothing e → AreTxnNotes events clocked notes →
    AreTxnNotes (events ++ e ∷ []) clocked notes
txns_other events e clocked notes nothing are =
    let same : begun (events ++ e ∷ []) ≡ begun events = begun-push_other events e (begins_nothing e nothing) in
    record {
      count = let c = are.count in omega arith;
      each = λ n note is. other_note events e clocked n note nothing (are.each n note is);
    }

-- ---- a begin

-- nothing that was there comes after what begins
begin_old :
    (events : List Event) → IsSound events → (s : ℕ) (level : Level) (clocked : Bool) (n : ℕ) (note : TxnNote) → n ≤ begun events → IsTxnNoteOf events clocked n note →
    IsTxnNoteOf (with_begin events s level) clocked n note
begin_old events sound s level clocked n note old is =
    let more : begun (with_begin events s level) ≡ begun events + 1 = begun-push_start events s level in
    record {
      started = λ positive. let found = is.started positive in (found.0, start_kept events (Begin s level) n note.session found.0 found.1);
      runs = λ positive. runs_kept events (Begin s level) n note.level (is.runs positive);
      clock = λ clocks.
          let own : IsClockOf events n note.clock.items = is.clock clocks in
          record {
            bounded = λ t. let h = own.bounded t in omega arith;
            exact = λ t a p start. elim (start_back events (Begin s level) a t p start) [
              | inl before ↦ (
                λ le. past_kept events (Begin s level) a n ((own.exact t a p before).0 le),
                λ chain. (own.exact t a p before).1 (begin_past_back events sound s level a n old chain),
              )
              | inr new ↦ (
                λ le. let h = own.bounded t in let c = new.counts in absurd (omega arith),
                λ chain. let c = new.counts in absurd (begun_first events sound s level a (omega arith) n chain),
              )
            ];
          };
    }

begin_new :
    (events : List Event) → IsSound events → (s last : ℕ) (level : Level) (clocked : Bool) (before note : TxnNote) → IsLastBegun events s last →
    IsTxnNoteOf events clocked last before → note.session ≡ s → note.level ≡ level → (IsTrue clocked → Raises s last before.clock.items note.clock.items) →
    IsTxnNoteOf (with_begin events s level) clocked (begun events + 1) note
begin_new events sound s last level clocked before note is of session runs raises =
    let more : begun (with_begin events s level) ≡ begun events + 1 = begun-push_start events s level in
    let bounded_last : last ≤ begun events = last_bounded events s last is in
    let begins = pending_begin events s level in
    record {
      started = λ positive. (begins.start, subst (λ (t : ℕ). IsStart (with_begin events s level) (begun events + 1) t begins.start) (sym session) begins.starts);
      runs = λ positive. subst (λ (l : Level). RunsAt (with_begin events s level) (begun events + 1) l) (sym runs) (runs_begin events s level);
      clock = λ clocks.
          let was : IsClockOf events last before.clock.items = of.clock clocks in
          let up : Raises s last before.clock.items note.clock.items = raises clocks in
          let top : (t : ℕ) → get_or note.clock.items t 0 ≤ begun events =
          λ t. elim ((up t (get_or note.clock.items t 0)).0 (omega arith)) [
            | inl on ↦ let h = was.bounded t in omega arith
            | inr own ↦ let h = own.1 in omega arith
          ]
          in
          record {
            bounded = λ t. let h = top t in omega arith;
            exact = λ t a p start. elim (start_back events (Begin s level) a t p start) [
              | inl old ↦ (
                λ le. elim ((up t a).0 le) [
                  | inl on ↦ begin_past_last events sound s last level is a ((was.exact t a p old).0 on)
                  | inr own ↦ begin_past_own events s last level is a p (subst (λ (r : ℕ). IsStart events a r p) own.0 old) own.1
                ],
                λ chain. (up t a).1 (elim (begin_past_new events sound s last level is a t p old chain) [
                  | inl own ↦ inr own
                  | inr on ↦ inl ((was.exact t a p old).1 on)
                ]),
              )
              | inr new ↦ (
                λ le. let h = top t in let c = new.counts in absurd (omega arith),
                λ chain. let c = new.counts in absurd (begun_first events sound s level a (omega arith) (begun events + 1) chain),
              )
            ];
          };
    }

pub txns_begin : (events : List Event) → IsSound events → (s last : ℕ) (level : Level) (clocked : Bool) (old new : List TxnNote) → IsLastBegun events s last →
    AddsTxn clocked s level last old new → AreTxnNotes events clocked old → AreTxnNotes (events ++ Begin s level ∷ []) clocked new
txns_begin events sound s last level clocked old new is adds are =
    let more : begun (with_begin events s level) ≡ begun events + 1 = begun-push_start events s level in
    let long : length (old ++ adds.note ∷ []) ≡ length old + 1 = length_push old adds.note in
    let bounded : last ≤ begun events = last_bounded events s last is in
    let count : length old ≡ begun events + 1 = are.count in
    let made : IsTxnNoteOf (with_begin events s level) clocked (begun events + 1) adds.note =
    elim (slice_get_cases old last).1 [
      | inl found ↦
          begin_new events sound s last level clocked found.0 adds.note is (are.each last found.0 found.2) adds.session_is adds.level_is
          (λ clocks. adds.clock clocks found.0 found.2)
      | inr none ↦ let past = none.0 in absurd (omega arith)
    ]
    in
    subst (λ (notes : List TxnNote). AreTxnNotes (with_begin events s level) clocked notes) (sym adds.adds) record {
      count = omega arith;
      each = λ n note at. elim (slice_get_push_cases old adds.note n note at) [
        | inl before ↦ begin_old events sound s level clocked n note (let h = before.0 in omega arith) (are.each n note before.1)
        | inr now ↦
            let number : n ≡ begun events + 1 = let h = now.0 in omega arith in
            subst (λ (m : ℕ). IsTxnNoteOf (with_begin events s level) clocked m note) (sym number)
            (subst (λ (q : TxnNote). IsTxnNoteOf (with_begin events s level) clocked (begun events + 1) q) now.1 made)
      ];
    }

-- ---- a read

no_begin : (events : List Event) (s : ℕ) (x : Cell) (w n u : ℕ) (v : Value) (a t p : ℕ) → IsStart (with_read events s x w n u v) a t p → IsStart events a t p
no_begin events s x w n u v a t p start =
    elim (start_back events (Read s x w n u v) a t p start) [ inl old ↦ old | inr new ↦ let e : Read s x w n u v ≡ Begin t new.level = new.is in cc ]

-- only the past of the reader grows
read_old :
    (events : List Event) → IsSound events → (s k : ℕ) (x : Cell) (w n u : ℕ) (v : Value) → IsPending events k s → (w ≡ k → ⊥) → (clocked : Bool) (m : ℕ) (note : TxnNote) →
    (IsTrue clocked → m ≡ k → ⊥) → IsTxnNoteOf events clocked m note → IsTxnNoteOf (with_read events s x w n u v) clocked m note
read_old events sound s k x w n u v pending apart clocked m note other is =
    let e : Event = Read s x w n u v in
    let same : begun (with_read events s x w n u v) ≡ begun events = begun-push_other events e refl in
    record {
      started = λ positive. let found = is.started positive in (found.0, start_kept events e m note.session found.0 found.1);
      runs = λ positive. runs_kept events e m note.level (is.runs positive);
      clock = λ clocks.
          let own : IsClockOf events m note.clock.items = is.clock clocks in
          record {
            bounded = λ t. let h = own.bounded t in omega arith;
            exact = λ t a p start.
                let old : IsStart events a t p = no_begin events s x w n u v a t p start in (
                  λ le. past_kept events e a m ((own.exact t a p old).0 le),
                  λ chain. elim (read_past_back events sound s k x w n u v pending apart a m chain) [
                    | inl before ↦ (own.exact t a p old).1 before
                    | inr into ↦ absurd (other clocks into.0)
                  ],
                );
          };
    }

-- a reader that has the source in its past has the past of the source there
read_had :
    (events : List Event) → IsSound events → (s k : ℕ) (x : Cell) (w n u : ℕ) (v : Value) → IsPending events k s → (w ≡ k → ⊥) → (clocked : Bool) (own from : TxnNote) →
    IsTxnNoteOf events clocked k own → IsTxnNoteOf events clocked w from → w ≤ get_or own.clock.items from.session 0 →
    IsTxnNoteOf (with_read events s x w n u v) clocked k own
read_had events sound s k x w n u v pending apart clocked own from is of reached =
    let e : Event = Read s x w n u v in
    let same : begun (with_read events s x w n u v) ≡ begun events = begun-push_other events e refl in
    record {
      started = λ positive. let found = is.started positive in (found.0, start_kept events e k own.session found.0 found.1);
      runs = λ positive. runs_kept events e k own.level (is.runs positive);
      clock = λ clocks.
          let mine : IsClockOf events k own.clock.items = is.clock clocks in
          let has : 0 < w → PrecedesCausally events w k =
          λ some. let found = of.started some in (mine.exact from.session w found.0 found.1).0 reached
          in
          record {
            bounded = λ t. let h = mine.bounded t in omega arith;
            exact = λ t a p start.
                let old : IsStart events a t p = no_begin events s x w n u v a t p start in
                let positive : 0 < a = start_positive events a t p old in (
                  λ le. past_kept events e a k ((mine.exact t a p old).0 le),
                  λ chain. (mine.exact t a p old).1 (elim (read_past_back events sound s k x w n u v pending apart a k chain) [
                    | inl before ↦ before
                    | inr into ↦ elim into.1 [
                      | inl one ↦ subst (λ (m : ℕ). PrecedesCausally events m k) (sym one) (has (omega arith))
                      | inr on ↦ elim (cases_lt 0 w) [
                        | inl some ↦ chained_on (Precedes events) a w k on (has some)
                        | inr none ↦
                            let zero : w ≡ 0 = omega arith in
                            absurd (none_before_first events sound a (subst (λ (m : ℕ). PrecedesCausally events a m) zero on))
                      ]
                    ]
                  ]),
                );
          };
    }

read_new :
    (events : List Event) → IsSound events → (s k : ℕ) (x : Cell) (w n u : ℕ) (v : Value) → IsPending events k s → (w ≡ k → ⊥) → w ≤ begun events → (clocked : Bool)
    (own from note : TxnNote) → IsTxnNoteOf events clocked k own → IsTxnNoteOf events clocked w from → note.session ≡ own.session → note.level ≡ own.level →
    TakesClock w from own.clock.items note.clock.items → IsTxnNoteOf (with_read events s x w n u v) clocked k note
read_new events sound s k x w n u v pending apart small clocked own from note is of session runs takes =
    let e : Event = Read s x w n u v in
    let same : begun (with_read events s x w n u v) ≡ begun events = begun-push_other events e refl in
    record {
      started = λ positive.
          let found = is.started positive in
          (found.0, start_kept events e k note.session found.0 (subst (λ (t : ℕ). IsStart events k t found.0) (sym session) found.1));
      runs = λ positive. runs_kept events e k note.level (subst (λ (l : Level). RunsAt events k l) (sym runs) (is.runs positive));
      clock = λ clocks.
          let mine : IsClockOf events k own.clock.items = is.clock clocks in
          let theirs : IsClockOf events w from.clock.items = of.clock clocks in
          record {
            bounded = λ t. elim ((takes t (get_or note.clock.items t 0)).0 (omega arith)) [
              | inl a ↦ let h = mine.bounded t in omega arith
              | inr more ↦ elim more [ inl b ↦ let h = theirs.bounded t in omega arith | inr c ↦ let h = c.1 in omega arith ]
            ];
            exact = λ t a p start.
                let old : IsStart events a t p = no_begin events s x w n u v a t p start in
                let both = takes t a in (
                  λ le. elim (both.0 le) [
                    | inl was ↦ past_kept events e a k ((mine.exact t a p old).0 was)
                    | inr more ↦ elim more [
                      | inl on ↦ read_past_source events s k x w n u v pending a (inr ((theirs.exact t a p old).0 on))
                      | inr source ↦ elim (cases_eq a w) [
                        | inl one ↦ read_past_source events s k x w n u v pending a (inl one)
                        | inr apart_too ↦
                            let h = source.1 in
                            let found = of.started (omega arith) in
                            read_past_source events s k x w n u v pending a
                            (inr (chained_one (Precedes events) a w (inl record {
                              earlier = omega arith;
                              place = found.0;
                              session = from.session;
                              started = found.1;
                              same = inr (p, subst (λ (r : ℕ). IsStart events a r p) source.0 old);
                            })))
                      ]
                    ]
                  ],
                  λ chain. elim (read_past_back events sound s k x w n u v pending apart a k chain) [
                    | inl before ↦ both.1 (inl ((mine.exact t a p old).1 before))
                    | inr into ↦ elim into.1 [
                      | inl one ↦
                          let positive : 0 < a = start_positive events a t p old in
                          let found = of.started (omega arith) in
                          let here : t ≡ from.session =
                          start_session events a t from.session p found.0 old (subst (λ (m : ℕ). IsStart events m from.session found.0) (sym one) found.1) in
                          both.1 (inr (inr (here, omega arith)))
                      | inr on ↦ both.1 (inr (inl ((theirs.exact t a p old).1 on)))
                    ]
                  ],
                );
          };
    }

pub txns_read : (events : List Event) → IsSound events → (s k : ℕ) (cell : Cell) (w n u : ℕ) (v : Value) → IsPending events k s → (w ≡ k → ⊥) →
    (clocked : Bool) (old new : List TxnNote) → NotesSource clocked k w old new → AreTxnNotes events clocked old → AreTxnNotes (events ++ Read s cell w n u v ∷ []) clocked new
txns_read events sound s k cell w n u v pending apart clocked old new notes are =
    let same : begun (with_read events s cell w n u v) ≡ begun events = begun-push_other events (Read s cell w n u v) refl in
    let count : length old ≡ begun events + 1 = are.count in
    let either : ((IsTrue clocked → ⊥) × (new ≡ old)) ⊎ ((HasSource k w old × (new ≡ old)) ⊎ TakesIn k w old new) = notes in
    elim either [
      | inl none ↦
          subst (λ (xs : List TxnNote). AreTxnNotes (with_read events s cell w n u v) clocked xs) (sym none.1) record {
            count = are.count ∙ ap (λ (m : ℕ). m + 1) (sym same);
            each = λ m note at. read_old events sound s k cell w n u v pending apart clocked m note (λ clocks one. none.0 clocks) (are.each m note at);
          }
      | inr clocks ↦ elim clocks [
        | inl had ↦
            let has : HasSource k w old = had.0 in
            let made : IsTxnNoteOf (with_read events s cell w n u v) clocked k has.own =
            read_had events sound s k cell w n u v pending apart clocked has.own has.from (are.each k has.own has.own_is) (are.each w has.from has.from_is) has.reached
            in
            subst (λ (xs : List TxnNote). AreTxnNotes (with_read events s cell w n u v) clocked xs) (sym had.1) record {
              count = are.count ∙ ap (λ (m : ℕ). m + 1) (sym same);
              each = λ m note at. elim (cases_eq m k) [
                | inl one ↦
                    let here : slice_get old k ≡ Some note = subst (λ (i : ℕ). slice_get old i ≡ Some note) one at in
                    let own : has.own ≡ note = same_Some has.own note (sym has.own_is ∙ here) in
                    subst (λ (i : ℕ). IsTxnNoteOf (with_read events s cell w n u v) clocked i note) (sym one)
                    (subst (λ (q : TxnNote). IsTxnNoteOf (with_read events s cell w n u v) clocked k q) own made)
                | inr away ↦ read_old events sound s k cell w n u v pending apart clocked m note (λ is_clocked one. away one) (are.each m note at)
              ];
            }
        | inr into ↦
            let within : w < length old = slice_get_within old w into.from into.from_is in
            let small : w ≤ begun events = omega arith in
            let made : IsTxnNoteOf (with_read events s cell w n u v) clocked k into.note =
            read_new events sound s k cell w n u v pending apart small clocked into.own into.from into.note (are.each k into.own into.own_is)
            (are.each w into.from into.from_is) into.session_is into.level_is into.takes
            in
            subst (λ (xs : List TxnNote). AreTxnNotes (with_read events s cell w n u v) clocked xs) (sym into.set_to) record {
              count = length-set old k into.note ∙ are.count ∙ ap (λ (m : ℕ). m + 1) (sym same);
              each = λ m note at. elim (slice_get-set_cases old k m into.note note at) [
                | inl here ↦
                    subst (λ (q : TxnNote). IsTxnNoteOf (with_read events s cell w n u v) clocked m q) here.1
                    (subst (λ (i : ℕ). IsTxnNoteOf (with_read events s cell w n u v) clocked i into.note) (sym here.0) made)
                | inr other ↦
                    let away : m ≡ k → ⊥ = other.0 in
                    read_old events sound s k cell w n u v pending apart clocked m note (λ is_clocked one. away one) (are.each m note other.1)
              ];
            }
      ]
    ]

-- ---- no clocks any more

pub txns_narrower : (events : List Event) (old new : Bool) (notes : List TxnNote) → (IsTrue new → IsTrue old) → AreTxnNotes events old notes → AreTxnNotes events new notes
txns_narrower events old new notes fewer are = record {
  count = are.count;
  each = λ n note at.
      let is : IsTxnNoteOf events old n note = are.each n note at in
      record { started = is.started; runs = is.runs; clock = λ clocks. is.clock (fewer clocks) };
}

-- ---- a clock that is raised

-- what isn't there is 0, so a clock that is lengthened by zeros shows the same everywhere
width_kept : (width : ℕ) (old new : List ℕ) → IsWidened width old new → (i : ℕ) → get_or new i 0 ≡ get_or old i 0
width_kept width old new is i =
    elim (cases_lt i (length old)) [
      | inl here ↦ is.kept i here
      | inr past ↦
          let none : get_or old i 0 ≡ 0 = get_or_past old i 0 past in
          elim (cases_lt i width) [
            | inl small ↦ is.zeros i past small ∙ sym none
            | inr beyond ↦ get_or_past new i 0 (let count = is.count in omega arith) ∙ sym none
          ]
    ]

pub width_made :
    (width size : ℕ) (old new : List ℕ) → size ≡ length old → length old ≤ width → new ≡ take width old ++ replicate {A = ℕ} (width - size) 0 →
    (width ≤ length new) × ((i : ℕ) → get_or new i 0 ≡ get_or old i 0)
width_made width size old new same wider is =
    let wide : IsWidened width old new = widened width size old new same wider is in
    let count : length new ≡ width = wide.count in
    (omega arith, width_kept width old new wide)

pub one_raised :
    (at number top : ℕ) (old : List ℕ) → at < length old → top ≡ max (get_or old at 0) number → Raises at number old (set old at top)
one_raised at number top old within is = λ i n. elim (at_set old at top i within) [
  | inl here ↦
      let now = here.1 in
      let was : get_or old i 0 ≡ get_or old at 0 = ap (λ (j : ℕ). get_or old j 0) here.0 in (
        λ le. elim (cases_lt (get_or old i 0) n) [ inl above ↦ inr (here.0, omega arith) | inr under ↦ inl under ],
        λ either. elim either [ inl low ↦ omega arith | inr own ↦ let h = own.1 in omega arith ],
      )
  | inr other ↦
      let now = other.1 in (
        λ le. inl (omega arith),
        λ either. elim either [ inl low ↦ omega arith | inr own ↦ absurd (other.0 own.0) ],
      )
]

-- to make room for a number raises none
pub raised_after :
    (at number : ℕ) (old mid new : List ℕ) → ((i : ℕ) → get_or mid i 0 ≡ get_or old i 0) → Raises at number mid new → Raises at number old new
raised_after at number old mid new same raises = λ i n.
    let was = same i in
    let up = raises i n in (
      λ le. elim (up.0 le) [ inl low ↦ inl (omega arith) | inr own ↦ inr own ],
      λ either. up.1 (elim either [ inl low ↦ inl (omega arith) | inr own ↦ inr own ]),
    )

-- what of the others isn't there is 0, so it is enough to come to their end
pub all_raised : (before others new : List ℕ) (n : ℕ) → length others ≤ n → AreRaised before others new n → RaisesAll others before new
all_raised before others new n past are = λ i m. elim (cases_lt i n) [
  | inl under ↦ greater_one (get_or before i 0) (get_or others i 0) (get_or new i 0) m (are.done i under)
  | inr over ↦
      let now : get_or new i 0 ≡ get_or before i 0 = are.left i over in
      let none : get_or others i 0 ≡ 0 = get_or_past others i 0 (omega arith) in (
        λ le. inl (omega arith),
        λ either. elim either [ inl low ↦ omega arith | inr other ↦ omega arith ],
      )
]

-- ---- the clock of a reader

pub clock_taken :
    (number : ℕ) (source : TxnNote) (old wide mid new : List ℕ) → ((i : ℕ) → get_or wide i 0 ≡ get_or old i 0) → RaisesAll source.clock.items wide mid →
    Raises source.session number mid new → TakesClock number source old new
clock_taken number source old wide mid new same all one = λ i n.
    let was = same i in
    let both = all i n in
    let up = one i n in (
      λ le. elim (up.0 le) [
        | inl before ↦ elim (both.0 before) [ inl mine ↦ inl (omega arith) | inr theirs ↦ inr (inl theirs) ]
        | inr here ↦ inr (inr here)
      ],
      λ either. up.1 (elim either [
        | inl mine ↦ inl (both.1 (inl (omega arith)))
        | inr more ↦ elim more [ inl theirs ↦ inl (both.1 (inr theirs)) | inr here ↦ inr here ]
      ]),
    )

-- the source is read while another note stands in the place of the reader's
pub source_taken :
    (reader source : ℕ) (old mid new : List TxnNote) (blank own from note : TxnNote) → (source ≡ reader → ⊥) → slice_get old reader ≡ Some own → mid ≡ set old reader blank →
    slice_get mid source ≡ Some from → new ≡ set mid reader note → note.session ≡ own.session → note.level ≡ own.level → TakesClock source from own.clock.items note.clock.items →
    TakesIn reader source old new
source_taken reader source old mid new blank own from note apart was taken there put session level takes = record {
  own = own;
  from = from;
  note = note;
  own_is = was;
  from_is = sym (slice_get-set_other old reader source blank apart) ∙ ap (λ (notes : List TxnNote). slice_get notes source) (sym taken) ∙ there;
  set_to = put ∙ ap (λ (notes : List TxnNote). set notes reader note) taken ∙ set-set old reader blank note;
  session_is = session;
  level_is = level;
  takes = takes;
}
