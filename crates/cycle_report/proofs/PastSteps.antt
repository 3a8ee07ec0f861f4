-- How the pasts go on standing for the events.
use Rattle.std.proofs.Common.{◌≡◌, ℕ, ◌+◌, ◌<◌, ◌≤◌, List, [], ◌∷◌, ◌++◌, length, get_or, get_or-set_same, get_or-set_other, set, arith, refl, ap, sym, ◌∙◌, subst, inl, inr, ◌⊎◌}
use Rattle.std.proofs.lemmas.List.{length_push, length-set, get_or_past}
use Rattle.std.proofs.lemmas.Option.{slice_get_cases}
use Rattle.std.proofs.lemmas.Bool.{cases_eq, cases_lt, false≢true}
use Rattle.txn_buffer.proofs.Lists.{slice_get_push_cases, slice_get-set_cases}
use Rattle.graph_base.proofs.Chains.{chained_one}
use Rattle.cell_base.specs.declared.level.Level.{Level}
use Rattle.cell_base.specs.declared.cell.Cell.{Cell}
use Rattle.cell_base.specs.declared.value.Value.{Value}
use Rattle.history_core.specs.declared.event.Event.{Event}
use Rattle.history_core.specs.declared.event.Event.TheVariants.{Begin, Read}
use Rattle.history_core.specs.Events.{begun, is_begin}
use Rattle.history_core.specs.Transactions.{IsStart, IsPending}
use Rattle.history_core.specs.Relations.{Precedes}
use Rattle.history_core.proofs.Places.{start_session}
use Rattle.history_core.proofs.Grown.{start_back, start_kept}
use Rattle.history_core.proofs.Prefixes.{IsSound, start_positive, start_bounded, begun-push_start, begun-push_other}
use Rattle.history_core.proofs.Next.{pending_begin}
use Rattle.saturation.specs.Laws.{with_read}
use Rattle.further_reads.specs.Begun.{ForcesNothing, with_begin, IsLastBegun}
use Rattle.further_reads.proofs.Sources.{begins_nothing}
use Rattle.cycle_report.specs.declared.pasts.Past.{Past}
use Rattle.order_test.specs.Settled.{IsSettled}
use Rattle.cycle_report.specs.Pasts.{IsPastOf, AreRows, TakesIn, TakesFrom, AddsAfter}
use Rattle.order_test.proofs.Closing.{read_past_back, past_kept, read_past_source, other_past_back, begun_first, begin_past_back, begin_past_new, begin_past_own, begin_past_last}

pub sound_from : (events : List Event) → IsSettled events → IsSound events
sound_from events settled = record { sources = settled.sources; last = settled.last }

-- ---- an event that is neither a begin nor a read

other_past :
    (events : List Event) (e : Event) (width n : ℕ) (past : Past) → ForcesNothing e → IsPastOf events width n past → IsPastOf (events ++ e ∷ []) width n past
other_past events e width n past nothing is =
    let same : begun (events ++ e ∷ []) ≡ begun events = begun-push_other events e (begins_nothing e nothing) in
    record {
      count = is.count;
      within = is.within;
      bounded = λ s. let h = is.bounded s in omega arith;
      started = λ positive. let found = is.started positive in (found.0, start_kept events e n past.session found.0 found.1);
      exact = λ s a p start. elim (start_back events e a s p start) [
        | inl old ↦ (
          λ le. past_kept events e a n ((is.exact s a p old).0 le),
          λ chain. (is.exact s a p old).1 (other_past_back events e nothing a n chain),
        )
        | inr new ↦ absurd (false≢true (sym (begins_nothing e nothing) ∙ ap is_begin new.is))
      ];
    }

pub other_rows :
    (events : List Event) (e : Event) (width : ℕ) (rows : List Past) → ForcesNothing e → AreRows events width rows → AreRows (events ++ e ∷ []) width rows
other_rows events e width rows nothing are =
    let same : begun (events ++ e ∷ []) ≡ begun events = begun-push_other events e (begins_nothing e nothing) in
    record {
      count = let c = are.count in omega arith;
      each = λ n past is. other_past events e width n past nothing (are.each n past is);
    }

-- ---- a begin

-- what is at a place of a list in which one number was set
pub at_set : (xs : List ℕ) (place value at : ℕ) → place < length xs →
    ((at ≡ place) × (get_or (set xs place value) at 0 ≡ value)) ⊎ ((at ≡ place → ⊥) × (get_or (set xs place value) at 0 ≡ get_or xs at 0))
at_set xs place value at within =
    elim (cases_eq at place) [
      | inl same ↦ inl (same, ap (λ (i : ℕ). get_or (set xs place value) i 0) same ∙ get_or-set_same xs place value 0 within)
      | inr other ↦ inr (other, get_or-set_other xs place at value 0 other)
    ]

begin_old :
    (events : List Event) → IsSound events → (s : ℕ) (level : Level) (width n : ℕ) (past : Past) → n ≤ begun events → IsPastOf events width n past →
    IsPastOf (with_begin events s level) width n past
begin_old events sound s level width n past old is =
    let more : begun (with_begin events s level) ≡ begun events + 1 = begun-push_start events s level in
    record {
      count = is.count;
      within = is.within;
      bounded = λ t. let h = is.bounded t in omega arith;
      started = λ positive. let found = is.started positive in (found.0, start_kept events (Begin s level) n past.session found.0 found.1);
      exact = λ t a p start. elim (start_back events (Begin s level) a t p start) [
        | inl before ↦ (
          λ le. past_kept events (Begin s level) a n ((is.exact t a p before).0 le),
          λ chain. (is.exact t a p before).1 (begin_past_back events sound s level a n old chain),
        )
        | inr new ↦ (
          λ le. let h = is.bounded t in let c = new.counts in absurd (omega arith),
          λ chain. let c = new.counts in absurd (begun_first events sound s level a (omega arith) n chain),
        )
      ];
    }

begin_new :
    (events : List Event) → IsSound events → (s last : ℕ) (level : Level) (width : ℕ) (before past : Past) → IsLastBegun events s last → s < width →
    IsPastOf events width last before → past.session ≡ s → past.tops.items ≡ set before.tops.items s last → IsPastOf (with_begin events s level) width (begun events + 1) past
begin_new events sound s last level width before past is small of session tops =
    let more : begun (with_begin events s level) ≡ begun events + 1 = begun-push_start events s level in
    let within : s < length before.tops.items = let c = of.count in omega arith in
    let begins = pending_begin events s level in
    let bounded_last : last ≤ begun events = elim is.is [ inl none ↦ omega arith | inr found ↦ start_bounded events last s found.0 found.1 ] in
    let read : (t : ℕ) → ((t ≡ s) × (get_or past.tops.items t 0 ≡ last)) ⊎ ((t ≡ s → ⊥) × (get_or past.tops.items t 0 ≡ get_or before.tops.items t 0)) =
    λ t. subst (λ (xs : List ℕ). ((t ≡ s) × (get_or xs t 0 ≡ last)) ⊎ ((t ≡ s → ⊥) × (get_or xs t 0 ≡ get_or before.tops.items t 0))) (sym tops)
    (at_set before.tops.items s last t within)
    in
    let top : (t : ℕ) → get_or past.tops.items t 0 ≤ begun events =
    λ t. elim (read t) [ inl own ↦ let v = own.1 in omega arith | inr other ↦ let v = other.1 in let h = of.bounded t in omega arith ]
    in
    record {
      count = ap length tops ∙ length-set before.tops.items s last ∙ of.count;
      within = subst (λ (t : ℕ). t < width) (sym session) small;
      bounded = λ t. let h = top t in omega arith;
      started = λ positive. (begins.start, subst (λ (t : ℕ). IsStart (with_begin events s level) (begun events + 1) t begins.start) (sym session) begins.starts);
      exact = λ t a p start. elim (start_back events (Begin s level) a t p start) [
        | inl old ↦ (
          λ le. elim (read t) [
            | inl own ↦
                let v = own.1 in
                begin_past_own events s last level is a p (subst (λ (r : ℕ). IsStart events a r p) own.0 old) (omega arith)
            | inr other ↦
                let v = other.1 in
                begin_past_last events sound s last level is a ((of.exact t a p old).0 (omega arith))
          ],
          λ chain. elim (begin_past_new events sound s last level is a t p old chain) [
            | inl own ↦ elim (read t) [
              | inl here ↦ let v = here.1 in let h = own.1 in omega arith
              | inr other ↦ absurd (other.0 own.0)
            ]
            | inr on ↦ elim (read t) [
              | inl here ↦
                  let v = here.1 in
                  let h : a ≤ last = is.latest a p (subst (λ (r : ℕ). IsStart events a r p) here.0 old) in omega arith
              | inr other ↦ let v = other.1 in let h : a ≤ get_or before.tops.items t 0 = (of.exact t a p old).1 on in omega arith
            ]
          ],
        )
        | inr new ↦ (
          λ le. let h = top t in let c = new.counts in absurd (omega arith),
          λ chain. let c = new.counts in absurd (begun_first events sound s level a (omega arith) (begun events + 1) chain),
        )
      ];
    }

pub begin_rows :
    (events : List Event) → IsSound events → (s last : ℕ) (level : Level) (width : ℕ) (old new : List Past) → IsLastBegun events s last → s < width →
    AreRows events width old → AddsAfter last s old new → AreRows (with_begin events s level) width new
begin_rows events sound s last level width old new is small are adds =
    let more : begun (with_begin events s level) ≡ begun events + 1 = begun-push_start events s level in
    let long : length (old ++ adds.past ∷ []) ≡ length old + 1 = length_push old adds.past in
    subst (λ (rows : List Past). AreRows (with_begin events s level) width rows) (sym adds.adds) record {
      count = let c = are.count in omega arith;
      each = λ n past at. elim (slice_get_push_cases old adds.past n past at) [
        | inl before ↦
            begin_old events sound s level width n past (let c = are.count in let h = before.0 in omega arith) (are.each n past before.1)
        | inr now ↦
            let number : n ≡ begun events + 1 = let c = are.count in let h = now.0 in omega arith in
            let made : IsPastOf (with_begin events s level) width (begun events + 1) adds.past =
            begin_new events sound s last level width adds.before adds.past is small (are.each last adds.before adds.is) adds.session_is adds.tops in
            subst (λ (m : ℕ). IsPastOf (with_begin events s level) width m past) (sym number)
            (subst (λ (q : Past). IsPastOf (with_begin events s level) width (begun events + 1) q) now.1 made)
      ];
    }

-- ---- a read

-- a session in which a transaction has started is below the width
session_within : (events : List Event) (width : ℕ) (rows : List Past) → AreRows events width rows → (a s p : ℕ) → IsStart events a s p → s < width
session_within events width rows are a s p start =
    let h : a ≤ begun events = start_bounded events a s p start in
    let c = are.count in
    elim (slice_get_cases rows a).1 [
      | inl found ↦
          let past = are.each a found.0 found.2 in
          let own = past.started (start_positive events a s p start) in
          let same : s ≡ found.0.session = start_session events a s found.0.session p own.0 start own.1 in
          let w = past.within in
          omega arith
      | inr none ↦ let q = none.0 in absurd (omega arith)
    ]

no_begin : (events : List Event) (s : ℕ) (x : Cell) (w n u : ℕ) (v : Value) (a t p : ℕ) → IsStart (with_read events s x w n u v) a t p → IsStart events a t p
no_begin events s x w n u v a t p start =
    elim (start_back events (Read s x w n u v) a t p start) [ inl old ↦ old | inr new ↦ let e : Read s x w n u v ≡ Begin t new.level = new.is in cc ]

read_old :
    (events : List Event) → IsSound events → (s k : ℕ) (x : Cell) (w n u : ℕ) (v : Value) → IsPending events k s → (w ≡ k → ⊥) → (width m : ℕ) (past : Past) →
    (m ≡ k → ⊥) → IsPastOf events width m past → IsPastOf (with_read events s x w n u v) width m past
read_old events sound s k x w n u v pending apart width m past other is =
    let e : Event = Read s x w n u v in
    let same : begun (with_read events s x w n u v) ≡ begun events = begun-push_other events e refl in
    record {
      count = is.count;
      within = is.within;
      bounded = λ t. let h = is.bounded t in omega arith;
      started = λ positive. let found = is.started positive in (found.0, start_kept events e m past.session found.0 found.1);
      exact = λ t a p start.
          let old = no_begin events s x w n u v a t p start in (
            λ le. past_kept events e a m ((is.exact t a p old).0 le),
            λ chain. elim (read_past_back events sound s k x w n u v pending apart a m chain) [
              | inl before ↦ (is.exact t a p old).1 before
              | inr into ↦ absurd (other into.0)
            ],
          );
    }

read_new :
    (events : List Event) → IsSound events → (s k : ℕ) (x : Cell) (w n u : ℕ) (v : Value) → IsPending events k s → (w ≡ k → ⊥) → w ≤ begun events → (width : ℕ) (rows : List Past)
    (own from past : Past) → AreRows events width rows → IsPastOf events width k own → IsPastOf events width w from → TakesIn w from own past →
    IsPastOf (with_read events s x w n u v) width k past
read_new events sound s k x w n u v pending apart small width rows own from past are is of takes =
    let e : Event = Read s x w n u v in
    let same : begun (with_read events s x w n u v) ≡ begun events = begun-push_other events e refl in
    let count : length past.tops.items ≡ width = takes.count ∙ is.count in
    let long : length own.tops.items ≡ width = is.count in
    record {
      count = count;
      within = subst (λ (t : ℕ). t < width) (sym takes.session) is.within;
      bounded = λ t. elim (cases_lt t width) [
        | inl less ↦ elim ((takes.exact t (get_or past.tops.items t 0) (omega arith)).0 (omega arith)) [
          | inl a ↦ let h = is.bounded t in omega arith
          | inr more ↦ elim more [ inl b ↦ let h = of.bounded t in omega arith | inr c ↦ let h = c.1 in omega arith ]
        ]
        | inr beyond ↦ let none : get_or past.tops.items t 0 ≡ 0 = get_or_past past.tops.items t 0 (omega arith) in omega arith
      ];
      started = λ positive.
          let found = is.started positive in
          (found.0, start_kept events e k past.session found.0 (subst (λ (t : ℕ). IsStart events k t found.0) (sym takes.session) found.1));
      exact = λ t a p start.
          let old = no_begin events s x w n u v a t p start in
          let less : t < length own.tops.items = let h = session_within events width rows are a t p old in omega arith in
          let both = takes.exact t a less in (
            λ le. elim (both.0 le) [
              | inl mine ↦ past_kept events e a k ((is.exact t a p old).0 mine)
              | inr more ↦ elim more [
                | inl theirs ↦ read_past_source events s k x w n u v pending a (inr ((of.exact t a p old).0 theirs))
                | inr source ↦ elim (cases_eq a w) [
                  | inl one ↦ read_past_source events s k x w n u v pending a (inl one)
                  | inr apart_too ↦
                      let h = source.1 in
                      let found = of.started (omega arith) in
                      read_past_source events s k x w n u v pending a
                      (inr (chained_one (Precedes events) a w (inl record {
                        earlier = omega arith;
                        place = found.0;
                        session = from.session;
                        started = found.1;
                        same = inr (p, subst (λ (r : ℕ). IsStart events a r p) source.0 old);
                      })))
                ]
              ]
            ],
            λ chain. elim (read_past_back events sound s k x w n u v pending apart a k chain) [
              | inl before ↦ both.1 (inl ((is.exact t a p old).1 before))
              | inr into ↦ elim into.1 [
                | inl one ↦
                    let positive : 0 < a = start_positive events a t p old in
                    let found = of.started (omega arith) in
                    let here : t ≡ from.session =
                    start_session events a t from.session p found.0 old (subst (λ (m : ℕ). IsStart events m from.session found.0) (sym one) found.1) in
                    both.1 (inr (inr (here, omega arith)))
                | inr on ↦ both.1 (inr (inl ((of.exact t a p old).1 on)))
              ]
            ],
          );
    }

pub read_rows :
    (events : List Event) → IsSound events → (s k : ℕ) (x : Cell) (w n u : ℕ) (v : Value) → IsPending events k s → (w ≡ k → ⊥) → w ≤ begun events → (width : ℕ) (old new : List Past) →
    AreRows events width old → TakesFrom k w old new → AreRows (with_read events s x w n u v) width new
read_rows events sound s k x w n u v pending apart small width old new are takes =
    let same : begun (with_read events s x w n u v) ≡ begun events = begun-push_other events (Read s x w n u v) refl in
    let c = takes.changes in
    let made : IsPastOf (with_read events s x w n u v) width k c.after =
    read_new events sound s k x w n u v pending apart small width old c.before takes.from c.after are (are.each k c.before c.is) (are.each w takes.from takes.is) c.changes in
    rw c.set_to record {
      count = length-set old k c.after ∙ are.count ∙ ap (λ (m : ℕ). m + 1) (sym same);
      each = λ m past at. elim (slice_get-set_cases old k m c.after past at) [
        | inl here ↦
            subst (λ (q : Past). IsPastOf (with_read events s x w n u v) width m q) here.1
            (subst (λ (i : ℕ). IsPastOf (with_read events s x w n u v) width i c.after) (sym here.0) made)
        | inr other ↦ read_old events sound s k x w n u v pending apart width m past other.0 (are.each m past other.1)
      ];
    }
