-- Neighbours in sessions, and what rises along them.
use Rattle.std.proofs.Common.{◌≡◌, ℕ, ◌+◌, ◌<◌, ◌≤◌, zero, suc, List, [], ◌∷◌, ◌++◌, length, take, arith, refl, ap, sym, ◌∙◌, subst, inl, inr}
use Rattle.std.proofs.lemmas.List.{take-take, length-take-le}
use Rattle.std.proofs.lemmas.Option.{slice_get_within}
use Rattle.std.proofs.lemmas.Bool.{cases_eq, cases_lt}
use Rattle.history_core.specs.declared.event.Event.{Event}
use Rattle.history_core.specs.declared.event.Event.TheVariants.{Open, Close, Define, Look, Begin, Scan, Read, Own, Write, Commit, Rollback, Show}
use Rattle.history_core.specs.Events.{begun}
use Rattle.history_core.specs.Transactions.{IsStart}
use Rattle.history_core.specs.Relations.{IsSessionOrdered}
use Rattle.history_core.proofs.Places.{slice_get-take, begun-take-le, begun-take_past}
use Rattle.history_core.proofs.Prefixes.{along, start_positive}
use Rattle.further_reads.specs.Begun.{IsLastBegun}
use Rattle.further_reads.proofs.Lasts.{last_begun_none, last_begun_still, last_begun_other, last_begun_now}
use Rattle.cycle_report.specs.Reasons.{IsNext}

-- each session has begun a last transaction, or none
pub last_exists : (events : List Event) (s : ℕ) → (last : ℕ) × IsLastBegun events s last
last_exists events s = along (λ (h : List Event). (last : ℕ) × IsLastBegun h s last) (λ h e holds. step h e holds) [] events (0, last_begun_none s)
  where
    step : (h : List Event) (e : Event) → ((last : ℕ) × IsLastBegun h s last) → (last : ℕ) × IsLastBegun (h ++ e ∷ []) s last
    step h (Begin t level) (last, is) =
        elim (cases_eq s t) [
          | inl same ↦
              (begun h + 1, subst (λ (r : ℕ). IsLastBegun (h ++ Begin t level ∷ []) r (begun h + 1)) (sym same) (last_begun_now h t level))
          | inr apart ↦ (last, last_begun_other h t level s last apart is)
        ]
    step h (Open t) (last, is) = (last, last_begun_still h (Open t) s last refl is)
    step h (Close t) (last, is) = (last, last_begun_still h (Close t) s last refl is)
    step h (Define t name) (last, is) = (last, last_begun_still h (Define t name) s last refl is)
    step h (Look t count) (last, is) = (last, last_begun_still h (Look t count) s last refl is)
    step h (Scan t table keys) (last, is) = (last, last_begun_still h (Scan t table keys) s last refl is)
    step h (Read t x w n u v) (last, is) = (last, last_begun_still h (Read t x w n u v) s last refl is)
    step h (Own t x v) (last, is) = (last, last_begun_still h (Own t x v) s last refl is)
    step h (Write t x v) (last, is) = (last, last_begun_still h (Write t x v) s last refl is)
    step h (Commit t) (last, is) = (last, last_begun_still h (Commit t) s last refl is)
    step h (Rollback t) (last, is) = (last, last_begun_still h (Rollback t) s last refl is)
    step h (Show t number) (last, is) = (last, last_begun_still h (Show t number) s last refl is)

-- ---- starts in a front

pub front_start : (events : List Event) (n k s p : ℕ) → p < n → IsStart events k s p → IsStart (take n events) k s p
front_start events n k s p less start = record {
  level = start.level;
  is = slice_get-take events n p less ∙ start.is;
  counts =
      let same : begun (take p (take n events)) ≡ begun (take p events) = ap begun (take-take p n events (omega arith)) in
      let c = start.counts in omega arith;
}

pub back_start : (events : List Event) (n k s p : ℕ) → n ≤ length events → IsStart (take n events) k s p → (p < n) × IsStart events k s p
back_start events n k s p within start =
    let inside : p < length (take n events) = slice_get_within (take n events) p (Begin s start.level) start.is in
    let long : length (take n events) ≡ n = length-take-le n events within in
    let less : p < n = omega arith in
    let same : begun (take p (take n events)) ≡ begun (take p events) = ap begun (take-take p n events (omega arith)) in (
      less,
      record {
        level = start.level;
        is = sym (slice_get-take events n p less) ∙ start.is;
        counts = let c = start.counts in omega arith;
      },
    )

pub starts_rise : (events : List Event) (a b s t p q : ℕ) → IsStart events a s p → IsStart events b t q → a < b → p < q
starts_rise events a b s t p q first second less =
    elim (cases_lt p q) [
      | inl before ↦ before
      | inr after ↦
          let h = begun-take-le events q p after in
          let c = first.counts in let d = second.counts in absurd (omega arith)
    ]

-- ---- neighbours

pub place_within : (events : List Event) (a b : ℕ) → (next : IsNext events a b) → next.place < length events
place_within events a b next = slice_get_within events next.place (Begin next.session next.started.level) next.started.is

pub next_less : (events : List Event) (a b : ℕ) → IsNext events a b → a < b
next_less events a b next =
    let within = place_within events a b next in
    elim next.last.is [
      | inl none ↦ let positive : 0 < b = start_positive events b next.session next.place next.started in omega arith
      | inr start ↦
          let own = back_start events next.place a next.session start.0 (omega arith) start.1 in
          let h = begun-take_past events next.session own.1.level start.0 next.place own.1.is own.0 in
          let c = own.1.counts in let d = next.started.counts in omega arith
    ]

pub next_ordered : (events : List Event) (a b : ℕ) → IsNext events a b → IsSessionOrdered events a b
next_ordered events a b next = record {
  earlier = next_less events a b next;
  place = next.place;
  session = next.session;
  started = next.started;
  same =
      let within = place_within events a b next in
      elim next.last.is [
        | inl none ↦ inl none
        | inr start ↦ inr (start.0, (back_start events next.place a next.session start.0 (omega arith) start.1).1)
      ];
}

-- what rises along neighbours rises along session order
pub sessions_rise :
    (events : List Event) (rank : ℕ → ℕ) → ((a b : ℕ) → IsNext events a b → rank a < rank b) → (n a b : ℕ) → b ≤ n → IsSessionOrdered events a b →
    rank a < rank b
sessions_rise events rank next zero a b small so = let e = so.earlier in absurd (omega arith)
sessions_rise events rank next (suc n) a b small so =
    let last = last_exists (take so.place events) so.session in
    let link : IsNext events last.0 b = record { place = so.place; session = so.session; started = so.started; last = last.1 } in
    let within : so.place < length events = place_within events last.0 b link in
    let up : rank last.0 < rank b = next last.0 b link in
    elim (cases_eq a last.0) [
      | inl same ↦ let at : rank a ≡ rank last.0 = ap rank same in omega arith
      | inr apart ↦
          let upto : a ≤ last.0 =
          elim so.same [
            | inl initial ↦ omega arith
            | inr other ↦
                let before : other.0 < so.place = starts_rise events a b so.session so.session other.0 so.place other.1 so.started so.earlier in
                last.1.latest a other.0 (front_start events so.place a so.session other.0 before other.1)
          ]
          in
          elim last.1.is [
            | inl none ↦ absurd (omega arith)
            | inr start ↦
                let own = back_start events so.place last.0 so.session start.0 (omega arith) start.1 in
                let less : last.0 < b = next_less events last.0 b link in
                let on : rank a < rank last.0 =
                sessions_rise events rank next n a last.0 (omega arith)
                record { earlier = omega arith; place = start.0; session = so.session; started = own.1; same = so.same }
                in
                omega arith
          ]
    ]
