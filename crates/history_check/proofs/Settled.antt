-- Each source has committed and a pending transaction is the last of its session, whatever comes next.
use Rattle.std.proofs.Common.{◌≡◌, ℕ, ◌+◌, ◌<◌, ◌≤◌, List, [], ◌∷◌, ◌++◌, length, arith, ap, sym, ◌∙◌, subst, inl, inr, ◌⊎◌}
use Rattle.std.proofs.lemmas.List.{length_push}
use Rattle.std.proofs.lemmas.Option.{slice_get_within}
use Rattle.cell_base.specs.declared.cell.Cell.{Cell}
use Rattle.cell_base.specs.declared.cell.Cell.TheVariants.{Presence, Field}
use Rattle.history_core.specs.declared.event.Event.{Event}
use Rattle.history_core.specs.declared.event.Event.TheVariants.{Open, Close, Define, Look, Begin, Scan, Read, Own, Write, Commit, Rollback, Show}
use Rattle.history_core.specs.Events.{begun}
use Rattle.history_core.specs.Transactions.{IsStart, IsRunning, IsPending, IsCommitted}
use Rattle.history_core.specs.Relations.{Gives, Reads, IsSessionOrdered}
use Rattle.history_core.proofs.Places.{slice_get-append_left, start_unique, start_session}
use Rattle.history_core.proofs.Grown.{start_back, reads_back}
use Rattle.history_core.proofs.Prefixes.{committed_kept, start_positive, start_bounded, begun-push_start}
use Rattle.history_check.specs.Rules.{IsInShape, HasSource}
use Rattle.order_test.specs.Settled.{IsSettled}

new_source : (events : List Event) (e : Event) → HasSource events e → (cell : Cell) (source : ℕ) → Gives e cell source → (source ≡ 0) ⊎ IsCommitted events source
new_source events (Read s seen from n u v) writes cell source gives =
    elim writes [
      | inl first ↦ inl (sym gives.1 ∙ first)
      | inr own ↦ inr (subst (λ (n : ℕ). IsCommitted events n) gives.1 own.0)
    ]
new_source events (Scan s table keys) writes (Presence t key) source gives = inl gives.2
new_source events (Scan s table keys) writes (Field t key c) source gives = absurd gives
new_source events (Open s) writes cell source gives = absurd gives
new_source events (Close s) writes cell source gives = absurd gives
new_source events (Define s name) writes cell source gives = absurd gives
new_source events (Look s count) writes cell source gives = absurd gives
new_source events (Begin s level) writes cell source gives = absurd gives
new_source events (Own s x v) writes cell source gives = absurd gives
new_source events (Write s x v) writes cell source gives = absurd gives
new_source events (Commit s) writes cell source gives = absurd gives
new_source events (Rollback s) writes cell source gives = absurd gives
new_source events (Show s number) writes cell source gives = absurd gives

sources_push :
    (events : List Event) (e : Event) → IsSettled events → IsInShape events e → HasSource events e →
    (reader p : ℕ) (cell : Cell) (source : ℕ) → Reads (events ++ e ∷ []) reader p cell source → (source ≡ 0) ⊎ IsCommitted (events ++ e ∷ []) source
sources_push events e settled fits source_is reader p cell source reads =
    let before : (source ≡ 0) ⊎ IsCommitted events source =
    elim (reads_back events e reader p cell source reads) [
      | inl old ↦ settled.sources reader p cell source old
      | inr new ↦ new_source events e source_is cell source new.2
    ]
    in
    elim before [ inl first ↦ inl first | inr committed ↦ inr (committed_kept events e source committed) ]

last_push :
    (events : List Event) (e : Event) → IsSettled events → IsInShape events e → HasSource events e →
    (k s b : ℕ) → IsPending (events ++ e ∷ []) k s → IsSessionOrdered (events ++ e ∷ []) k b → ⊥
last_push events e settled fits source_is k s b pending so =
    elim (start_back events e k s pending.start pending.starts) [
      | inl old ↦
          let within : pending.start < length events = slice_get_within events pending.start (Begin s old.level) old.is in
          let longer : length (events ++ e ∷ []) ≡ length events + 1 = length_push events e in
          let running : IsRunning events s pending.start (length events) =
          λ q f above below is same. pending.running q f above (omega arith) (slice_get-append_left events (e ∷ []) q below ∙ is) same in
          let before : IsPending events k s = record { start = pending.start; starts = old; running = running } in
          let other_old = λ (t p : ℕ) (start : IsStart (events ++ e ∷ []) k t p).
          let same_place : p ≡ pending.start = start_unique (events ++ e ∷ []) k t s p pending.start start pending.starts in
          let same_session : t ≡ s = start_session (events ++ e ∷ []) k t s p pending.start start pending.starts in
          let kept : IsStart events k t p =
          subst (λ (n : ℕ). IsStart events k t n) (sym same_place) (subst (λ (n : ℕ). IsStart events k n pending.start) (sym same_session) old) in
          kept
          in
          elim (start_back events e b so.session so.place so.started) [
            | inl started ↦ settled.last k s b before record {
              earlier = so.earlier;
              place = so.place;
              session = so.session;
              started = started;
              same = elim so.same [ inl first ↦ inl first | inr other ↦ inr (other.0, other_old so.session other.0 other.1) ];
            }
            | inr new ↦
                elim so.same [
                  | inl first ↦ let h = start_positive events k s pending.start old in absurd (omega arith)
                  | inr other ↦
                      let same_session : so.session ≡ s = start_session (events ++ e ∷ []) k so.session s other.0 pending.start other.1 pending.starts in
                      let may : IsInShape events (Begin so.session new.level) = subst (λ (f : Event). IsInShape events f) new.is fits in
                      may.1 (k, subst (λ (t : ℕ). IsPending events k t) (sym same_session) before)
                ]
          ]
      | inr new ↦
          let last : b ≤ begun (events ++ e ∷ []) = start_bounded (events ++ e ∷ []) b so.session so.place so.started in
          let one : begun (events ++ e ∷ []) ≡ begun events + 1 =
          ap (λ (f : Event). begun (events ++ f ∷ [])) new.is ∙ begun-push_start events s new.level in
          let up = so.earlier in
          let at = new.counts in
          absurd (omega arith)
    ]

pub settled_push :
    (events : List Event) (e : Event) → IsSettled events → IsInShape events e → HasSource events e → IsSettled (events ++ e ∷ [])
settled_push events e settled fits source_is = record {
  sources = sources_push events e settled fits source_is;
  last = last_push events e settled fits source_is;
}
