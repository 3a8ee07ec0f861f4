-- How the records of the sessions go on standing for the events.
use Rattle.std.proofs.Common.{◌≡◌, ℕ, ◌+◌, List, [], ◌∷◌, ◌++◌, Some, None, Bool, true, false, cond, set, arith, refl, ap, sym, ◌∙◌, subst, inl, inr, ◌↔◌, add-zero}
use Rattle.std.specs.List.{Contains}
use Rattle.std.proofs.lemmas.List.{length_push, length-set}
use Rattle.std.proofs.lemmas.List.Elements.{Contains-push_cases, Contains-append_left, Contains-push}
use Rattle.std.proofs.lemmas.Bool.{false≢true}
use Rattle.graph_base.proofs.Places.{count_by-push}
use Rattle.cell_base.specs.declared.level.Level.{Level}
use Rattle.cell_base.specs.declared.cell.Cell.{Cell}
use Rattle.cell_base.specs.declared.value.Value.{Value}
use Rattle.history_core.specs.declared.event.Event.{Event}
use Rattle.history_core.specs.declared.event.Event.TheVariants.{Open, Close, Begin}
use Rattle.history_core.specs.Events.{begun, opened, session_in, is_begin, is_end, is_open_event}
use Rattle.history_core.specs.Transactions.{IsPending, HasPending}
use Rattle.history_core.specs.Legal.{IsOpen, IsFormed}
use Rattle.txn_buffer.proofs.Lists.{slice_get_push_cases, slice_get-set_cases}
use Rattle.history_core.proofs.Next.{pending_kept, pending_back, pending_begin}
use Rattle.history_core.specs.declared.kept.SessionRecord.{SessionRecord}
use Rattle.history_core.specs.Kept.{IsSessionOf, StandsForSessions}
use Rattle.history_core.proofs.Numbers.{opened_bounds, pending_opened, closed_opened}

-- the event neither opens nor closes the session
pub open_still :
    (events : List Event) (e : Event) (s : ℕ) → (e ≡ Open s → ⊥) → (e ≡ Close s → ⊥) → IsOpen (events ++ e ∷ []) s ↔ IsOpen events s
open_still events e s no_open no_close = (
  λ is. (
    elim (Contains-push_cases events e (Open s) is.0) [ inl old ↦ old | inr new ↦ absurd (no_open new) ],
    λ closed. is.1 (Contains-append_left events (e ∷ []) (Close s) closed),
  ),
  λ is. (
    Contains-append_left events (e ∷ []) (Open s) is.0,
    λ closed. elim (Contains-push_cases events e (Close s) closed) [ inl old ↦ is.1 old | inr new ↦ no_close new ],
  ),
)

-- the event neither begins nor ends a transaction of the session
pub pending_still :
    (events : List Event) (e : Event) (s : ℕ) → ((level : Level) → e ≡ Begin s level → ⊥) → (session_in e ≡ s → is_end e ≡ false) →
    (k : ℕ) → IsPending (events ++ e ∷ []) k s ↔ IsPending events k s
pending_still events e s no_begin no_end k = (
  λ is. elim (pending_back events e k s is) [ inl old ↦ old.0 | inr new ↦ absurd (no_begin new.level new.is) ],
  pending_kept events e k s no_end,
)

pub session_goes :
    (events : List Event) (e : Event) (s : ℕ) (r : SessionRecord) → (e ≡ Open s → ⊥) → (e ≡ Close s → ⊥) → ((level : Level) → e ≡ Begin s level → ⊥) →
    (session_in e ≡ s → is_end e ≡ false) → IsSessionOf events s r → IsSessionOf (events ++ e ∷ []) s r
session_goes events e s r no_open no_close no_begin no_end is =
    let open_is = open_still events e s no_open no_close in
    record {
      open_is = (λ h. open_is.1 (is.open_is.0 h), λ h. is.open_is.1 (open_is.0 h));
      pending = λ k.
          let pending_is = pending_still events e s no_begin no_end k in
          (λ h. pending_is.1 ((is.pending k).0 h), λ h. (is.pending k).1 (pending_is.0 h));
    }

-- an event of another session
pub session_other :
    (events : List Event) (e : Event) (s : ℕ) (r : SessionRecord) → (session_in e ≡ s → ⊥) → IsSessionOf events s r →
    IsSessionOf (events ++ e ∷ []) s r
session_other events e s r other is =
    session_goes events e s r (λ same. other (ap session_in same)) (λ same. other (ap session_in same)) (λ level same. other (ap session_in same))
    (λ same. absurd (other same)) is

-- an event that opens, closes, begins and ends nothing
pub record IsPlain (e : Event) : Type 0 where
  pub no_open : (s : ℕ) → e ≡ Open s → ⊥
  pub no_close : (s : ℕ) → e ≡ Close s → ⊥
  pub no_begin : (s : ℕ) (level : Level) → e ≡ Begin s level → ⊥
  pub no_end : is_end e ≡ false
  pub opens_none : is_open_event e ≡ false
  pub begins_none : is_begin e ≡ false

pub opened-push_other : (events : List Event) (e : Event) → is_open_event e ≡ false → opened (events ++ e ∷ []) ≡ opened events
opened-push_other events e other =
    count_by-push is_open_event events e ∙ ap (λ (b : Bool). opened events + cond b 1 0) other ∙ add-zero (opened events)

pub sessions_plain :
    (events : List Event) (e : Event) (sessions : List SessionRecord) → IsPlain e → StandsForSessions events sessions →
    StandsForSessions (events ++ e ∷ []) sessions
sessions_plain events e sessions plain stands = record {
  count = stands.count ∙ sym (opened-push_other events e plain.opens_none);
  each = λ i r is.
      session_goes events e (i + 1) r (plain.no_open (i + 1)) (plain.no_close (i + 1)) (plain.no_begin (i + 1)) (λ _. plain.no_end) (stands.each i r is);
}

pub sessions_change :
    (events : List Event) (e : Event) (sessions : List SessionRecord) (at : ℕ) (r : SessionRecord) → is_open_event e ≡ false →
    at + 1 ≡ session_in e → StandsForSessions events sessions → IsSessionOf (events ++ e ∷ []) (at + 1) r →
    StandsForSessions (events ++ e ∷ []) (set sessions at r)
sessions_change events e sessions at r other number stands is = record {
  count = length-set sessions at r ∙ stands.count ∙ sym (opened-push_other events e other);
  each = λ i q there. elim (slice_get-set_cases sessions at i r q there) [
    | inl here ↦
        subst (λ (u : SessionRecord). IsSessionOf (events ++ e ∷ []) (i + 1) u) here.1
        (subst (λ (n : ℕ). IsSessionOf (events ++ e ∷ []) (n + 1) r) (sym here.0) is)
    | inr apart ↦ session_other events e (i + 1) q (λ same. apart.0 (omega arith)) (stands.each i q apart.1)
  ];
}

pub session_begins :
    (events : List Event) (s : ℕ) (level : Level) (old new : SessionRecord) → (HasPending events s → ⊥) → new.is_open ≡ old.is_open →
    new.pending ≡ Some (begun events + 1) → IsSessionOf events s old → IsSessionOf (events ++ Begin s level ∷ []) s new
session_begins events s level old new none opens pending is =
    let open_is = open_still events (Begin s level) s (λ same. cc) (λ same. cc) in
    record {
      open_is = (λ h. open_is.1 (is.open_is.0 (sym opens ∙ h)), λ h. opens ∙ is.open_is.1 (open_is.0 h));
      pending = λ k. (
        λ h.
            let both : Some (begun events + 1) ≡ Some k = sym pending ∙ h in
            let same : begun events + 1 ≡ k = cc in
            subst (λ (n : ℕ). IsPending (events ++ Begin s level ∷ []) n s) same (pending_begin events s level),
        λ h. elim (pending_back events (Begin s level) k s h) [
          | inl before ↦ absurd (none (k, before.0))
          | inr new ↦ pending ∙ ap (λ (n : ℕ). Some n) (sym new.counts)
        ],
      );
    }

pub session_ends :
    (events : List Event) (e : Event) (s : ℕ) (old new : SessionRecord) → session_in e ≡ s → is_end e ≡ true → (e ≡ Open s → ⊥) → (e ≡ Close s → ⊥) →
    ((level : Level) → e ≡ Begin s level → ⊥) → new.is_open ≡ old.is_open → new.pending ≡ None → IsSessionOf events s old → IsSessionOf (events ++ e ∷ []) s new
session_ends events e s old new same ends no_open no_close no_begin opens pending is =
    let open_is = open_still events e s no_open no_close in
    record {
      open_is = (λ h. open_is.1 (is.open_is.0 (sym opens ∙ h)), λ h. opens ∙ is.open_is.1 (open_is.0 h));
      pending = λ k. (
        λ h. let both : None ≡ Some k = sym pending ∙ h in cc,
        λ h. absurd (elim (pending_back events e k s h) [
          | inl before ↦ false≢true (sym (before.1 same) ∙ ends)
          | inr new ↦ no_begin new.level new.is
        ]),
      );
    }

pub session_closes :
    (events : List Event) (s : ℕ) (old new : SessionRecord) → new.is_open ≡ false → new.pending ≡ old.pending →
    IsSessionOf events s old → IsSessionOf (events ++ Close s ∷ []) s new
session_closes events s old new opens pending is = record {
  open_is = (λ h. absurd (false≢true (sym opens ∙ h)), λ h. absurd (h.1 (Contains-push events (Close s))));
  pending = λ k.
      let pending_is = pending_still events (Close s) s (λ level same. cc) (λ _. refl) k in
      (λ h. pending_is.1 ((is.pending k).0 (sym pending ∙ h)), λ h. pending ∙ (is.pending k).1 (pending_is.0 h));
}

pub sessions_open :
    (initial : List (Cell × Value)) (events : List Event) (s : ℕ) (sessions : List SessionRecord) (r : SessionRecord) → IsFormed initial events → s ≡ opened events + 1 → r.is_open ≡ true → r.pending ≡ None →
    StandsForSessions events sessions → StandsForSessions (events ++ Open s ∷ []) (sessions ++ r ∷ [])
sessions_open initial events s sessions r formed number opens pending stands = record {
  count =
      let long = length_push sessions r in
      let more = count_by-push is_open_event events (Open s) in
      let before = stands.count in omega arith;
  each = λ i q is. elim (slice_get_push_cases sessions r i q is) [
    | inl old ↦ session_other events (Open s) (i + 1) q (λ same. let h = old.0 in let c = stands.count in absurd (omega arith)) (stands.each i q old.1)
    | inr new ↦
        let is_s : s ≡ i + 1 = let c = stands.count in let h = new.0 in omega arith in
        subst (λ (u : SessionRecord). IsSessionOf (events ++ Open s ∷ []) (i + 1) u) new.1
        (subst (λ (n : ℕ). IsSessionOf (events ++ Open s ∷ []) n r) is_s made)
  ];
}
  where
    never : Contains events (Open s) → ⊥
    never member = let h = opened_bounds initial events formed s member in absurd (omega arith)

    closed_never : Contains events (Close s) → ⊥
    closed_never member = never (closed_opened initial events formed s member)

    made : IsSessionOf (events ++ Open s ∷ []) s r
    made = record {
      open_is = (
        λ _. (
          Contains-push events (Open s),
          λ closed. elim (Contains-push_cases events (Open s) (Close s) closed) [ inl old ↦ closed_never old | inr new ↦ cc ],
        ),
        λ _. opens,
      );
      pending = λ k. (
        λ h. let both : None ≡ Some k = sym pending ∙ h in cc,
        λ h. absurd (elim (pending_back events (Open s) k s h) [
          | inl before ↦ never (pending_opened initial events formed k s before.0)
          | inr new ↦ let e = new.is in cc
        ]),
      );
    }
