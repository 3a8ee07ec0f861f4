-- The transactions of the events, as they grow.
use Rattle.std.proofs.Common.{◌≡◌, ℕ, ◌+◌, ◌<◌, List, [], ◌∷◌, ◌++◌, true, length, get_or, set, arith, refl, ap, sym, subst}
use Rattle.std.proofs.lemmas.Bool.{false≢true}
use Rattle.history_core.specs.declared.event.Event.{Event}
use Rattle.history_core.specs.declared.event.Event.TheVariants.{Open, Close, Define, Look, Begin, Scan, Read, Own, Write, Commit, Rollback, Show}
use Rattle.history_core.specs.Events.{begun, is_begin, session_in}
use Rattle.history_core.proofs.Prefixes.{begun-push_start}
use Rattle.further_reads.specs.Begun.{IsLastBegun}
use Rattle.further_reads.proofs.Lasts.{last_begun_none}
use Rattle.order_test.specs.Glance.{HoldsLast}
use Rattle.order_test.proofs.GlanceLemmas.{last_begins}
use Rattle.cycle_report.specs.declared.owners.Owners.{Owners}
use Rattle.cycle_report.specs.Owned.{AreOwnedBy}

pub owners_begin :
    (events : List Event) (e : Event) (last : List ℕ) → is_begin e ≡ true → session_in e < length last → HoldsLast events last →
    HoldsLast (events ++ e ∷ []) (set last (session_in e) (begun events + 1))
owners_begin events (Begin s level) last begins here holds = last_begins events s level last here holds
owners_begin events (Open s) last begins here holds = absurd (false≢true begins)
owners_begin events (Close s) last begins here holds = absurd (false≢true begins)
owners_begin events (Define s name) last begins here holds = absurd (false≢true begins)
owners_begin events (Look s count) last begins here holds = absurd (false≢true begins)
owners_begin events (Scan s table keys) last begins here holds = absurd (false≢true begins)
owners_begin events (Read s x w n u v) last begins here holds = absurd (false≢true begins)
owners_begin events (Own s x v) last begins here holds = absurd (false≢true begins)
owners_begin events (Write s x v) last begins here holds = absurd (false≢true begins)
owners_begin events (Commit s) last begins here holds = absurd (false≢true begins)
owners_begin events (Rollback s) last begins here holds = absurd (false≢true begins)
owners_begin events (Show s number) last begins here holds = absurd (false≢true begins)

pub begun_begin : (events : List Event) (e : Event) → is_begin e ≡ true → begun (events ++ e ∷ []) ≡ begun events + 1
begun_begin events (Begin s level) begins = begun-push_start events s level
begun_begin events (Open s) begins = absurd (false≢true begins)
begun_begin events (Close s) begins = absurd (false≢true begins)
begun_begin events (Define s name) begins = absurd (false≢true begins)
begun_begin events (Look s count) begins = absurd (false≢true begins)
begun_begin events (Scan s table keys) begins = absurd (false≢true begins)
begun_begin events (Read s x w n u v) begins = absurd (false≢true begins)
begun_begin events (Own s x v) begins = absurd (false≢true begins)
begun_begin events (Write s x v) begins = absurd (false≢true begins)
begun_begin events (Commit s) begins = absurd (false≢true begins)
begun_begin events (Rollback s) begins = absurd (false≢true begins)
begun_begin events (Show s number) begins = absurd (false≢true begins)

pub owners_none : (owners : Owners) → owners.last.items ≡ 0 ∷ [] → owners.of_events.items ≡ [] → owners.begun ≡ 0 → AreOwnedBy [] owners
owners_none owners lasts none zero = record {
  last =
      let first : List ℕ = 0 ∷ [] in
      let one : length first ≡ 1 = refl in
      subst (λ (xs : List ℕ). HoldsLast [] xs) (sym lasts) record {
        some = omega arith;
        within = λ k event is. cc;
        each = λ s small.
            let number : s ≡ 0 = omega arith in
            let nothing : get_or first s 0 ≡ 0 = ap (λ (i : ℕ). get_or first i 0) number in
            subst (λ (n : ℕ). IsLastBegun [] s n) (sym nothing) (last_begun_none s);
      };
  of_events = record { count = ap length none; each = λ k event is. cc };
  count = zero;
}
