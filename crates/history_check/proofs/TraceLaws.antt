-- A trace is right, or has one first breach.
use Rattle.std.proofs.Common.{◌≡◌, ℕ, take, ap, sym, ◌∙◌, inl, inr}
use Rattle.history_core.specs.Relations.{IsConsistent}
use Rattle.history_log.specs.declared.trace.Trace.{Trace}
use Rattle.order_test.proofs.Prefixed.{prefixes_consistent}
use Rattle.order_test.proofs.UnkeptLaws.{kept_none, unkept_one}
use Rattle.history_check.specs.declared.breach.Breach.{Breach}
use Rattle.history_check.specs.Orders.{IsRightTrace, IsFirstBreach, breach_of}
use Rattle.history_check.proofs.EventLemmas.{right_unbroken, one_breach}
use Rattle.history_check.proofs.Orderly.{orderly_from}

pub trace_unbroken : (trace : Trace) (breach : Breach) → IsRightTrace trace → IsFirstBreach trace breach → ⊥
trace_unbroken trace breach right (inl event) = right_unbroken trace.initial trace.events breach right.events event
trace_unbroken trace breach right (inr order) = kept_none trace.events trace.order order.1.found right.order order.1.first

pub trace_breach_one : (trace : Trace) (a b : Breach) → IsFirstBreach trace a → IsFirstBreach trace b → a ≡ b
trace_breach_one trace a b (inl first) (inl second) = one_breach trace.initial trace.events a b first second
trace_breach_one trace a b (inl first) (inr second) = absurd (right_unbroken trace.initial trace.events a second.0 first)
trace_breach_one trace a b (inr first) (inl second) = absurd (right_unbroken trace.initial trace.events b first.0 second)
trace_breach_one trace a b (inr first) (inr second) =
    first.1.told
    ∙ ap breach_of (unkept_one trace.events trace.order first.1.found second.1.found (orderly_from trace.initial trace.events first.0) first.1.first second.1.first)
    ∙ sym second.1.told

pub trace_prefixes : (trace : Trace) (k : ℕ) → IsRightTrace trace → IsConsistent (take k trace.events)
trace_prefixes trace k right = prefixes_consistent trace.events trace.order k (orderly_from trace.initial trace.events right.events) right.order
