use Rattle.std.proofs.Common.{ℕ, ◌<◌}
use Rattle.std.specs.List.{slice_index}
use Rattle.order_test.specs.Listed.{HasNoLate, listed_at}
use Rattle.order_test.proofs.quick.past_has_none.Given as goal

abbrev pub invariant-loop-session : goal.invariant-loop-session
invariant-loop-session l =
    (session : ℕ) → session < l.session → HasNoLate l.places.at.items (listed_at l.lists session l.cell) (slice_index l.past.tops.items session) l.from
