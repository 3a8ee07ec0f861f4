use Rattle.std.proofs.Common.{ℕ, ◌<◌}
use Rattle.std.specs.List.{slice_index}
use Rattle.order_test.specs.Firsts.{SessionIsListed}
use Rattle.order_test.proofs.quick.past_is_listed.Given as goal

abbrev pub invariant-loop-session : goal.invariant-loop-session
invariant-loop-session l = (session : ℕ) → session < l.session → SessionIsListed l.firsts session l.table l.keys (slice_index l.past.tops.items session)
