use Rattle.order_test.specs.Firsts.{AreRising, KeepsFirsts, HaveWritten}
use Rattle.order_test.proofs.firsts.note_firsts.Given as goal

abbrev pub invariant-loop-at : goal.invariant-loop-at
invariant-loop-at l = AreRising l.firsts l.number × KeepsFirsts l.fn.firsts l.firsts × HaveWritten l.firsts l.writes l.at l.number
