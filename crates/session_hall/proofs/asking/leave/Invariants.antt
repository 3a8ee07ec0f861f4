use Rattle.std.proofs.Common.{◌≡◌, ℕ, Some}
use Rattle.history_core.specs.Chronicle.{Chronicle}
use Rattle.session_core.specs.Sessions.{work_of}
use Rattle.session_hall.specs.Seats.{Goes, LeftUnsent}
use Rattle.session_hall.proofs.Going.{Around}
use Rattle.session_hall.proofs.asking.leave.Given as goal

abbrev pub invariant-loop : goal.invariant-loop
invariant-loop l = record {
  attending : Around l.store l.seat;
  unsent : LeftUnsent l.seat;
  goes : (history : Chronicle) → l.initial.store ≡ Some history → (many : ℕ) × Goes history l.initial.seat many l.store l.seat;
  end : l.seat.end ≡ l.initial.seat.end;
}

abbrev pub decreases-loop : goal.decreases-loop
decreases-loop l = work_of l.seat.session
