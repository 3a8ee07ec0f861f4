use Rattle.std.proofs.Common.{◌≤◌}
use Rattle.wide_check.specs.Pieces.{AreKeptFrom}
use Rattle.wide_check.proofs.pieces.first_in_turn.Given as goal

abbrev pub invariant-loop-place : goal.invariant-loop-place
invariant-loop-place l = record {
  after : l.from ≤ l.place;
  within : l.place ≤ l.to;
  kept : AreKeptFrom l.survey.events.now l.survey.order.now l.from l.place;
}
