use Rattle.std.proofs.Common.{◌≡◌, ◌≤◌, take}
use Rattle.history_core.specs.Events.{opened}
use Rattle.serve_command.proofs.line.sessions_of.Given as goal

abbrev pub invariant-loop-event : goal.invariant-loop-event
invariant-loop-event l = record {
  count : l.sessions ≡ opened (take l.event-index l.events);
  few : l.sessions ≤ l.event-index;
}
