use Rattle.std.proofs.Common.{◌≤◌, length}
use Rattle.door_cases.proofs.echo.serve_all.Given as goal

abbrev pub invariant-loop-served : goal.invariant-loop-served
invariant-loop-served g l = length (g.D.Door.passage l.door).back ≤ (g.D.Door.passage l.door).accepted
