use Rattle.std.proofs.Common.{◌≡◌, ◌≤◌, ◌<◌, ◌+◌, ◌++◌, length, drop, vec_len, vec_capacity}
use Rattle.std.specs.Prelude.{All}
use Rattle.turn_lock.specs.Passes.{split_off}
use Rattle.serve_command.specs.Manning.{AreManned}
use Rattle.serve_command.proofs.manning.man.Given as goal

abbrev pub invariant-loop-door : goal.invariant-loop-door
invariant-loop-door g l = record {
  whole : l.fn.doors.items ≡ l.doors.items ++ drop (length l.doors.items) l.fn.doors.items;
  manned : AreManned (split_off l.fn.pass) l.fn.options.seed l.fn.options.accept (length l.doors.items) (drop (length l.doors.items) l.fn.doors.items)
      l.workers.items;
  pass : l.pass ≡ record l.fn.pass { parts = l.pass.parts };
  parts : l.pass.parts + length l.workers.items ≡ l.fn.pass.parts;
  left : length l.doors.items < l.pass.parts;
  number : length l.workers.items + length l.doors.items ≡ length l.fn.doors.items;
  rooms : length l.rooms.items ≡ length l.doors.items;
  empty : All (λ room. vec_len room ≡ 0) l.rooms.items;
  room : All (λ room. l.fn.options.accept ≤ vec_capacity room) l.rooms.items;
  capacity : length l.workers.items + length l.doors.items ≤ vec_capacity l.workers;
  doors_capacity : vec_capacity l.doors ≡ vec_capacity l.fn.doors;
}

abbrev pub decreases-loop-door : goal.decreases-loop-door
decreases-loop-door g l = length l.doors.items
