use Rattle.std.proofs.Common.{◌≡◌, ◌≤◌, length, vec_len, vec_capacity}
use Rattle.std.specs.Prelude.{All}
use Rattle.serve_command.proofs.manning.rooms.Given as goal

abbrev pub invariant-loop : goal.invariant-loop
invariant-loop l = record {
  number : length l.rooms.items ≡ l.counter;
  empty : All (λ room. vec_len room ≡ 0) l.rooms.items;
  room : All (λ room. l.accept ≤ vec_capacity room) l.rooms.items;
}
