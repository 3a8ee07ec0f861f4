use Rattle.std.proofs.Common.{◌≡◌, ◌≤◌, ◌+◌, None, length, vec_len, vec_capacity}
use Rattle.door_workers.specs.Workers.{Attended, post_of}
use Rattle.door_workers.proofs.serve.work.Given as goal

abbrev pub invariant-loop : goal.invariant-loop
invariant-loop g l = record {
  attended : Attended g.B.Book.stays g.W.Words.gives l.fn.level l.counter (post_of g.B.Book.past g.D.Door.passage l.fn.worker)
      (post_of g.B.Book.past g.D.Door.passage l.worker);
  fault : l.worker.fault ≡ None;
  faults : (g.D.Door.passage l.worker.door).faults ≡ (g.D.Door.passage l.fn.worker.door).faults;
  balance : length (g.D.Door.passage l.worker.door).back ≤ (g.D.Door.passage l.worker.door).accepted;
  room : vec_len l.worker.served + l.fn.worker.accept ≤ vec_capacity l.worker.served + l.counter;
}
