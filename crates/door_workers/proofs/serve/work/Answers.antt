use Rattle.std.proofs.Common.{◌≡◌, ◌+◌, refl, ◌∙◌, arith}
use Rattle.door_workers.specs.Workers.{post_of}
use Rattle.door_workers.proofs.Attending.{attended_none, attended_then, before_same, ceases_short, ceases_full, faults_then, faults_none, faults_same}
use Rattle.door_workers.proofs.serve.work.Goals as goal

pub loop-init : goal.loop-init
loop-init g c = record {
  attended = attended_none g.B.Book.stays g.W.Words.gives c.args.level (post_of g.B.Book.past g.D.Door.passage c.args.worker.now)
      (post_of g.B.Book.past g.D.Door.passage c.args.worker.now) (g.met.B.Book.stays_same c.args.worker.now.book) refl refl
      (before_same (g.D.Door.passage c.args.worker.now.door) (g.D.Door.passage c.args.worker.now.door) refl) refl refl
      c.requires.ready.no_session;
  fault = c.requires.ready.fault;
  faults = refl;
  balance = c.requires.ready.balance;
  room = omega (arith, c.requires.room);
}

pub serve_next-requires-clause-ready : goal.serve_next-requires-clause-ready
serve_next-requires-clause-ready g c κs within = record {
  fault = c.loop.invariant.fault;
  no_session = c.loop.invariant.attended.no_session;
  balance = c.loop.invariant.balance;
}

pub serve_next-requires-clause-room : goal.serve_next-requires-clause-room
serve_next-requires-clause-room g c κs within = omega (arith, c.loop.invariant.room, c.loop-test.true)

pub returns-then-not-serve_next : goal.returns-then-not-serve_next
returns-then-not-serve_next g c = record {
  number = c.loop.counter;
  attended = attended_then g.B.Book.stays g.W.Words.gives c.args.level c.loop.counter 0 c.loop.counter
      (post_of g.B.Book.past g.D.Door.passage c.args.worker.now) (post_of g.B.Book.past g.D.Door.passage c.loop.worker)
      (post_of g.B.Book.past g.D.Door.passage c.serve_next.new.worker) (omega arith) g.met.B.Book.stays_trans c.loop.invariant.attended
      c.if-not-serve_next.ensures.attended;
  faults = faults_then c.serve_next.new.worker.fault _ _ _ c.loop.invariant.faults c.serve_next.ensures.faults;
  ceases = ceases_short c.serve_next.new.worker.fault _ _ _ c.loop-test.true (c.if-not-serve_next.ensures.none_left refl);
}

pub loop-preserved : goal.loop-preserved
loop-preserved g c =
    let none = c.if-not-serve_next.ensures.goes_on refl in
    record {
      attended = attended_then g.B.Book.stays g.W.Words.gives c.args.level c.loop.counter 1 (c.loop.counter + 1)
          (post_of g.B.Book.past g.D.Door.passage c.args.worker.now) (post_of g.B.Book.past g.D.Door.passage c.loop.worker)
          (post_of g.B.Book.past g.D.Door.passage c.serve_next.new.worker) refl g.met.B.Book.stays_trans c.loop.invariant.attended
          c.if-not-serve_next.ensures.attended;
      fault = none;
      faults = faults_none c.serve_next.new.worker.fault _ _ none c.serve_next.ensures.faults ∙ c.loop.invariant.faults;
      balance = c.serve_next.ensures.balance;
      room = omega (arith, c.loop.invariant.room, c.serve_next.ensures.len, c.serve_next.ensures.capacity);
    }

pub returns : goal.returns
returns g c =
    let full : c.loop.counter ≡ c.args.worker.now.accept = omega (arith, c.loop-test.false, c.loop.auto.counter-end) in
    record {
      number = c.loop.counter;
      attended = c.loop.invariant.attended;
      faults = faults_same c.loop.worker.fault _ _ c.loop.invariant.fault c.loop.invariant.faults;
      ceases = ceases_full c.loop.worker.fault _ _ _ full c.loop.invariant.fault;
    }
