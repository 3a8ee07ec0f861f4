use Rattle.std.proofs.Common.{refl}
use Rattle.link_traits.specs.Traffic.{sight_of}
use Rattle.doors.specs.Passage.{CameIn}
use Rattle.door_workers.specs.Workers.{post_of}
use Rattle.door_workers.proofs.Attending.{attended_none, attended_one, before_same, before_fault, some_meets}
use Rattle.door_workers.proofs.serve.serve_next.Goals as goal

pub returns-in-Ok-Some-clause-attended : goal.returns-in-Ok-Some-clause-attended
returns-in-Ok-Some-clause-attended g c =
    let served = c.serve_visit-served.ensures.served in
    let came =
    some_meets (λ link. CameIn (sight_of g.D.Link.Sides.traffic g.D.Link.Sides.read_faults g.D.Link.Sides.write_faults link)
    (g.D.Door.passage c.args.worker.now.door) (g.D.Door.passage c.accept.new.self)) c.in-Ok-Some.field-0 c.in-Ok-Some.link
    c.in-Ok-Some.field-0-is c.in-Ok-Some.ensures.came in
    attended_one g.B.Book.stays g.W.Words.gives c.args.level (post_of g.B.Book.past g.D.Door.passage c.args.worker.now)
    (post_of g.B.Book.past g.D.Door.passage c.serve_visit-served.new.worker)
    (sight_of g.D.Link.Sides.traffic g.D.Link.Sides.read_faults g.D.Link.Sides.write_faults c.in-Ok-Some.link) served.1
    c.serve_visit-served.result served.0 (g.D.Door.passage c.accept.new.self) came served.3 served.2
    c.serve_visit-served.ensures.kept c.serve_visit-served.ensures.accept c.serve_visit-served.ensures.no_session
    c.serve_visit-served.ensures.legal c.serve_visit-served.ensures.stays

pub returns-in-Ok-None-clause-attended : goal.returns-in-Ok-None-clause-attended
returns-in-Ok-None-clause-attended g c =
    attended_none g.B.Book.stays g.W.Words.gives c.args.level (post_of g.B.Book.past g.D.Door.passage c.args.worker.now) _
    (g.met.B.Book.stays_same c.args.worker.now.book) refl refl
    (before_same (g.D.Door.passage c.args.worker.now.door) (g.D.Door.passage c.accept.new.self)
    (c.in-Ok-None.ensures.none c.in-Ok-None.field-0-is)) refl refl c.requires.ready.no_session

pub returns-in-Err-clause-attended : goal.returns-in-Err-clause-attended
returns-in-Err-clause-attended g c =
    attended_none g.B.Book.stays g.W.Words.gives c.args.level (post_of g.B.Book.past g.D.Door.passage c.args.worker.now) _
    (g.met.B.Book.stays_same c.args.worker.now.book) refl refl
    (before_fault c.in-Err.fault (g.D.Door.passage c.args.worker.now.door) (g.D.Door.passage c.accept.new.self) c.in-Err.ensures.failed
    c.in-Err.ensures.memory) refl refl c.requires.ready.no_session
