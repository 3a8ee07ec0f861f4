use Rattle.std.proofs.Common.{◌≡◌, ◌≤◌, ◌+◌, ◌++◌, ℕ, List, [], length, map, vec_capacity}
use Rattle.std.specs.Prelude.{All}
use Rattle.cell_base.specs.declared.level.Level.{Level}
use Rattle.history_core.specs.Chronicle.{Chronicle, IsLegalChronicle}
use Rattle.turn_lock.specs.Passes.{PassValue}
use Rattle.doors.specs.Passage.{Passage, IsUnused}
use Rattle.door_workers.specs.Visits.{events_of_visits}
use Rattle.shared_book.specs.declared.entry.Entry.{Entry}
use Rattle.shared_book.specs.Entries.{event_lists}
use Rattle.shared_book.specs.Fronts.{GoesOnFrom}
use Rattle.shared_book.specs.Books.{fresh_book, past_of}
use Rattle.serve_command.specs.Parts.{Part, AreParts, begins_with, worst_of}
use Rattle.serve_command.specs.Manning.{HaveEnded, MayLeave}
use Rattle.serve_command.proofs.manning.leave.Given as goal

abbrev pub invariant-loop-worker : goal.invariant-loop-worker
invariant-loop-worker g l = record {
  left : (level : Level) (begun history : Chronicle) (start : PassValue Entry) (seed accept : ℕ) (opened : List Passage) →
      IsLegalChronicle history → GoesOnFrom history l.pass →
      past_of (fresh_book start) ≡ begins_with begun → start.kept ≡ [] → All IsUnused opened →
      HaveEnded g.D.Door.passage level start seed accept 0 opened l.fn.workers.items →
      (gone : List Passage) × (rest : List Passage) × (parts : List Part) × (opened ≡ gone ++ rest)
      × AreParts level begun history seed accept 0 gone parts (map g.D.Door.passage l.doors.items)
      × HaveEnded g.D.Door.passage level start seed accept (length gone) rest l.workers.items
      × (event_lists l.pass ≡ event_lists l.fn.pass ++ map (λ part. events_of_visits part.visits) parts) × (l.fault ≡ worst_of parts);
  lock : l.pass.lock ≡ l.fn.shared;
  parts : l.pass.parts + length l.workers.items ≡ l.fn.pass.parts + length l.fn.workers.items;
  workers : All (MayLeave l.fn.shared) l.workers.items;
  capacity : length l.workers.items + length l.doors.items ≤ vec_capacity l.doors;
}

abbrev pub decreases-loop-worker : goal.decreases-loop-worker
decreases-loop-worker g l = length l.workers.items
