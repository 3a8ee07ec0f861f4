use Rattle.std.proofs.Common.{◌≡◌, ◌≤◌, ◌++◌, take, vec_capacity}
use Rattle.doors.proofs.mem_door.add_copies.Given as goal

abbrev pub invariant-loop-link : goal.invariant-loop-link
invariant-loop-link l =
    (l.copies.items ≡ l.fn.copies.items ++ take l.link-index l.links)
    × (vec_capacity l.fn.copies ≤ vec_capacity l.copies)
