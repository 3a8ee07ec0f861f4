use Rattle.std.proofs.Common.{◌+◌}
use Rattle.session_hall.proofs.Going.{around_gone, goes_alone, goes_then}
use Rattle.session_hall.proofs.asking.step.Goals as goal

pub leave-requires-clause-attending : goal.leave-requires-clause-attending
leave-requires-clause-attending c =
    let (history, is, legal, attending) = c.requires.attending in
    let (many, count, goes) = c.go_on.ensures.goes history is in
    around_gone c.args.store.now c.args.seat.now history many c.go_on.new.store c.go_on.new.seat attending goes

pub returns-in-Err-clause-goes : goal.returns-in-Err-clause-goes
returns-in-Err-clause-goes c = λ history is.
    let (many, count, first) = c.go_on.ensures.goes history is in
    let (more, second) = c.leave.ensures.goes first.now first.store in
    let both = goes_then history c.args.seat.now c.go_on.new.seat c.leave.new.seat many more c.go_on.new.store c.leave.new.store first second in (
      many + more + 0,
      tt,
      goes_then history c.args.seat.now c.leave.new.seat c.note_end.new.seat (many + more) 0 c.leave.new.store c.leave.new.store both
          (goes_alone both.now c.leave.new.store c.leave.new.seat c.note_end.new.seat both.store both.legal c.note_end.ensures.grows),
    )
