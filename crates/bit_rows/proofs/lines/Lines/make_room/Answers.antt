use Rattle.std.proofs.Common.{◌+◌, ◌≤◌, arith}
use Rattle.std.specs.Prelude.{vec_capacity}
use Rattle.bit_rows.proofs.Growth.{lines_reserved, within_spare}
use Rattle.bit_rows.proofs.lines.Lines.make_room.Goals as goal

pub overflow_sub-lines : goal.overflow_sub-lines
overflow_sub-lines c =
    let lines = c.args.self.now in
    let count = c.len-lines.ensures in
    let long = lines.lines.ok.0 in
    let size = c.len.ensures in
    let words = lines.pool.ok.0 in
    let within =
    within_spare lines.lines.items lines.pool.items lines.segments lines.room (vec_capacity lines.pool) (c.len-lines.result + 1)
    c.requires.holds (omega arith) in
    omega arith

pub returns-clause-holds : goal.returns-clause-holds
returns-clause-holds c =
    let lines = c.args.self.now in
    let pool = c.reserve.new.self in
    let spare = c.requires.holds.spare in
    let kept : vec_capacity lines.pool ≤ vec_capacity pool = c.reserve.ensures.capacity in
    lines_reserved lines.lines.items lines.pool.items pool.items lines.segments lines.room (vec_capacity lines.pool) (vec_capacity pool)
    c.requires.holds c.reserve.ensures.items (omega arith)
