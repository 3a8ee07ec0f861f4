use Rattle.std.proofs.Common.{◌+◌, ◌*◌, ◌<◌, ◌≤◌, ◌++◌, ◌∷◌, ◌∙◌, [], ℕ, List, ap, length, subst, sym}
use Rattle.std.specs.Prelude.{vec_capacity}
use Rattle.bit_rows.specs.Lines.{AreLines, rows_in}
use Rattle.bit_rows.specs.declared.line.Line.{Line}
use Rattle.bit_rows.proofs.Growth.{lines_pushed, rows_pushed}
use Rattle.bit_rows.proofs.lines.Lines.push.Goals as goal

pub returns-clause-holds : goal.returns-clause-holds
returns-clause-holds c =
    let mid = c.make_room.new.self in
    let same = ap length c.make_room.ensures.lines in
    let spare : (length mid.lines.items + 1) * mid.room ≤ vec_capacity mid.pool =
    subst (λ (n : ℕ). (n + 1) * mid.room ≤ vec_capacity mid.pool) (sym same) c.in_ok-make_room.ensures.spare in
    let free : length mid.lines.items < 64 * mid.room =
    subst (λ (n : ℕ). n < 64 * mid.room) (sym same) c.in_ok-make_room.ensures.room in
    subst (λ (ls : List Line). AreLines ls mid.pool.items mid.segments mid.room (vec_capacity mid.pool))
    (sym c.in_ok-push.ensures.items)
    (lines_pushed mid.lines.items mid.pool.items mid.segments mid.room (vec_capacity mid.pool) c.make_room.ensures.holds spare free)

pub returns-clause-ok : goal.returns-clause-ok
returns-clause-ok c =
    let mid = c.make_room.new.self in
    ap (rows_in mid.pool.items mid.room) c.in_ok-push.ensures.items ∙ rows_pushed mid.pool.items mid.room mid.lines.items
    ∙ ap (λ (rows : List (List ℕ)). rows ++ [] ∷ []) c.make_room.ensures.rows
