use Rattle.std.proofs.Common.{◌≡◌, suc, ◌-◌, length}
use Rattle.sql_refusal.specs.Forms.{at, many_from, may_begin, passes}
use Rattle.sql_refusal.specs.Tables.{form_of}
use Rattle.sql_refusal.proofs.pass.+pass.Given as goal

abbrev pub decreases-pass : goal.decreases-pass
decreases-pass g l = goal.size-pass g l

abbrev pub invariant-loop-turn : goal.invariant-loop-turn
invariant-loop-turn g l =
    many_from (may_begin (form_of l.item.now)) (passes (at l.room) (form_of l.item.now)) (suc (length l.ahead)) l.ahead
    ≡ many_from (may_begin (form_of l.item.now)) (passes (at l.room) (form_of l.item.now)) (l._turn-end - l._turn) l.following
