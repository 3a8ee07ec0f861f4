use Rattle.std.proofs.Common.{◌≡◌, suc, ◌-◌, length}
use Rattle.sql_refusal.specs.Forms.{at, many_from, may_begin, passes}
use Rattle.sql_refusal.specs.MessageForms.{next_form}
use Rattle.sql_refusal.proofs.message.message.Given as goal

abbrev pub invariant-loop-turn : goal.invariant-loop-turn
invariant-loop-turn l =
    many_from (may_begin (next_form l.wide)) (passes (at l.room) (next_form l.wide)) (suc (length l.initial.following)) l.initial.following
    ≡ many_from (may_begin (next_form l.wide)) (passes (at l.room) (next_form l.wide)) (l._turn-end - l._turn) l.following
