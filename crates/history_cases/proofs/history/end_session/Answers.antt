use Rattle.std.proofs.Common.{pos, codes}
use Rattle.cell_base.specs.declared.key.Key.TheVariants.{Int as KeyInt}
use Rattle.cell_base.specs.declared.value.Value.TheVariants.{Int}
use Rattle.history_cases.proofs.WorkedRow.{fits13, fits14, fits15, fits16}
use Rattle.history_cases.proofs.history.end_session.Goals as goal

pub push-requires-clause-follows : goal.push-requires-clause-follows
push-requires-clause-follows c = rw (c.in_ok-one_key.ensures, c.requires.events, c.requires.initial) (fits13 (codes "t") (KeyInt (pos 1)) (Int (pos 10)))

pub push-requires-2-clause-follows : goal.push-requires-2-clause-follows
push-requires-2-clause-follows c = rw (c.in_ok-push.ensures.ok, c.in_ok-one_key.ensures, c.requires.events) (fits14 (codes "t") (KeyInt (pos 1)) (Int (pos 10)))

pub push-requires-3-clause-follows : goal.push-requires-3-clause-follows
push-requires-3-clause-follows c =
    rw (c.in_ok-push-2.ensures.ok, c.in_ok-push.ensures.ok, c.in_ok-one_key.ensures, c.requires.events)
    (fits15 (codes "t") (KeyInt (pos 1)) (Int (pos 10)))

pub push-requires-4-clause-follows : goal.push-requires-4-clause-follows
push-requires-4-clause-follows c =
    rw (c.in_ok-push-3.ensures.ok, c.in_ok-push-2.ensures.ok, c.in_ok-push.ensures.ok, c.in_ok-one_key.ensures, c.requires.events)
    (fits16 (codes "t") (KeyInt (pos 1)) (Int (pos 10)))
