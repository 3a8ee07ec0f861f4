use Rattle.std.proofs.Common.{pos, codes}
use Rattle.cell_base.specs.declared.key.Key.TheVariants.{Int as KeyInt}
use Rattle.saturation_cases.proofs.Fractured.{fits6, fits7, fits8, fits9, fits10}
use Rattle.saturation_cases.proofs.cycles.find_half.Goals as goal

pub push-requires-clause-follows : goal.push-requires-clause-follows
push-requires-clause-follows c = rw c.requires.events (fits6 (codes "t") (KeyInt (pos 1)) (KeyInt (pos 2)))

pub push-requires-2-clause-follows : goal.push-requires-2-clause-follows
push-requires-2-clause-follows c =
    rw (c.in_ok-push.ensures.ok, c.presence.ensures.is, c.requires.events) (fits7 (codes "t") (KeyInt (pos 1)) (KeyInt (pos 2)))

pub push-requires-3-clause-follows : goal.push-requires-3-clause-follows
push-requires-3-clause-follows c =
    rw (c.in_ok-push-2.ensures.ok, c.in_ok-push.ensures.ok, c.presence.ensures.is, c.second_row.ensures, c.requires.events)
    (fits8 (codes "t") (KeyInt (pos 1)) (KeyInt (pos 2)))

pub push-requires-4-clause-follows : goal.push-requires-4-clause-follows
push-requires-4-clause-follows c =
    rw (c.in_ok-push-3.ensures.ok, c.in_ok-push-2.ensures.ok, c.in_ok-push.ensures.ok, c.presence.ensures.is, c.second_row.ensures, c.requires.events)
    (fits9 (codes "t") (KeyInt (pos 1)) (KeyInt (pos 2)))

pub push-requires-5-clause-follows : goal.push-requires-5-clause-follows
push-requires-5-clause-follows c =
    rw (c.in_ok-push-4.ensures.ok, c.in_ok-push-3.ensures.ok, c.in_ok-push-2.ensures.ok, c.in_ok-push.ensures.ok, c.presence.ensures.is, c.second_row.ensures, c.second_row-2.ensures, c.requires.events, c.requires.initial)
    (fits10 (codes "t") (KeyInt (pos 1)) (KeyInt (pos 2)))
