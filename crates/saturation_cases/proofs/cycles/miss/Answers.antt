use Rattle.std.proofs.Common.{pos, codes}
use Rattle.cell_base.specs.declared.key.Key.TheVariants.{Int as KeyInt}
use Rattle.saturation_cases.proofs.Fractured.{fits4, fits5}
use Rattle.saturation_cases.proofs.cycles.miss.Goals as goal

pub push-requires-3-clause-follows : goal.push-requires-3-clause-follows
push-requires-3-clause-follows c =
    rw (c.in_ok-push_define.ensures.ok, c.in_ok-push-2.ensures.ok, c.in_ok-push.ensures.ok, c.in_ok-table.ensures.value, c.requires.events)
    (fits4 (codes "t") (KeyInt (pos 1)) (KeyInt (pos 2)))

pub push-requires-4-clause-follows : goal.push-requires-4-clause-follows
push-requires-4-clause-follows c =
    rw (c.in_ok-push-3.ensures.ok, c.in_ok-push_define.ensures.ok, c.in_ok-push-2.ensures.ok, c.in_ok-push.ensures.ok, c.presence.ensures.is, c.in_ok-table.ensures.value, c.requires.events, c.requires.initial)
    (fits5 (codes "t") (KeyInt (pos 1)) (KeyInt (pos 2)))
