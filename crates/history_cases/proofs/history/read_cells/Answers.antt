use Rattle.std.proofs.Common.{pos, codes}
use Rattle.cell_base.specs.declared.key.Key.TheVariants.{Int as KeyInt}
use Rattle.cell_base.specs.declared.value.Value.TheVariants.{Int}
use Rattle.history_cases.proofs.WorkedRow.{fits10, fits11, fits12}
use Rattle.history_cases.proofs.history.read_cells.Goals as goal

pub push-requires-clause-follows : goal.push-requires-clause-follows
push-requires-clause-follows c = rw c.requires.events (fits10 (codes "t") (KeyInt (pos 1)) (Int (pos 10)))

pub push-requires-2-clause-follows : goal.push-requires-2-clause-follows
push-requires-2-clause-follows c = rw (c.in_ok-push.ensures.ok, c.presence.ensures.is, c.requires.events, c.requires.initial) (fits11 (codes "t") (KeyInt (pos 1)) (Int (pos 10)))

pub push-requires-3-clause-follows : goal.push-requires-3-clause-follows
push-requires-3-clause-follows c =
    rw (c.in_ok-push-2.ensures.ok, c.in_ok-push.ensures.ok, c.presence.ensures.is, c.field.ensures.is, c.requires.events, c.requires.initial)
    (fits12 (codes "t") (KeyInt (pos 1)) (Int (pos 10)))
