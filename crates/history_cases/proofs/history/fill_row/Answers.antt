use Rattle.std.proofs.Common.{pos, codes}
use Rattle.cell_base.specs.declared.key.Key.TheVariants.{Int as KeyInt}
use Rattle.cell_base.specs.declared.value.Value.TheVariants.{Int}
use Rattle.history_cases.proofs.WorkedRow.{fits7, fits8, fits9}
use Rattle.history_cases.proofs.history.fill_row.Goals as goal

pub push-requires-clause-follows : goal.push-requires-clause-follows
push-requires-clause-follows c = rw (c.field.ensures.is, c.requires.events) (fits7 (codes "t") (KeyInt (pos 1)) (Int (pos 10)) (λ h. cc) (λ w h. cc))

pub push-requires-2-clause-follows : goal.push-requires-2-clause-follows
push-requires-2-clause-follows c = rw (c.in_ok-push.ensures.ok, c.field-2.ensures.is, c.field.ensures.is, c.requires.events) (fits8 (codes "t") (KeyInt (pos 1)) (Int (pos 10)))

pub end-requires-clause-follows : goal.end-requires-clause-follows
end-requires-clause-follows c =
    rw (c.in_ok-push-2.ensures.ok, c.in_ok-push.ensures.ok, c.field-2.ensures.is, c.field.ensures.is, c.requires.events)
    (fits9 (codes "t") (KeyInt (pos 1)) (Int (pos 10)))
