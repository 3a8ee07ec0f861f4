use Rattle.std.proofs.Common.{◌≡◌, length, subst, sym}
use Rattle.cell_base.specs.declared.cell.Cell.{Cell}
use Rattle.cell_writers.specs.Writers.{numbers_at}
use Rattle.order_test.specs.Firsts.{HasWritten}
use Rattle.order_test.proofs.FirstLemmas.{written_before}
use Rattle.order_test.proofs.firsts.note_first.Goals as goal

pub returns-then-is_noted-clause-noted : goal.returns-then-is_noted-clause-noted
returns-then-is_noted-clause-noted c =
    subst (λ (x : Cell). HasWritten c.args.firsts.now x c.args.number) (sym c.in-Presence.is)
    (written_before c.args.writers.now c.args.firsts.now c.args.number c.in-Presence.table c.in-Presence.key c.requires.listed c.requires.up
    (subst (λ (x : Cell). length (numbers_at c.args.writers.now x) ≡ 0 → ⊥) c.in-Presence.is (c.is_noted.ensures c.if-is_noted.true)))

pub returns-in_ok-key-in-Presence-clause-rising : goal.returns-in_ok-key-in-Presence-clause-rising
returns-in_ok-key-in-Presence-clause-rising c = c.note_key.ensures.rising c.requires.rising
