use Rattle.std.proofs.Common.{List, ℕ, ◌≡◌, sym, ◌∙◌, subst, arith}
use Rattle.cell_base.specs.declared.cell.Cell.{Cell}
use Rattle.cell_base.specs.declared.value.Value.{Value}
use Rattle.committed_rows.specs.Walk.{Fills, AreNewestAbove}
use Rattle.committed_rows.proofs.Above.{above_first}
use Rattle.committed_rows.proofs.Newly.{newest_all}
use Rattle.committed_rows.proofs.walk.newest_values.Goals as goal

pub loop-number-init : goal.loop-number-init
loop-number-init c = (
  subst (λ (n : ℕ). AreNewestAbove c.args.history.now.events n c.new-newest.result) (sym c.begun-number.ensures.number)
      (above_first c.args.history.now.events c.new-newest.result c.new-newest.ensures),
  let same = c.begun-number.ensures.number in omega arith,
)

pub returns : goal.returns
returns c =
    let none : c.loop-number.number ≡ 0 = omega arith in
    newest_all c.args.history.now c.loop-number.newest c.fill.new.newest c.events.ensures.formed
    (subst (λ (n : ℕ). AreNewestAbove c.args.history.now.events n c.loop-number.newest) none c.loop-number.invariant.0)
    (subst (λ (ws : List (Cell × Value)). Fills c.loop-number.newest ws c.fill.new.newest) (c.cells.ensures.items ∙ c.initial.ensures) c.in_ok-fill.ensures)
