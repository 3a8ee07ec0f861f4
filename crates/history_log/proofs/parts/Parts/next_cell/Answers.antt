use Rattle.std.proofs.Common.{◌≡◌, sym, ◌∙◌}
use Rattle.history_log.specs.Cut.{cut_at}
use Rattle.history_log.specs.Compact.{compact_cell}
use Rattle.history_log.proofs.Cuts.{at_rest, last_part, next_part}
use Rattle.history_log.proofs.Plain.{cell_lacks_blank}
use Rattle.history_log.proofs.parts.Parts.next_cell.Goals as goal

pub returns-then-is_empty-clause-some : goal.returns-then-is_empty-clause-some
returns-then-is_empty-clause-some c =
    let start : c.args.self.now ≡ cut_at c.self.inside.separator c.in_ok-text.text.now = at_rest _ _ _ _ c.in_ok-text.was (sym c.self.view_is) in
    let fits = c.in_ok-cell.ensures.0 in
    (fits, start ∙ last_part _ _ _ _ (cell_lacks_blank c.self.inside.separator (compact_cell c.in_ok-cell.cell) c.if-self-ne32.false fits) c.in_ok-cell.ensures.1 c.if-is_empty.ensures)

pub returns-clause-some : goal.returns-clause-some
returns-clause-some c =
    let start : c.args.self.now ≡ cut_at c.self.inside.separator c.in_ok-text.text.now = at_rest _ _ _ _ c.in_ok-text.was (sym c.self.view_is) in
    let fits = c.in_ok-cell.ensures.0 in (
      fits,
      start ∙ next_part _ _ _ _ (cell_lacks_blank c.self.inside.separator (compact_cell c.in_ok-cell.cell) c.if-self-ne32.false fits) c.in_ok-cell.ensures.1 c.if-is_empty.ensures
          (c.if-rest-ne32.false ∙ sym c.if-self-ne32.false),
    )
