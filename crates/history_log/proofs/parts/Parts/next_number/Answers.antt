use Rattle.std.proofs.Common.{◌≡◌, sym, ◌∙◌, arith}
use Rattle.history_log.specs.Cut.{cut_at}
use Rattle.history_log.proofs.Cuts.{at_rest, last_part, next_part}
use Rattle.history_log.proofs.Plain.{digits_lack}
use Rattle.history_log.proofs.parts.Parts.next_number.Goals as goal

pub returns-then-is_empty-clause-some : goal.returns-then-is_empty-clause-some
returns-then-is_empty-clause-some c =
    let start : c.args.self.now ≡ cut_at c.self.inside.separator c.in_ok-text.text.now = at_rest _ _ _ _ c.in_ok-text.was (sym c.self.view_is) in
    let low = c.if-self-ge48.false in
    (c.in_ok-number.ensures.0, start ∙ last_part _ _ _ _ (digits_lack c.self.inside.separator c.in_ok-number.number (omega arith) c.in_ok-number.ensures.0) c.in_ok-number.ensures.1 c.if-is_empty.ensures)

pub returns-clause-some : goal.returns-clause-some
returns-clause-some c =
    let start : c.args.self.now ≡ cut_at c.self.inside.separator c.in_ok-text.text.now = at_rest _ _ _ _ c.in_ok-text.was (sym c.self.view_is) in
    let low = c.if-self-ge48.false in
    (c.in_ok-number.ensures.0, start ∙ next_part _ _ _ _ (digits_lack c.self.inside.separator c.in_ok-number.number (omega arith) c.in_ok-number.ensures.0) c.in_ok-number.ensures.1 c.if-is_empty.ensures c.if-rest-self.false)
