-- A column is kept where it is marked and isn't the key.
use Rattle.std.proofs.Common.{◌==◌, ◌&&◌, ◌++◌, ◌∷◌, [], Bool, ℕ, false, not, get_or, ap, sym, ◌∙◌}
use Rattle.typing_parts.proofs.Marking.{kept_more, kept_less}
use Rattle.typing_parts.proofs.marks.marked_columns.Goals.{then-is_wanted+in_ok-push, else-is_wanted}
use Rattle.typing_parts.proofs.marks.marked_columns.Goals as goal

pub loop-i-preserved : goal.loop-i-preserved
loop-i-preserved c =
    let p : ℕ → Bool = λ k. not (k == c.args.key) && get_or c.args.marks.now k false in
    elim c.if-is_wanted.branch [
      | then-is_wanted+in_ok-push w ↦
          w.columns-is ∙ w.in_ok-push.ensures.ok ∙ ap (λ ns. ns ++ c.loop-i.i ∷ []) c.loop-i.invariant
          ∙ kept_more p c.loop-i.i (sym c.is_wanted.ensures ∙ w.if-is_wanted.true)
      | else-is_wanted w ↦ w.columns-is ∙ c.loop-i.invariant ∙ kept_less p c.loop-i.i (sym c.is_wanted.ensures ∙ w.if-is_wanted.false)
    ]
