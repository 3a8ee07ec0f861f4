use Rattle.std.proofs.Common.{◌≡◌, ℕ, List, [], ◌∷◌, ◌++◌, Bool, true, false, sym, ap, ◌∙◌, subst}
use Rattle.cell_base.specs.declared.cell.Cell.{Cell}
use Rattle.cell_base.specs.declared.value.Value.{Value}
use Rattle.history_log.specs.Spelling.{cell_word, value_word}
use Rattle.history_log.specs.Reading.{FitsCell, FitsValue}
use Rattle.history_core.specs.Initial.{IsInitialState}
use Rattle.history_log.specs.Log.{IsInitialCell}
use Rattle.history_log.proofs.Spelled.{residual}
use Rattle.history_log.proofs.Misreads.{from_end, from_takes, tail}
use Rattle.history_log.proofs.Same.{same_cell, same_value}
use Rattle.history_log.proofs.draft.next_row.Goals as goal

pub returns-in_err-value : goal.returns-in_err-value
returns-in_err-value c = residual _ _ _ _ c.from_residual-in_err-value.ensures.1 (from_takes value_word FitsValue _ _ _ _ _ c.in_err-value.ensures
    (λ y is. (y.1, [], is.2.1, tail c.in_ok-cell.ensures.1 is.4)))

pub returns-in_err-take_end : goal.returns-in_err-take_end
returns-in_err-take_end c = residual _ _ _ _ c.from_residual-in_err-take_end.ensures.1 (from_end _ _ _ _ c.in_err-take_end.ensures
    (λ y is. tail c.in_ok-value.ensures.1 (tail c.in_ok-cell.ensures.1 is.4)))

same_words : (x : Cell × Value) (cell : Cell) (value : Value) (words : List (List ℕ)) → IsInitialCell x → FitsCell cell → FitsValue value → words ≡ cell_word cell ∷ value_word value ∷ []
    → words ≡ cell_word x.0 ∷ value_word x.1 ∷ [] → x ≡ (cell, value)
same_words x cell value words fx fc fv e f =
    let ce = same_cell x.0 cell fx.0 fc (firsts (sym f ∙ e)) in
    let ve = same_value x.1 value fx.1 fv (seconds (sym f ∙ e)) in
    ap (λ (k : Cell). (k, x.1)) ce ∙ ap (λ (v : Value). (cell, v)) ve where
      firsts : {a b c d : List ℕ} → a ∷ b ∷ [] ≡ c ∷ d ∷ [] → a ≡ c
      firsts e = cc

      seconds : {a b c d : List ℕ} → a ∷ b ∷ [] ≡ c ∷ d ∷ [] → b ≡ d
      seconds e = cc

apart : (b : Bool) → b ≡ false → b ≡ true → ⊥
apart b e f = cc

pub returns-else-fits_next : goal.returns-else-fits_next
returns-else-fits_next c = λ x is.
    let words = c.in_ok-cell.ensures.1 ∙ ap (λ (z : List (List ℕ)). cell_word c.in_ok-cell.cell ∷ z) (c.in_ok-value.ensures.1 ∙ ap (λ (z : List (List ℕ)). value_word c.in_ok-value.value ∷ z) c.in_ok-take_end.ensures) in
    let same = same_words x c.in_ok-cell.cell c.in_ok-value.value c.args.words.now is.2 c.in_ok-cell.ensures.0 c.in_ok-value.ensures.0 words is.4 in
    let state = subst (λ (y : Cell × Value). IsInitialState (c.args.draft.now.trace.initial ++ y ∷ [])) same is.3 in
    apart _ c.if-fits_next.false (c.fits_next.ensures.1 (subst (λ (rows : List (Cell × Value)). IsInitialState (rows ++ (c.in_ok-cell.cell, c.in_ok-value.value) ∷ [])) (sym c.as_slice.ensures) state))
