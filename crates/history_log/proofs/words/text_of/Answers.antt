use Rattle.std.proofs.Common.{ℕ, List, sym, subst}
use Rattle.std.specs.Str.{IsUtf8}
use Rattle.history_log.proofs.Spelled.{residual, misread_text, not_utf8_text}
use Rattle.history_log.proofs.words.text_of.Goals as goal

pub returns-in_err-bytes : goal.returns-in_err-bytes
returns-in_err-bytes c = residual _ _ _ _ c.from_residual.ensures.1 (misread_text _ _ _ c.in-Some.ensures c.in_err-bytes.ensures)

pub returns-in-Err-NotUtf8 : goal.returns-in-Err-NotUtf8
returns-in-Err-NotUtf8 c = not_utf8_text _ _ _ c.in-Some.ensures c.in_ok-bytes.ensures
    (λ u. c.in-Err-NotUtf8.ensures.not_utf8.0 (cc) (subst (λ (bs : List ℕ). IsUtf8 bs) (sym c.as_slice.ensures) u))
