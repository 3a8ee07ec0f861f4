use Rattle.std.proofs.Common.{ℕ, List, ◌++◌, ◌∙◌, ap, map}
use Rattle.history_log.specs.Spelling.{key_word}
use Rattle.history_log.proofs.Spelled.{residual}
use Rattle.history_log.proofs.Misreads.{no_keys}
use Rattle.history_log.proofs.shapes.keys_of.Goals as goal

pub returns-in_err-key_of : goal.returns-in_err-key_of
returns-in_err-key_of c = residual _ _ _ _ c.from_residual.ensures.1 (no_keys _ c.loop-word.keys c.in-Some.word.now c.next.new.self c.args.words.now
    (c.loop-word.invariant.0 ∙ ap (λ (ws : List (List ℕ)). map key_word c.loop-word.keys ++ ws) c.in-Some.ensures.some) c.in_err-key_of.ensures)
