use Rattle.std.proofs.Common.{[], ◌∷◌}
use Rattle.std.specs.Fmt.{decimal}
use Rattle.history_log.specs.Spelling.{value_word}
use Rattle.history_log.specs.Reading.{IsU32}
use Rattle.history_log.proofs.Spelled.{residual}
use Rattle.history_log.proofs.Misreads.{from_end, from_takes, tail}
use Rattle.history_log.proofs.shapes.read_of.Goals as goal

pub returns-in_err-source : goal.returns-in_err-source
returns-in_err-source c = residual _ _ _ _ c.from_residual-in_err-source.ensures.1 (from_takes decimal IsU32 _ _ _ _ _ c.in_err-source.ensures (λ y is. (y.2, decimal y.3 ∷ decimal y.4 ∷ value_word y.5 ∷ [], is.0.2, tail c.in_ok-cell.ensures.1 (tail c.in_ok-session.ensures.1 is.1))))

pub returns-in_err-count : goal.returns-in_err-count
returns-in_err-count c = residual _ _ _ _ c.from_residual-in_err-count.ensures.1 (from_takes decimal IsU32 _ _ _ _ _ c.in_err-count.ensures (λ y is. (y.3, decimal y.4 ∷ value_word y.5 ∷ [], is.0.3, tail c.in_ok-source.ensures.1 (tail c.in_ok-cell.ensures.1 (tail c.in_ok-session.ensures.1 is.1)))))

pub returns-in_err-word : goal.returns-in_err-word
returns-in_err-word c = residual _ _ _ _ c.from_residual-in_err-word.ensures.1 (from_takes decimal IsU32 _ _ _ _ _ c.in_err-word.ensures (λ y is. (y.4, value_word y.5 ∷ [], is.0.4, tail c.in_ok-count.ensures.1 (tail c.in_ok-source.ensures.1 (tail c.in_ok-cell.ensures.1 (tail c.in_ok-session.ensures.1 is.1))))))

pub returns-in_err-take_end : goal.returns-in_err-take_end
returns-in_err-take_end c = residual _ _ _ _ c.from_residual-in_err-take_end.ensures.1 (from_end _ _ _ _ c.in_err-take_end.ensures (λ y is. tail c.in_ok-value.ensures.1 (tail c.in_ok-word.ensures.1 (tail c.in_ok-count.ensures.1 (tail c.in_ok-source.ensures.1 (tail c.in_ok-cell.ensures.1 (tail c.in_ok-session.ensures.1 is.1)))))))
