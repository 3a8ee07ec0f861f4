use Rattle.std.proofs.Common.{ℕ, List, ◌++◌, ◌∙◌, ap, map}
use Rattle.std.specs.Fmt.{decimal}
use Rattle.history_log.proofs.Misreads.{no_numbers}
use Rattle.history_log.proofs.shapes.numbers_of.Goals as goal

pub returns-in-None : goal.returns-in-None
returns-in-None c = no_numbers c.loop-word.numbers c.in-Some.word.now c.next.new.self c.args.words.now
    (c.loop-word.invariant.0 ∙ ap (λ (ws : List (List ℕ)). map decimal c.loop-word.numbers ++ ws) c.in-Some.ensures.some) c.in-None.ensures
