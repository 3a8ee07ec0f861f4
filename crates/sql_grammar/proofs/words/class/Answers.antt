use Rattle.std.proofs.Common.{◌∙◌}
use Rattle.sql_grammar.proofs.words.class.Goals as goal
use Rattle.sql_grammar.proofs.Letters.{of_word, of_no_letter}

pub returns-in-Some : goal.returns-in-Some
returns-in-Some c = c.lookup.ensures ∙ of_word _ c.args.word.now _ c.in-Some.ensures.some.1 c.words_of.ensures

pub returns-in-None : goal.returns-in-None
returns-in-None c = of_no_letter c.args.word.now c.in-None.ensures.none
