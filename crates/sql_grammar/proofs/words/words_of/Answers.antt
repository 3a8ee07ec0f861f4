use Rattle.std.proofs.Common.{rules}
use Rattle.sql_grammar.specs.Words.{letters}
use Rattle.sql_grammar.proofs.words.words_of.Goals as goal
use Rattle.sql_grammar.proofs.Letters.{of_array}

pub returns : goal.returns
unfolding letters
returns c rest = search (of_array, rules)
