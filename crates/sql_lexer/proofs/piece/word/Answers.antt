use Rattle.sql_lexer.proofs.Utf8.{word_text}
use Rattle.sql_lexer.proofs.piece.word.Goals as goal

pub folded-requires : goal.folded-requires
folded-requires c = word_text c.args.z.now c.past-end.result c.requires.utf8 c.past-end.ensures.within.1 c.past-end.ensures.stops
