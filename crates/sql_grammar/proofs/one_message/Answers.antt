use Rattle.sql_grammar.proofs.Messages as lemma
use Rattle.sql_grammar.proofs.one_message.Goals as goal

pub returns : goal.returns
returns c = lemma.one_message
